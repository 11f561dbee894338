-- The earlier times of a log: `Past t l` says that l is what the log t was at some time, now or before. So an entry's place in t is the
-- log `l` before it, with `Past t (e ∷ l)`.
-- Assumes nothing.
use mathlib.Core.Path.{◌≡◌, refl, sym, subst}
use mathlib.Core.List.Memᴰ
use mathlib.Core.List.{◌∷◌}
use Rattle.safety.proofs.Setting.{Setting}
use Rattle.safety.proofs.Log.{Entry, Log, ◌∋◌, Justified, Sound, sound_cons}

pub data Past (t : Log) : Log → Type 0 where
  now : Past t t
  back : {e : Entry} {l : Log} → Past t (e ∷ l) → Past t l

pub past_later : {e : Entry} {t l : Log} → Past t l → Past (e ∷ t) l
past_later now = back now
past_later (back p) = back (past_later p)

pub past_trans : {t l m : Log} → Past t l → Past l m → Past t m
past_trans p now = p
past_trans p (back q) = back (past_trans p q)

pub past_has : {t l : Log} {e : Entry} → Past t l → l ∋ e → t ∋ e
past_has now m = m
past_has (back p) m = past_has p (Memᴰ.tail m)

-- where an entry stands
pub record Place (t : Log) (e : Entry) : Type 0 where
  pub before : Log
  pub past : Past t (e ∷ before)

pub place : {e : Entry} {t : Log} → t ∋ e → Place t e
place {e = e} (Memᴰ.head {x = x} {xs = l} c) = record { before = l; past = subst (λ (y : Entry). Past (x ∷ l) (y ∷ l)) (sym c) now }
place (Memᴰ.tail m) = let p = place m in record { before = p.before; past = past_later p.past }

pub past_tail : {f : Entry} {m : Log} {e : Entry} {l : Log} → Past (f ∷ m) (e ∷ l) → Past m l
past_tail now = now
past_tail (back p) = back (past_tail p)

-- two times: one is the past of the other
data Times (l m : Log) : Type 0 where
  at_once : l ≡ m → Times l m
  before : {e : Entry} → Past m (e ∷ l) → Times l m
  after : {e : Entry} → Past l (e ∷ m) → Times l m

times : {t l m : Log} → Past t l → Past t m → Times l m
times now now = at_once refl
times now (back q) = after q
times (back p) now = before p
times (back {e = e} {l = l} p) (back {e = f} {l = m} q) = go (times p q)
  where
    go : Times (e ∷ l) (f ∷ m) → Times l m
    go (at_once h) = at_once (cc)
    go (before r) = before (past_tail r)
    go (after r) = after (past_tail r)

-- two places: the same, or one before the other
pub data Places (e : Entry) (l : Log) (f : Entry) (m : Log) : Type 0 where
  same : e ≡ f → l ≡ m → Places e l f m
  earlier : Past m (e ∷ l) → Places e l f m
  later : Past l (f ∷ m) → Places e l f m

pub places : {t l m : Log} {e f : Entry} → Past t (e ∷ l) → Past t (f ∷ m) → Places e l f m
places {l = l} {m = m} {e = e} {f = f} p q = go (times p q)
  where
    go : Times (e ∷ l) (f ∷ m) → Places e l f m
    go (at_once h) = same (cc) (cc)
    go (before r) = earlier (past_tail r)
    go (after r) = later (past_tail r)

-- the head of a past, and the entries before one
pub here : {t l : Log} {e : Entry} → Past t (e ∷ l) → t ∋ e
here p = past_has p (Memᴰ.head refl)

module _ {C : Setting} where
  pub sound-past : {t l : Log} → Sound C t → Past t l → Sound C l
  sound-past s now = s
  sound-past s (back p) = rest (sound-past s p)
    where
      rest : {e : Entry} {l : Log} → Sound C (e ∷ l) → Sound C l
      rest (sound_cons s j) = s

  pub justified : {t l : Log} {e : Entry} → Sound C t → Past t (e ∷ l) → Justified C l e
  justified s p = last (sound-past s p)
    where
      last : {e : Entry} {l : Log} → Sound C (e ∷ l) → Justified C l e
      last (sound_cons s j) = j

  pub because : {t l : Log} {e f : Entry} → Sound C t → Past t (e ∷ l) → f ≡ e → Justified C l f
  because {l = l} s p c = subst (λ (x : Entry). Justified C l x) (sym c) (justified s p)

-- one more entry, justified
pub sound_more : {C : Setting} {l : Log} (e : Entry) → Sound C l → Justified C l e → Sound C (e ∷ l)
sound_more e s j = sound_cons {e = e} s j

-- an entry of a sound log, with its place and what justifies it there
pub record Why (C : Setting) (t : Log) (e : Entry) : Type 0 where
  pub before : Log
  pub past : Past t (e ∷ before)
  pub is : Justified C before e

pub why : {C : Setting} {t : Log} {e : Entry} → Sound C t → t ∋ e → Why C t e
why s m = let p = place m in record { before = p.before; past = p.past; is = justified s p.past }
