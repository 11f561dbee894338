-- An entry of a log that has grown by one: it is the new one, or older. Assumes nothing.
use mathlib.Core.Path.{◌≡◌, ap}
use mathlib.Core.Logic.{◌⊎◌, inl, inr}
use mathlib.Core.List.Memᴰ
use mathlib.Core.List.{◌∷◌}
use Rattle.safety.proofs.Log.{Entry, tag, Log, ◌∋◌}

-- an older entry, where it is not the new one, or not of its kind
pub older : {l : Log} {e f : Entry} → (e ≡ f → ⊥) → (f ∷ l) ∋ e → l ∋ e
older {l} {e} {f} n m = go (Memᴰ.cases_cons m)
  where
    go : (e ≡ f) ⊎ (l ∋ e) → l ∋ e
    go (inl c) = absurd (n c)
    go (inr h) = h

pub past-kind : {l : Log} {e f : Entry} → (tag e ≡ tag f → ⊥) → (f ∷ l) ∋ e → l ∋ e
past-kind n m = older (λ c. n (ap tag c)) m
