-- `views::plus` meets its contract: the views below v, then v unless the rest begins with it, and then the rest. Assumes nothing.
use Rattle.std.proofs.Common.{◌≡◌, ◌∙◌, ℕ, Bool, true, false, cond, List, [], ◌∷◌, ◌++◌, take, drop, length, refl, ap, arith}
use Rattle.std.proofs.Common.{append_assoc, ◌<◌, ◌≤◌, not, Option, Some, None, one-add}
use Rattle.std.specs.List.{position, position_or_len, starts_with}
use Rattle.std.specs.Option.{unwrap_or}
use Rattle.std.proofs.lemmas.List.Sums.{prefix_len-le-length}
use borrow.Author.Tests.{ne_eqb, le-leb, lt-leb, ltb-true, ltb-false, eqb-true, eqb-false}
use lib.Dec.{eqb, leb, ltb}
use Rattle.views.specs.Chain.{plus_of}
use Rattle.views.proofs.Truth.{cases}
use Rattle.views.proofs.Rows.{clean_row, row_joined}
use Rattle.views.proofs.plus.Goals as goal

-- the list of two parts, with v between them unless the second begins with it
parted : ℕ → List ℕ → List ℕ → List ℕ
parted v below onward = below ++ cond (starts_with eqb onward (v ∷ [])) onward (v ∷ onward)

parts : (v : ℕ) (l : List ℕ) → plus_of v l ≡ parted v (take (position_or_len (leb v) l) l) (drop (position_or_len (leb v) l) l)
unfolding plus_of parted
parts v [] = refl
parts v (w ∷ l) =
    let n : ℕ = position_or_len (leb v) (w ∷ l) in
    let P : List ℕ → Type 0 = λ k. k ≡ parted v (take n (w ∷ l)) (drop n (w ∷ l)) in
    cases P (ltb v w) (λ e. let less : v < w = ltb-true v w e in rw (le-leb v w (omega arith), ne_eqb v w (omega arith)))
    (λ e. cases P (eqb v w) (λ f. let same : v ≡ w = eqb-true v w f in rw (le-leb v w (omega arith), f))
    (λ f.
    let above : w < v = omega (arith, ltb-false v w e, eqb-false v w f) in
    rw (lt-leb v w above, one-add) (ap (λ k. w ∷ k) (parts v l))))

-- where there is no such place it is the end
place : (v : ℕ) (l : List ℕ) → unwrap_or (position (leb v) l) (length l) ≡ position_or_len (leb v) l
place v l = at (position_or_len (leb v) l) (prefix_len-le-length (λ w. not (leb v w)) l)
  where
    at : (n : ℕ) → n ≤ length l → unwrap_or (cond (ltb n (length l)) (Some n) None) (length l) ≡ n
    at n h = go (ltb n (length l)) refl
      where
        go : (s : Bool) → ltb n (length l) ≡ s → unwrap_or (cond s (Some n) None) (length l) ≡ n
        go true e = refl
        go false e = omega (arith, ltb-false n (length l) e)

whole : (v : ℕ) (l below onward : List ℕ) (n : ℕ) (o : Option ℕ) → o ≡ position (leb v) l → n ≡ unwrap_or o (length l)
    → below ≡ take n l → onward ≡ drop n l → plus_of v l ≡ parted v below onward
whole v l below onward n o eo en eb er = parts v l ∙ rw (eb, er, en, eo, place)

pub rest-start-requires : goal.rest-start-requires
rest-start-requires c = clean_row _ _ c.empty.ensures

pub rest-requires : goal.rest-requires
rest-requires c = clean_row _ _ c.rest-start.ensures

pub push-requires : goal.push-requires
push-requires c = clean_row _ _ c.rest-start.ensures

pub rest-requires-2 : goal.rest-requires-2
rest-requires-2 c = clean_row _ _ c.push.ensures

pub returns-then-starts_with : goal.returns-then-starts_with
unfolding parted
returns-then-starts_with c =
    let e = whole c.args.v _ _ _ _ _ c.place_for.ensures.place c.unwrap_or-place.ensures c.split_at.ensures.front c.split_at.ensures.back in
    row_joined _ _ _ _ (row_joined _ _ _ _ c.empty.ensures c.rest-start.ensures) c.rest.ensures
    ∙ rw (← c.as_slice-views.ensures.views, e, ← c.starts_with.ensures.value, c.if-starts_with.true)

pub returns : goal.returns
unfolding parted
returns c =
    let e = whole c.args.v _ _ _ _ _ c.place_for.ensures.place c.unwrap_or-place.ensures c.split_at.ensures.front c.split_at.ensures.back in
    row_joined _ _ _ _ (row_joined _ _ _ _ (row_joined _ _ _ _ c.empty.ensures c.rest-start.ensures) c.push.ensures) c.rest-2.ensures
    ∙ rw (← c.as_slice-views.ensures.views, e, ← c.starts_with.ensures.value, c.if-starts_with.false, append_assoc)
