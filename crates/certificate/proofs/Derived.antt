-- What types derive, in words: the promise that Determined.antt has of a derived function is what the prover makes of the type's fields, and each of these is
-- said here. `==` answers true of two equal values and of no others; stamps have document 01's order; the default value is the fresh record. Assumes nothing.
use Rattle.std.specs.Prelude.{Some}
use mathlib.Core.Path.{◌≡◌, refl, ap₂, subst}
use mathlib.Core.Bool.{Bool, true, false, ◌&&◌}
use Prim.Native.Nat.{ℕ}
use lib.Dec.{eqb}
use borrow.Author.Tests.{eqb-true, eq-eqb, clash}
use denote.Enum.Declared.{Declared}
use denote.Enum.Bare.{Bare, sameb, same_true, true_same}
use Rattle.stamps.specs.Stamp.{compared_of, same_of, fresh_pair}
use Rattle.stamps.specs.declared.Stamp.{Stamp}
use Rattle.stamps.specs.declared.Pair.{Pair}
use Rattle.stamps.specs.contracts.StampPartialEq.TheImpl.{ghosts as stamp_partial_eq}
use Rattle.stamps.specs.contracts.StampPartialOrd.TheImpl.{ghosts as stamp_partial_ord}
use Rattle.stamps.specs.contracts.StampOrd.TheImpl.{ghosts as stamp_ord}
use Rattle.stamps.specs.contracts.StampOrd.TheImpl.Laws as stamp_laws
use Rattle.stamps.specs.contracts.StampDefault.TheImpl.{ghosts as stamp_default}
use Rattle.stamps.specs.contracts.PairPartialEq.TheImpl.{ghosts as pair_partial_eq}
use Rattle.stamps.specs.contracts.PairDefault.TheImpl.{ghosts as pair_default}
use Rattle.stamps.proofs.Derived.{number, numbered, same_derived}
use Rattle.rules.specs.declared.Step.{Step}
use Rattle.rules.specs.contracts.Refusal as refusal
use Rattle.rules.specs.contracts.RefusalPartialEq.TheImpl.{ghosts as refusal_partial_eq}
use Rattle.rules.specs.contracts.StepKind as step_kind
use Rattle.rules.specs.contracts.StepKindPartialEq.TheImpl.{ghosts as step_kind_partial_eq}
use Rattle.rules.specs.contracts.StepPartialEq.TheImpl.{ghosts as step_partial_eq}
use Rattle.rules.specs.contracts.Phase as phase
use Rattle.rules.specs.contracts.PhasePartialEq.TheImpl.{ghosts as phase_partial_eq}
use Rattle.layout.specs.contracts.MessageKind as message_kind
use Rattle.layout.specs.contracts.MessageKindPartialEq.TheImpl.{ghosts as message_kind_partial_eq}
use Rattle.sheet.specs.declared.Sheet.{Sheet}
use Rattle.sheet.specs.contracts.SheetPartialEq.TheImpl.{ghosts as sheet_partial_eq}

-- ---- equal values

-- a test that answers true of two equal values, and of no others
abbrev pub TellsEqual : {A : Type 0} → (A → A → Bool) → Type 0
TellsEqual {A} f = (x y : A) → (f x y ≡ true → x ≡ y) × (x ≡ y → f x y ≡ true)

-- it is enough that it answers true of a value and itself
tells : {A : Type 0} (f : A → A → Bool) → ((x y : A) → f x y ≡ true → x ≡ y) → ((x : A) → f x x ≡ true) → TellsEqual f
tells f same itself x y = (same x y, λ e. subst (λ z. f x z ≡ true) e (itself x))

first : (s t : Bool) → (s && t) ≡ true → s ≡ true
first true t e = refl
first false t e = e

second : (s t : Bool) → (s && t) ≡ true → t ≡ true
second true t e = e
second false t e = absurd (clash e)

itself : (n : ℕ) → eqb n n ≡ true
itself n = eq-eqb n n refl

-- a choice without fields
pub choice_equal : (D : Declared) → Bare D.parts → TellsEqual (sameb D)
choice_equal D bare x y = (same_true D bare x y, true_same D x y)

pub refusals : TellsEqual refusal_partial_eq.eq
refusals = choice_equal refusal.the_type tt

pub step_kinds : TellsEqual step_kind_partial_eq.eq
step_kinds = choice_equal step_kind.the_type tt

pub phases : TellsEqual phase_partial_eq.eq
phases = choice_equal phase.the_type tt

pub message_kinds : TellsEqual message_kind_partial_eq.eq
message_kinds = choice_equal message_kind.the_type tt

-- a struct, each of whose fields is equal
stamp_same : (x y : Stamp) → stamp_partial_eq.eq x y ≡ true → x ≡ y
stamp_same x y e = λ i. record { count = eqb-true x.count y.count (first _ _ e) i; desk = eqb-true x.desk y.desk (second _ _ e) i }

stamp_itself : (x : Stamp) → stamp_partial_eq.eq x x ≡ true
stamp_itself x = ap₂ ◌&&◌ (itself x.count) (itself x.desk)

pub stamps : TellsEqual stamp_partial_eq.eq
stamps = tells stamp_partial_eq.eq stamp_same stamp_itself

pair_same : (x y : Pair) → pair_partial_eq.eq x y ≡ true → x ≡ y
pair_same x y e = λ i. record { stamp = stamp_same x.stamp y.stamp (first _ _ e) i; value = eqb-true x.value y.value (second _ _ e) i }

pub pairs : TellsEqual pair_partial_eq.eq
pairs = tells pair_partial_eq.eq pair_same (λ x. ap₂ ◌&&◌ (stamp_itself x.stamp) (itself x.value))

step_same : (x y : Step) → step_partial_eq.eq x y ≡ true → x ≡ y
step_same x y e = λ i. record {
  kind = eqb-true x.kind y.kind (first _ _ e) i;
  id = eqb-true x.id y.id (first _ _ (second _ _ e)) i;
  value = eqb-true x.value y.value (second _ _ (second _ _ e)) i;
}

pub steps : TellsEqual step_partial_eq.eq
steps = tells step_partial_eq.eq step_same (λ x. ap₂ ◌&&◌ (itself x.kind) (ap₂ ◌&&◌ (itself x.id) (itself x.value)))

sheet_same : (x y : Sheet) → sheet_partial_eq.eq x y ≡ true → x ≡ y
sheet_same x y e = λ i. record { mask = eqb-true x.mask y.mask (first _ _ e) i; steps = eqb-true x.steps y.steps (second _ _ e) i }

pub sheets : TellsEqual sheet_partial_eq.eq
sheets = tells sheet_partial_eq.eq sheet_same (λ x. ap₂ ◌&&◌ (itself x.mask) (itself x.steps))

-- ---- stamps

-- `==` of two stamps is "if all stamps agreed"
pub stamps_agree : (a b : Stamp) → stamp_partial_eq.eq a b ≡ same_of a b
stamps_agree a b = same_derived a b

-- "ordered by count, then desk"; an answer counts as minus one, zero or one
pub stamps_ordered : (a b : Stamp) → number (stamp_ord.cmp a b) ≡ compared_of a b
stamps_ordered a b = numbered a b

-- any two can be compared, and that is the order
pub stamps_compared : (a b : Stamp) → stamp_partial_ord.partial_cmp a b ≡ Some (stamp_ord.cmp a b)
stamps_compared a b = stamp_laws.matches_partial_cmp-law a b

-- "Fresh record: stamp (0,0), value 0."
pub fresh_stamp : (x : Stamp) → stamp_default.is_default x → x ≡ fresh_pair.stamp
fresh_stamp x d = λ i. record { count = d.0 i; desk = d.1 i }

pub fresh_record : (x : Pair) → pair_default.is_default x → x ≡ fresh_pair
fresh_record x d = λ i. record { stamp = fresh_stamp x.stamp d.0 i; value = d.1 i }
