-- `stamps::compare` meets its contract: the library's three answers are the numbers minus one, zero and one. Assumes nothing.
use Rattle.std.proofs.Common.{◌≡◌, ◌∙◌, refl, ◌+ℤ◌, negsuc, to_z, of_z, w8}
use Rattle.std.specs.declared.cmp.Ordering.{Ordering}
use Rattle.std.specs.declared.cmp.Ordering.TheVariants.{Less, Equal, Greater}
use Rattle.std.specs.contracts.cmp.Ordering as ordering
use denote.Enum.Declared.{tag_of}
use Rattle.stamps.proofs.Derived.{number, numbered}
use Rattle.stamps.proofs.compare.Goals as goal

cast : (o : Ordering) → to_z w8 (of_z w8 (to_z w8 (tag_of ordering.the_type o) +ℤ negsuc 0)) ≡ number o
cast Less = refl
cast Equal = refl
cast Greater = refl

pub returns : goal.returns
returns c = rw c.cmp.ensures (cast _ ∙ numbered c.args.a c.args.b)
