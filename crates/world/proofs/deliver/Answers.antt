-- `world::deliver` meets its contract. Assumes nothing.
use mathlib.Core.Bool.{true, false}
use mathlib.Core.List.{List}
use mathlib.Core.Path.{◌≡◌, refl, sym, ◌∙◌}
use Prim.Native.Nat.{ℕ, ◌<◌}
use borrow.Author.Rules.{rules}
use borrow.Author.Tests.{not-true, not-false}
use Rattle.rules.specs.Messages.{empty, dead}
use Rattle.rules.specs.declared.Refusal.TheVariants.{Empty, Dead}
use Rattle.rules.specs.State.{waiting, place_at}
use Rattle.rules.specs.Steps.{alive_in, acts, freed, delivers}
use Rattle.rules.specs.Steps as steps
use Rattle.layout.specs.Image.{world_at, good_bytes}
use Rattle.layout.specs.Layout.{place_begin}
use Rattle.layout.specs.Lent.{left, kept}
use Rattle.state.specs.Meaning.{message_of}
use Rattle.state.specs.declared.Message.{Message}
use Rattle.image.specs.Parts.{message_row_at}
use Rattle.world.specs.Commits.{free_row}
use Rattle.image.proofs.Meaning.{message-read}
use Rattle.world.proofs.Commit.{refused_kept}
use Rattle.world.proofs.Routes.{deliver_empty, place-holds, held_good, held-dead, held-alive, to_below}
use Rattle.world.proofs.deliver.Goals as goal

-- the message of a place that is not free, as it is read
module _ (b : List ℕ) (good : good_bytes b ≡ true) (p : ℕ) (place : p < 256) (filled : free_row b p ≡ false) (m : Message)
    (read : m ≡ message_row_at b (place_begin p)) where
  held : place_at (world_at b) p ≡ waiting (message_of m)
  held = place-holds b good p place m filled (message-read _ _ read)

  below : m.to < 12
  unfolding message_of
  below = to_below (message_of m) _ (held_good b good p place (message_of m) held)

  unheard : alive_in (world_at b) m.to ≡ false → kept dead b ≡ left b (acts (world_at b) (steps.deliver p))
  unfolding message_of
  unheard e = held-dead b good p place (message_of m) held e

  heard : alive_in (world_at b) m.to ≡ true
      → left b (delivers (freed (world_at b) p) (message_of m)) ≡ left b (acts (world_at b) (steps.deliver p))
  unfolding message_of
  heard e = held-alive b good p place (message_of m) held e

pub returns-then-is_free : goal.returns-then-is_free
returns-then-is_free c =
    let small : c.args.p < 256 = search rules in
    refused_kept Empty empty c.args.w.now refl ∙ deliver_empty c.args.w.now c.requires c.args.p small (sym c.is_free.ensures ∙ c.if-is_free.true)

pub alive_at-requires : goal.alive_at-requires
alive_at-requires c =
    below c.args.w.now c.requires c.args.p (search rules) (sym c.is_free.ensures ∙ c.if-is_free.false) _ c.message_at-m.ensures

pub returns-then-not-alive_at : goal.returns-then-not-alive_at
returns-then-not-alive_at c =
    refused_kept Dead dead c.args.w.now refl
    ∙ unheard c.args.w.now c.requires c.args.p (search rules) (sym c.is_free.ensures ∙ c.if-is_free.false) _ c.message_at-m.ensures
    (sym c.alive_at.ensures ∙ not-true _ c.if-not-alive_at.true-raw)

pub to_relay-requires : goal.to_relay-requires
to_relay-requires c =
    let is = held c.args.w.now c.requires c.args.p (search rules) (sym c.is_free.ensures ∙ c.if-is_free.false) _ c.message_at-m.ensures in
    (c.requires, (is, c.if-m-lt-FIRST_DESK.true))

pub returns-then-m-lt-FIRST_DESK : goal.returns-then-m-lt-FIRST_DESK
returns-then-m-lt-FIRST_DESK c =
    c.to_relay.ensures
    ∙ heard c.args.w.now c.requires c.args.p (search rules) (sym c.is_free.ensures ∙ c.if-is_free.false) _ c.message_at-m.ensures
    (sym c.alive_at.ensures ∙ not-false _ c.if-not-alive_at.false-raw)

pub to_desk-requires : goal.to_desk-requires
to_desk-requires c =
    let is = held c.args.w.now c.requires c.args.p (search rules) (sym c.is_free.ensures ∙ c.if-is_free.false) _ c.message_at-m.ensures in
    let low = below c.args.w.now c.requires c.args.p (search rules) (sym c.is_free.ensures ∙ c.if-is_free.false) _ c.message_at-m.ensures in
    (c.requires, (is, (c.if-m-lt-FIRST_DESK.false, low)))

pub returns : goal.returns
returns c =
    c.to_desk.ensures
    ∙ heard c.args.w.now c.requires c.args.p (search rules) (sym c.is_free.ensures ∙ c.if-is_free.false) _ c.message_at-m.ensures
    (sym c.alive_at.ensures ∙ not-false _ c.if-not-alive_at.false-raw)
