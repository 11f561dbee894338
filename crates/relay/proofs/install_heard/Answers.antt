-- `relay::install_heard` meets its contract. Assumes nothing.
use mathlib.Core.Path.{sym, ◌∙◌}
use mathlib.Core.Bool.{◌&&◌}
use Rattle.rules.specs.Sets.{member, inside}
use Rattle.rules.specs.Relays.{install_heard}
use Rattle.state.specs.Meaning.{relay_of, part_of}
use Rattle.messages.proofs.Made.{none, made_says, sent_says}
use Rattle.relay.proofs.Laws.{first_answer, stopped_shows}
use Rattle.relay.proofs.install_heard.Goals as goal

pub takes_install-later-requires : goal.takes_install-later-requires
takes_install-later-requires c =
    rw c.stopped.ensures (stopped_shows (member c.args.o c.args.s && inside (part_of c.args.p).view c.args.w) (part_of c.args.p) c.args.o c.args.w
    (sym c.if-not-shows.ensures))

pub returns : goal.returns
unfolding install_heard part_of relay_of
returns c =
    first_answer _ _ _ c.sent_first.ensures c.takes_install-later.ensures ∙ rw (
      sent_says c.to_members.ensures (made_says _ _ c.state-body.ensures none),
      c.stopped.ensures,
      ← c.if-not-shows.ensures,
      ← c.if-early.ensures,
      ← c.if-not-is_member.ensures,
    )
