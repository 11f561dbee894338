-- "who replied, best reply, whether all stamps agreed": a desk in which a reply with a stamp and a value is noted, for any sender. Assumes nothing.
use Rattle.std.specs.Prelude.{ℕ, ltb, if◌then◌else◌}
use Rattle.stamps.specs.declared.Pair.{Pair}
use Rattle.rules.specs.declared.Desk.{Desk}
use Rattle.rules.specs.Desks.{notes_pair}

-- the relays 0 to 7 are noted; of any other number nothing is, and the desk stays as it is
unfoldable pub reply_noted : Desk → ℕ → Pair → Desk
reply_noted d from p = if ltb from 8 then notes_pair d from p else d
