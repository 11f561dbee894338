-- What a step asks of a relay or a desk, and how much an answer sends at the most. Assumes nothing.
use Rattle.std.specs.Prelude.{ℕ, ◌≤◌, eqb, length, if◌then◌else◌}
use Rattle.rules.specs.Messages.{Answer, refused, does}
use Rattle.rules.specs.State.{Relay}
use Rattle.rules.specs.declared.Desk.{Desk}
use Rattle.rules.specs.Relays.{join_asked, leave_asked, timer_rang}
use Rattle.rules.specs.Steps.{JOIN, LEAVE, WRITE}
use Rattle.rules.specs.Desks.{read_asked, write_asked}
use Rattle.state.specs.Plans.{most}

-- "1 JOIN relay, 2 LEAVE relay, 3 TIMER relay"
unfoldable pub relay_asked : ℕ → ℕ → Relay → Answer Relay
relay_asked kind s r = if eqb kind JOIN then join_asked s r else if eqb kind LEAVE then leave_asked s r else timer_rang r

-- "4 READ desk, 5 WRITE desk value"
unfoldable pub desk_asked : ℕ → ℕ → Desk → Answer Desk
desk_asked kind x d = if eqb kind WRITE then write_asked d x else read_asked d

-- it sends no more than a plan has room for
unfoldable pub Few : {A : Type 0} → Answer A → Type 0
Few (refused x) = Unit {0}
Few (does a ss e) = length ss ≤ most
