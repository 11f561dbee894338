-- "The world": its parts, and the start. Assumes nothing.
use Rattle.std.specs.Prelude.{Bool, true, false, List, [], ◌∷◌, map, ℕ, get_or, set, replicate, if◌then◌else◌}
use Rattle.rules.specs.Sets.{bit}
use Rattle.rules.specs.Stamps.{Pair, zero_pair}
use Rattle.rules.specs.Messages.{Message}
-- "Desk: alive, view, phase (idle, read 1, read 2, write 1, write 2), try 0..65,535, value, stamp, who replied, best reply, whether all stamps agreed."
-- Declared with the code: `tries` is the try, `holds` its stamp and value.
pub use Rattle.rules.specs.declared.Desk.{Desk}
pub use Rattle.rules.specs.declared.Phase.{Phase}
pub use Rattle.rules.specs.declared.Phase.TheVariants.{Idle, Read1, Read2, Write1, Write2}

-- "Generator (one per view): own sequence, converged sequence, last raised sequence; the last proposal and the last convergence heard from each of the eight."
-- A sequence is the ascending list of its views; [] where nothing was heard.
pub record Generator : Type 0 where
  pub view : ℕ
  pub own : List ℕ
  pub converged : List ℕ
  pub raised : List ℕ
  pub proposals : List (List ℕ)
  pub convergences : List (List ℕ)

-- "Transfer (one per pair old view, new view): sequence if the install has come, who has sent state, best stamp and value, updates gathered."
pub record Transfer : Type 0 where
  pub old : ℕ
  pub new : ℕ
  pub sequence : List ℕ
  pub senders : ℕ
  pub best : Pair
  pub gathered : ℕ

-- "Relay: alive, its view, entered or not, active or not, known view, pending updates, stamp and value; up to 8 generators; up to 8 transfers."
-- The lists hold the filled places, lowest first.
pub record Relay : Type 0 where
  pub alive : Bool
  pub view : ℕ
  pub entered : Bool
  pub active : Bool
  pub known : ℕ
  pub pending : ℕ
  pub holds : Pair
  pub generators : List Generator
  pub transfers : List Transfer

-- "Messages: 256 places"
pub data Place : Type 0 where
  free : Place
  waiting : Message → Place

pub record World : Type 0 where
  pub relays : List Relay
  pub desks : List Desk
  pub places : List Place

-- ---- one part changed, the others as they were

unfoldable pub with_known : Relay → ℕ → Relay
with_known r v = record { alive = r.alive; view = r.view; entered = r.entered; active = r.active; known = v; pending = r.pending; holds = r.holds; generators = r.generators; transfers = r.transfers }

unfoldable pub with_pending : Relay → ℕ → Relay
with_pending r u = record { alive = r.alive; view = r.view; entered = r.entered; active = r.active; known = r.known; pending = u; holds = r.holds; generators = r.generators; transfers = r.transfers }

unfoldable pub with_active : Relay → Bool → Relay
with_active r b = record { alive = r.alive; view = r.view; entered = r.entered; active = b; known = r.known; pending = r.pending; holds = r.holds; generators = r.generators; transfers = r.transfers }

unfoldable pub with_holds : Relay → Pair → Relay
with_holds r p = record { alive = r.alive; view = r.view; entered = r.entered; active = r.active; known = r.known; pending = r.pending; holds = p; generators = r.generators; transfers = r.transfers }

unfoldable pub with_generators : Relay → List Generator → Relay
with_generators r gs = record { alive = r.alive; view = r.view; entered = r.entered; active = r.active; known = r.known; pending = r.pending; holds = r.holds; generators = gs; transfers = r.transfers }

unfoldable pub with_transfers : Relay → List Transfer → Relay
with_transfers r ts = record { alive = r.alive; view = r.view; entered = r.entered; active = r.active; known = r.known; pending = r.pending; holds = r.holds; generators = r.generators; transfers = ts }

unfoldable pub crashed_relay : Relay → Relay
crashed_relay r = record { alive = false; view = r.view; entered = r.entered; active = r.active; known = r.known; pending = r.pending; holds = r.holds; generators = r.generators; transfers = r.transfers }

unfoldable pub crashed_desk : Desk → Desk
crashed_desk d = record { alive = false; view = d.view; phase = d.phase; tries = d.tries; holds = d.holds; replied = d.replied; best = d.best; agreed = d.agreed }

-- ---- a part of the world, by its number

abbrev pub no_relay : Relay
no_relay = record { alive = false; view = 0; entered = false; active = false; known = 0; pending = 0; holds = zero_pair; generators = []; transfers = [] }

abbrev pub no_desk : Desk
no_desk = record { alive = false; view = 0; phase = Idle; tries = 0; holds = zero_pair; replied = 0; best = zero_pair; agreed = false }

abbrev pub relay_at : World → ℕ → Relay
relay_at w s = get_or w.relays s no_relay

abbrev pub desk_at : World → ℕ → Desk
desk_at w d = get_or w.desks d no_desk

abbrev pub place_at : World → ℕ → Place
place_at w p = get_or w.places p free

abbrev pub with_relay : World → ℕ → Relay → World
with_relay w s r = record { relays = set w.relays s r; desks = w.desks; places = w.places }

abbrev pub with_desk : World → ℕ → Desk → World
with_desk w n d = record { relays = w.relays; desks = set w.desks n d; places = w.places }

abbrev pub with_places : World → List Place → World
with_places w ps = record { relays = w.relays; desks = w.desks; places = ps }

-- ---- the start

-- "All relays and desks know the view of those joins; its relays are entered and active, the others have view 0 and aren't."
unfoldable pub start_relay : ℕ → ℕ → Relay
start_relay mask s =
    record {
      alive = true;
      view = if bit mask s then mask else 0;
      entered = bit mask s;
      active = bit mask s;
      known = mask;
      pending = 0;
      holds = zero_pair;
      generators = [];
      transfers = [];
    }

unfoldable pub start_desk : ℕ → Desk
start_desk mask = record { alive = true; view = mask; phase = Idle; tries = 0; holds = zero_pair; replied = 0; best = zero_pair; agreed = false }

-- "Start: a mask 1..255 of relays."; "256 places, all empty at a start"
unfoldable pub start : ℕ → World
start mask =
    record {
      relays = map (start_relay mask) (0 ∷ 1 ∷ 2 ∷ 3 ∷ 4 ∷ 5 ∷ 6 ∷ 7 ∷ []);
      desks = replicate 4 (start_desk mask);
      places = replicate 256 free;
    }
