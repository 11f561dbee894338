-- Where each field of a row stands, and how wide each row is: a row's fields in their order, each where the one before it ends. A field more is one line here.
-- (The first stands where the row begins. What is left up to a row's width is zero.) Numbers are high byte first. Assumes nothing.
use Rattle.std.specs.Prelude.{ℕ, ◌+◌, ◌*◌, ◌-◌}
use Rattle.rules.specs.Sets.{view_count, relay_count, desk_count, place_count, seat_count}

-- ---- How wide one field is: a flag, a small number or a set of relays; a view, a try or a count; a value

abbrev pub byte_width : ℕ
byte_width = 1

abbrev pub u16_width : ℕ
u16_width = 2

abbrev pub u32_width : ℕ
u32_width = 4

-- ---- A sequence: "at most 15" views, and how many there are

abbrev pub sequence_views : ℕ
sequence_views = 0

abbrev pub sequence_count : ℕ
sequence_count = sequence_views + view_count * u16_width

abbrev pub sequence_width : ℕ
sequence_width = sequence_count + byte_width

-- ---- A stamp and its value

abbrev pub pair_count : ℕ
pair_count = 0

abbrev pub pair_desk : ℕ
pair_desk = pair_count + u16_width

abbrev pub pair_value : ℕ
pair_value = pair_desk + byte_width

abbrev pub pair_width : ℕ
pair_width = pair_value + u32_width

-- ---- A relay's head: alive, entered, active, view, known view, pending updates, stamp and value, zeros

abbrev pub head_alive : ℕ
head_alive = 0

abbrev pub head_entered : ℕ
head_entered = head_alive + byte_width

abbrev pub head_active : ℕ
head_active = head_entered + byte_width

abbrev pub head_view : ℕ
head_view = head_active + byte_width

abbrev pub head_known : ℕ
head_known = head_view + u16_width

abbrev pub head_pending : ℕ
head_pending = head_known + u16_width

abbrev pub head_holds : ℕ
head_holds = head_pending + u16_width

abbrev pub head_zeros : ℕ
head_zeros = head_holds + pair_width

abbrev pub head_width : ℕ
head_width = 64

abbrev pub head_rest : ℕ
head_rest = head_width - head_zeros

-- ---- A generator: view, own, converged and raised sequence, the eight's proposals and convergences, a zero

abbrev pub notes_width : ℕ
notes_width = relay_count * sequence_width

abbrev pub generator_view : ℕ
generator_view = 0

abbrev pub generator_own : ℕ
generator_own = generator_view + u16_width

abbrev pub generator_converged : ℕ
generator_converged = generator_own + sequence_width

abbrev pub generator_raised : ℕ
generator_raised = generator_converged + sequence_width

abbrev pub generator_proposals : ℕ
generator_proposals = generator_raised + sequence_width

abbrev pub generator_convergences : ℕ
generator_convergences = generator_proposals + notes_width

abbrev pub generator_zeros : ℕ
generator_zeros = generator_convergences + notes_width

abbrev pub generator_width : ℕ
generator_width = 592

abbrev pub generator_rest : ℕ
generator_rest = generator_width - generator_zeros

-- ---- A transfer: old view, new view, sequence, who has sent state, best stamp and value, updates gathered, zeros

abbrev pub transfer_old : ℕ
transfer_old = 0

abbrev pub transfer_new : ℕ
transfer_new = transfer_old + u16_width

abbrev pub transfer_sequence : ℕ
transfer_sequence = transfer_new + u16_width

abbrev pub transfer_senders : ℕ
transfer_senders = transfer_sequence + sequence_width

abbrev pub transfer_best : ℕ
transfer_best = transfer_senders + byte_width

abbrev pub transfer_gathered : ℕ
transfer_gathered = transfer_best + pair_width

abbrev pub transfer_zeros : ℕ
transfer_zeros = transfer_gathered + u16_width

abbrev pub transfer_width : ℕ
transfer_width = 80

abbrev pub transfer_rest : ℕ
transfer_rest = transfer_width - transfer_zeros

-- ---- A relay: its head, 8 generators, 8 transfers

abbrev pub generators_width : ℕ
generators_width = seat_count * generator_width

abbrev pub transfers_width : ℕ
transfers_width = seat_count * transfer_width

abbrev pub relay_head : ℕ
relay_head = 0

abbrev pub relay_generators : ℕ
relay_generators = relay_head + head_width

abbrev pub relay_transfers : ℕ
relay_transfers = relay_generators + generators_width

abbrev pub relay_width : ℕ
relay_width = relay_transfers + transfers_width

-- ---- A desk: alive, phase, view, try, stamp and value, who replied, best reply, agreed, zeros

abbrev pub desk_alive : ℕ
desk_alive = 0

abbrev pub desk_phase : ℕ
desk_phase = desk_alive + byte_width

abbrev pub desk_view : ℕ
desk_view = desk_phase + byte_width

abbrev pub desk_tries : ℕ
desk_tries = desk_view + u16_width

abbrev pub desk_holds : ℕ
desk_holds = desk_tries + u16_width

abbrev pub desk_replied : ℕ
desk_replied = desk_holds + pair_width

abbrev pub desk_best : ℕ
desk_best = desk_replied + byte_width

abbrev pub desk_agreed : ℕ
desk_agreed = desk_best + pair_width

abbrev pub desk_zeros : ℕ
desk_zeros = desk_agreed + byte_width

abbrev pub desk_width : ℕ
desk_width = 64

abbrev pub desk_rest : ℕ
desk_rest = desk_width - desk_zeros

-- ---- A message: kind (0: the place is free), sender, receiver, two views, try, sequence, stamp and value, updates, zeros

abbrev pub message_kind : ℕ
message_kind = 0

abbrev pub message_from : ℕ
message_from = message_kind + byte_width

abbrev pub message_to : ℕ
message_to = message_from + byte_width

abbrev pub message_first : ℕ
message_first = message_to + byte_width

abbrev pub message_second : ℕ
message_second = message_first + u16_width

abbrev pub message_tries : ℕ
message_tries = message_second + u16_width

abbrev pub message_sequence : ℕ
message_sequence = message_tries + u16_width

abbrev pub message_pair : ℕ
message_pair = message_sequence + sequence_width

abbrev pub message_updates : ℕ
message_updates = message_pair + pair_width

abbrev pub message_zeros : ℕ
message_zeros = message_updates + u16_width

abbrev pub message_width : ℕ
message_width = 80

abbrev pub message_rest : ℕ
message_rest = message_width - message_zeros

-- ---- The kinds of messages, as a row numbers them

abbrev pub no_kind : ℕ
no_kind = 0

abbrev pub request_kind : ℕ
request_kind = 1

abbrev pub view_kind : ℕ
view_kind = 2

abbrev pub proposal_kind : ℕ
proposal_kind = 3

abbrev pub converged_kind : ℕ
converged_kind = 4

abbrev pub install_kind : ℕ
install_kind = 5

abbrev pub state_kind : ℕ
state_kind = 6

abbrev pub get_kind : ℕ
get_kind = 7

abbrev pub put_kind : ℕ
put_kind = 8

abbrev pub view_reply_kind : ℕ
view_reply_kind = 9

abbrev pub pair_reply_kind : ℕ
pair_reply_kind = 10

abbrev pub ack_kind : ℕ
ack_kind = 11

-- ---- "One lent buffer of exactly 65,536 bytes": 8 relays, 4 desks, 256 messages, zeros

abbrev pub world_relays : ℕ
world_relays = 0

abbrev pub world_desks : ℕ
world_desks = world_relays + relay_count * relay_width

abbrev pub world_places : ℕ
world_places = world_desks + desk_count * desk_width

abbrev pub world_zeros : ℕ
world_zeros = world_places + place_count * message_width

abbrev pub world_width : ℕ
world_width = 65536

abbrev pub world_rest : ℕ
world_rest = world_width - world_zeros

-- ---- where the rows of a world begin: of the relay s, its generators and transfers, the i-th of each; of the desk n; of the place p

abbrev pub relay_begin : ℕ → ℕ
relay_begin s = s * relay_width

abbrev pub generators_begin : ℕ → ℕ
generators_begin s = relay_begin s + relay_generators

abbrev pub transfers_begin : ℕ → ℕ
transfers_begin s = relay_begin s + relay_transfers

abbrev pub generator_begin : ℕ → ℕ → ℕ
generator_begin s i = generators_begin s + i * generator_width

abbrev pub transfer_begin : ℕ → ℕ → ℕ
transfer_begin s i = transfers_begin s + i * transfer_width

abbrev pub desk_begin : ℕ → ℕ
desk_begin n = world_desks + n * desk_width

abbrev pub place_begin : ℕ → ℕ
place_begin p = world_places + p * message_width
