-- Document 01's worked example, computed from the rules: the one run that stands here. (Others are compared with the second program: docs/CERTIFICATE.md.)
-- Assumes nothing.
use Rattle.std.specs.Prelude.{◌≡◌, refl, List, [], ◌∷◌, ℕ}
use Rattle.std.specs.Int.Count.{ones, ones_in}
use Rattle.rows.specs.Bytes.{number_at}
use Rattle.rows.specs.Tests.{all, all_zero}
use Rattle.rules.specs.Sets.{member, reaches, inside, clash, some, same, plus, unite, heard, above, those}
use Rattle.rules.specs.Stamps.{sign, compared, greater, same_stamp, greatest}
use Rattle.rules.specs.Messages.{copies, outgoing}
use Rattle.rules.specs.State.{with_known, with_pending, with_active, with_holds, with_generators, with_transfers, crashed_relay, crashed_desk, start_relay, start_desk, start}
use Rattle.rules.specs.Generators.{fresh, generator_for, put_generator, with_own, proposes, agreeing, hears, settles, proposal_heard, notes_converged, raises, converged_heard}
use Rattle.rules.specs.Relays.{at_generator, join_asked, leave_asked, timer_rang, request_heard, learns, fresh_transfer, transfer_for, put_transfer, keeps, gathers, moved, enters, tested, takes_install, install_heard, state_heard, get_heard, put_heard, relay_hears}
use Rattle.rules.specs.Desks.{begins, read_asked, write_asked, view_came, notes_pair, notes_ack, takes_stamp, completes, counted, pair_came, ack_came, desk_hears}
use Rattle.rules.specs.Sending.{place, place_all, free_in, waiting_in}
use Rattle.rules.specs.Steps.{Step, told, roomy, relay_does, desk_does, if_alive, freed, delivers, delivery, dropping, crashing, acts, stepped}
use Rattle.rules.specs.Sheets.{form_of, steps_in, all_zeros_in, sheet_in}
use Rattle.rules.specs.Runs.{outcomes, last_world, sum, digits, line, step_lines, printed, rehearsed}

-- the record of a run, and that of a sheet, with all that they are made of in sight
unfoldable pub recorded : ℕ → List Step → List ℕ
unfolding crashed_relay crashed_desk ones ones_in inside clash some same plus unite heard above member reaches those sign compared greater same_stamp greatest copies outgoing with_known with_pending with_active with_holds with_generators with_transfers start_relay start_desk start fresh generator_for put_generator with_own proposes agreeing hears settles proposal_heard notes_converged raises converged_heard at_generator join_asked leave_asked timer_rang request_heard learns fresh_transfer transfer_for put_transfer keeps gathers moved enters tested takes_install install_heard state_heard get_heard put_heard relay_hears begins read_asked write_asked view_came notes_pair notes_ack takes_stamp completes counted pair_came ack_came desk_hears place place_all free_in waiting_in told roomy relay_does desk_does if_alive freed delivers delivery dropping crashing acts stepped outcomes last_world sum digits line step_lines printed
recorded mask ks = printed mask ks

unfoldable pub rehearsal_of : List ℕ → List ℕ
unfolding rehearsed sheet_in form_of steps_in number_at all_zeros_in all_zero all recorded
rehearsal_of b = rehearsed b

-- document 01's worked example, byte by byte
worked : rehearsal_of (65 ∷ 82 ∷ 83 ∷ 0 ∷ 1 ∷ 1 ∷ 5 ∷ 0 ∷ 0 ∷ 0 ∷ 0 ∷ 0 ∷ 0 ∷ 77 ∷ 6 ∷ 0 ∷ 0 ∷ 0 ∷ 0 ∷ 0 ∷ 0 ∷ 0 ∷ 6 ∷ 0 ∷ 0 ∷ 0 ∷ 0 ∷ 0 ∷ 0 ∷ 0 ∷ 6 ∷ 0 ∷ 0 ∷ 0 ∷ 0 ∷ 0 ∷ 0 ∷ 0 ∷ 6 ∷ 0 ∷ 0 ∷ 0 ∷ 0 ∷ 0 ∷ 0 ∷ 0 ∷ 4 ∷ 1 ∷ 0 ∷ 0 ∷ 0 ∷ 0 ∷ 0 ∷ 0 ∷ 6 ∷ 0 ∷ 0 ∷ 0 ∷ 0 ∷ 0 ∷ 0 ∷ 0 ∷ 6 ∷ 0 ∷ 0 ∷ 0 ∷ 0 ∷ 0 ∷ 0 ∷ 0 ∷ 6 ∷ 0 ∷ 0 ∷ 0 ∷ 0 ∷ 0 ∷ 0 ∷ 0 ∷ [])
    ≡ 115 ∷ 116 ∷ 97 ∷ 114 ∷ 116 ∷ 32 ∷ 49 ∷ 10 ∷ 49 ∷ 32 ∷ 48 ∷ 32 ∷ 48 ∷ 32 ∷ 48 ∷ 32 ∷ 48 ∷ 32 ∷ 48 ∷ 32 ∷ 48 ∷ 10 ∷ 50 ∷ 32 ∷ 48 ∷ 32 ∷ 48 ∷ 32 ∷ 48 ∷ 32 ∷ 48 ∷ 32 ∷ 48 ∷ 32 ∷ 48 ∷ 10 ∷ 51 ∷ 32 ∷ 48 ∷ 32 ∷ 48 ∷ 32 ∷ 48 ∷ 32 ∷ 48 ∷ 32 ∷ 48 ∷ 32 ∷ 48 ∷ 10 ∷ 52 ∷ 32 ∷ 48 ∷ 32 ∷ 48 ∷ 32 ∷ 48 ∷ 32 ∷ 48 ∷ 32 ∷ 48 ∷ 32 ∷ 48 ∷ 10 ∷ 53 ∷ 32 ∷ 48 ∷ 32 ∷ 51 ∷ 32 ∷ 48 ∷ 32 ∷ 49 ∷ 32 ∷ 48 ∷ 32 ∷ 55 ∷ 55 ∷ 10 ∷ 54 ∷ 32 ∷ 48 ∷ 32 ∷ 48 ∷ 32 ∷ 48 ∷ 32 ∷ 48 ∷ 32 ∷ 48 ∷ 32 ∷ 48 ∷ 10 ∷ 55 ∷ 32 ∷ 48 ∷ 32 ∷ 48 ∷ 32 ∷ 48 ∷ 32 ∷ 48 ∷ 32 ∷ 48 ∷ 32 ∷ 48 ∷ 10 ∷ 56 ∷ 32 ∷ 48 ∷ 32 ∷ 50 ∷ 32 ∷ 49 ∷ 32 ∷ 49 ∷ 32 ∷ 48 ∷ 32 ∷ 55 ∷ 55 ∷ 10 ∷ 57 ∷ 32 ∷ 51 ∷ 32 ∷ 48 ∷ 32 ∷ 48 ∷ 32 ∷ 48 ∷ 32 ∷ 48 ∷ 32 ∷ 48 ∷ 10 ∷ 101 ∷ 110 ∷ 100 ∷ 32 ∷ 54 ∷ 32 ∷ 54 ∷ 32 ∷ 48 ∷ 32 ∷ 48 ∷ 10 ∷ []
unfolding rehearsal_of
worked = refl
