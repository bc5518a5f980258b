-- All that a step of the station and its event compute with, opened at once.
use Rattle.quorum.specs.Quorum.{is_quorum}
use Rattle.quorum.specs.Smallest.{smallest}
use Rattle.octets.specs.Octets.{get, put, le}
use Rattle.wire.specs.Decode.{entry_at, items_from, decode, accepted, check_of}
use Rattle.wire.specs.Encode.{encode_entry, together, encode}
use Rattle.wire.specs.Formed.{counts_ok, ascend, entry_ok, rival_ok, entries_ok, rivals_ok, well_formed}
use Rattle.wire.specs.Run.{run}
use Rattle.letters.specs.Write.{rivals_by}
use Rattle.image.specs.Blank.{counted}
use Rattle.image.specs.Field.{field_of, with_field}
use Rattle.judge.specs.Judge.{some, some_below, held_by_another, newer_here, gathered, rivals_of, older_among, votes_no, named_below, serials_of}
use Rattle.judge.specs.Standing.{above_of, standing, active, entered}
use Rattle.replica.specs.Steps.{fetch_image, copy_here, fetch_answer, holding, judged_answer, ask_answer, applied, decided}
use Rattle.worked.proofs.Swift.{behind, walk, swept}
use Rattle.worked.proofs.Quick.{quick_blank, quick_step}
use Rattle.coordinator.specs.Calls.{begin_refusals, begun, begin_of, open_refusals, opened, open_of, set_refusals, with_new, set_of, found_refusals, found_of}
use Rattle.coordinator.specs.Calls.{request_commit_refusals, requested, request_commit_of}
use Rattle.coordinator.specs.State.{idle_after, place_in, all_settled, any_used_up, step_of}
use Rattle.arrivals.specs.Receive.{with_copy, copy_fits, copy_taken, raise_from, with_yes, vote_taken, with_done, done_taken, delivered, receive_refusals}
use Rattle.arrivals.specs.Receive.{receive_of}
use Rattle.due.specs.Due.{with_next, entries_below, entries_of, message_due}
use Rattle.due.specs.Kind.{open_due, voting_due, finishing_due, due_kind, due_refusals}
use Rattle.steps.specs.Station.{put_at}
use Rattle.steps.specs.Step.{hosted, send_number, send_of, answered, at_coordinator, step}
use Rattle.history.specs.Ledger.{noted, note, given_to, last_value, last_writer}
use Rattle.protocol.specs.State.{Tx-discrete}
use Rattle.protocol.specs.Table.{pick, both, put2}
use Rattle.protocol.specs.Table.{put as put·protocol}

unfoldable pub computed : Type 0
unfolding is_quorum smallest get put le entry_at items_from decode accepted check_of encode_entry together encode counts_ok ascend entry_ok rival_ok entries_ok
    rivals_ok well_formed run rivals_by behind walk swept quick_blank quick_step counted field_of with_field some some_below held_by_another newer_here
    gathered
    rivals_of older_among votes_no named_below serials_of above_of standing active entered fetch_image copy_here fetch_answer holding judged_answer ask_answer
    applied decided begin_refusals begun begin_of open_refusals opened open_of set_refusals with_new set_of found_refusals found_of request_commit_refusals
    requested request_commit_of idle_after place_in all_settled any_used_up step_of with_copy copy_fits copy_taken raise_from with_yes vote_taken with_done
    done_taken
    delivered receive_refusals receive_of with_next entries_below entries_of message_due open_due voting_due finishing_due due_kind due_refusals put_at hosted
    send_number send_of answered at_coordinator step noted note given_to last_value last_writer Tx-discrete pick both put·protocol put2
computed = Unit {0}
