use mathlib.Core.Path.{◌≡◌, refl, ap₂}
use mathlib.Core.List.{List, ◌∷◌}
use Rattle.state.specs.Seq.{all_b, some_b, each}
use Rattle.multi_cycle_list.specs.Lists.{count, without}
use Rattle.multi_cycle_list.specs.Nodes.{trace, trace_end, list_of, lists_of, linked_at, sizes_b as list_sizes, whole_b as whole_list}
use Rattle.multi_cycle_list.specs.Laid.{path, arcs, after, before, twos, laid_out}
use Rattle.index_entries.specs.Keys.{find}
use Rattle.index_entries.specs.Bytes.{sizes_b, lists_b, whole_b}
use Rattle.index_entries.specs.Laid.{words, longs, laid}
use Rattle.index_queue.specs.Calls.{get, insert, remove, opening}
use Rattle.entry_tree.specs.Places.{read as read_tree, places, laid as laid_tree}
use Rattle.regular.specs.Registry.{whole_b as whole_registry}
use Rattle.regular.specs.Bytes.{sizes_b as sizes_regular, whole_b as whole_regular, laid as laid_regular}
use Rattle.regular.specs.Steps.{register, unregister, steps, poll_pop, hub_push_start, hub_push_next}
use Rattle.regular.specs.Calls.{opening as opening_regular}
use Rattle.loop_back.specs.Registry.{whole_b as whole_loop}
use Rattle.loop_back.specs.Bytes.{whole_b as whole_loop_back, laid as laid_loop_back}
use Rattle.loop_back.specs.Steps.{register as register_loop_back, hub_push_start as start_loop_back, hub_push_next as next_loop_back}
use Rattle.loop_back.specs.Calls.{opening as opening_loop_back}
use Rattle.emcyphal_core.specs.Sets.{bits, first_in}
use Rattle.tx_queue.specs.TxQueue.{first_from, whole_b as whole_queue}
use Rattle.tx_queue.specs.Bytes.{sizes_b as sizes_queue, whole_b as whole_responses, laid as laid_responses}
use Rattle.tx_queue.specs.Steps.{register as register_response, pick as pick_response, settle as settle_response}
use Rattle.tx_queue.specs.Calls.{opening as opening_responses}
use Rattle.tx_msg.specs.Registry.{whole_b as whole_message}
use Rattle.tx_msg.specs.Bytes.{whole_b as whole_messages, laid as laid_messages}
use Rattle.tx_msg.specs.Steps.{register as register_message}
use Rattle.tx_msg.specs.Calls.{opening as opening_messages}
use Rattle.gomxeli.specs.Answers.{packed}
use Rattle.gomxeli.specs.Calls.{run, left}
use Rattle.cases.specs.Table.{Row, Seen, found, expected, table, fresh_poll, shared_subject, three_subjects, only_one, first_subject, last_subject, lost_slot, removed_on_walk, loop_back_walk, last_frame_of_message, last_frame_of_response, next_frame_of_message, next_frame_of_response, key_twice}
use Rattle.cases.proofs.cases.Goals as goal

abbrev AsExpected : Row → Type 0
AsExpected r = found r ≡ expected r

fresh-poll : AsExpected fresh_poll
unfolding all_b some_b each count without trace trace_end list_of lists_of linked_at list_sizes whole_list path arcs after before twos laid_out read_tree places laid_tree whole_registry sizes_regular whole_regular laid_regular register unregister steps poll_pop hub_push_start hub_push_next opening_regular run left packed fresh_poll
fresh-poll = refl

shared-subject : AsExpected shared_subject
unfolding all_b some_b each count without trace trace_end list_of lists_of linked_at list_sizes whole_list path arcs after before twos laid_out read_tree places laid_tree whole_registry sizes_regular whole_regular laid_regular register unregister steps poll_pop hub_push_start hub_push_next opening_regular run left packed shared_subject
shared-subject = refl

three-subjects : AsExpected three_subjects
unfolding all_b some_b each count without trace trace_end list_of lists_of linked_at list_sizes whole_list path arcs after before twos laid_out read_tree places laid_tree whole_registry sizes_regular whole_regular laid_regular register unregister steps poll_pop hub_push_start hub_push_next opening_regular run left packed three_subjects
three-subjects = refl

only_one_lem : AsExpected only_one
unfolding all_b some_b each count without trace trace_end list_of lists_of linked_at list_sizes whole_list path arcs after before twos laid_out read_tree places laid_tree whole_registry sizes_regular whole_regular laid_regular register unregister steps poll_pop hub_push_start hub_push_next opening_regular run left packed only_one
only_one_lem = refl

first-subject : AsExpected first_subject
unfolding all_b some_b each count without trace trace_end list_of lists_of linked_at list_sizes whole_list path arcs after before twos laid_out read_tree places laid_tree whole_registry sizes_regular whole_regular laid_regular register unregister steps poll_pop hub_push_start hub_push_next opening_regular run left packed first_subject
first-subject = refl

last-subject : AsExpected last_subject
unfolding all_b some_b each count without trace trace_end list_of lists_of linked_at list_sizes whole_list path arcs after before twos laid_out read_tree places laid_tree whole_registry sizes_regular whole_regular laid_regular register unregister steps poll_pop hub_push_start hub_push_next opening_regular run left packed last_subject
last-subject = refl

lost-slot : AsExpected lost_slot
unfolding all_b some_b each count without trace trace_end list_of lists_of linked_at list_sizes whole_list path arcs after before twos laid_out read_tree places laid_tree whole_registry sizes_regular whole_regular laid_regular register unregister steps poll_pop hub_push_start hub_push_next opening_regular run left packed lost_slot
lost-slot = refl

removed-on-walk : AsExpected removed_on_walk
unfolding all_b some_b each count without trace trace_end list_of lists_of linked_at list_sizes whole_list path arcs after before twos laid_out read_tree places laid_tree whole_registry sizes_regular whole_regular laid_regular register unregister steps poll_pop hub_push_start hub_push_next opening_regular run left packed removed_on_walk
removed-on-walk = refl

loop-back-walk : AsExpected loop_back_walk
unfolding all_b read_tree places laid_tree each whole_loop whole_loop_back laid_loop_back register_loop_back start_loop_back next_loop_back opening_loop_back run left packed loop_back_walk
loop-back-walk = refl

last-frame-of-message : AsExpected last_frame_of_message
unfolding all_b some_b each count without trace trace_end list_of lists_of linked_at list_sizes whole_list path arcs after before twos laid_out read_tree places laid_tree bits first_in first_from whole_queue sizes_queue whole_responses laid_responses pick_response settle_response whole_message whole_messages laid_messages register_message opening_messages run left packed last_frame_of_message
last-frame-of-message = refl

last-frame-of-response : AsExpected last_frame_of_response
unfolding all_b some_b each count without trace trace_end list_of lists_of linked_at list_sizes whole_list path arcs after before twos laid_out bits first_in first_from whole_queue sizes_queue whole_responses laid_responses register_response pick_response settle_response opening_responses run left packed last_frame_of_response
last-frame-of-response = refl

next-frame-of-message : AsExpected next_frame_of_message
unfolding all_b some_b each count without trace trace_end list_of lists_of linked_at list_sizes whole_list path arcs after before twos laid_out read_tree places laid_tree bits first_in first_from whole_queue sizes_queue whole_responses laid_responses pick_response settle_response whole_message whole_messages laid_messages register_message opening_messages run left packed next_frame_of_message
next-frame-of-message = refl

next-frame-of-response : AsExpected next_frame_of_response
unfolding all_b some_b each count without trace trace_end list_of lists_of linked_at list_sizes whole_list path arcs after before twos laid_out bits first_in first_from whole_queue sizes_queue whole_responses laid_responses register_response pick_response settle_response opening_responses run left packed next_frame_of_response
next-frame-of-response = refl

key_twice_lem : AsExpected key_twice
unfolding all_b some_b each count without trace trace_end list_of lists_of linked_at list_sizes whole_list path arcs after before twos laid_out find sizes_b lists_b whole_b words longs laid get insert remove opening run left packed key_twice
key_twice_lem = refl

next : {x y : Seen} {xs ys : List Seen} → x ≡ y → xs ≡ ys → x ∷ xs ≡ y ∷ ys
next p q = ap₂ (λ (x : Seen) (xs : List Seen). x ∷ xs) p q

-- Every row is computed, on bytes: one by itself, so that no declaration takes too many steps.

pub returns : goal.returns
unfolding table
returns c = record { all = next fresh-poll (next shared-subject (next three-subjects (next only_one_lem (next first-subject (next last-subject (next lost-slot (next removed-on-walk (next loop-back-walk (next last-frame-of-message (next last-frame-of-response (next next-frame-of-message (next next-frame-of-response (next key_twice_lem (refl)))))))))))))) }
