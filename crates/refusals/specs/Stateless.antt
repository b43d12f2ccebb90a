-- The exported calls that take no state, each as its own contract has it: the filter image's, and the leaves', on numbers or a frame alone.
use Rattle.std.specs.Prelude.{ℕ, ◌+◌, ◌%◌, not, ◌&&◌, ◌||◌, List, eqb, leb, ltb}
use Rattle.state.specs.Seq.{to_nat}
use Rattle.filter_image.specs.Image.{bytes, opening, add_subject, remove_subject_range, has_subject}
use Rattle.emcyphal_core.specs.Ids.{nodes, subjects, services, transfers, maybe_id}
use Rattle.emcyphal_core.specs.Priorities.{maybe_priority, before}
use Rattle.emcyphal_core.specs.Sets.{has, set_of, without, is_empty, first_of, last_of, next_of}
use Rattle.format.specs.Tail.{tail_byte, eot_frame}
use Rattle.gomxeli.specs.Answers.{packed, done, flag, priority_answer, option_first, eot_answer, next_answer, with_priority}
use Rattle.gomxeli.specs.Calls.{Outcome, reads, writes}

pub data ImageCall : Type 0 where
  ImgOpen : ImageCall
  ImgAddSubject ImgHasSubject : ℕ → ImageCall
  ImgRemoveSubjectRange : ℕ → ℕ → ImageCall

abbrev pub image : ImageCall → List ℕ → Outcome
image ImgOpen b = writes done bytes b (opening b)
image (ImgAddSubject subject) b = writes done bytes b (add_subject subject b)
image (ImgRemoveSubjectRange first last) b = writes done bytes b (remove_subject_range first last b)
image (ImgHasSubject subject) b = reads flag b (has_subject subject b)

pub data LeafCall : Type 0 where
  SubjectIdNew SubjectIdFromU16Truncating ServiceIdNew ServiceIdFromU16Truncating : ℕ → LeafCall
  NodeIdNew NodeIdFromU8Truncating TransferIdNew TransferIdFromU8Truncating TransferIdNext : ℕ → LeafCall
  PriorityTryFromU8 PriorityFromU8Truncating PriorityNext PriorityPrev : ℕ → LeafCall
  PrioritySetNewEq PrioritySetNewGe PrioritySetNewLe PrioritySetNewGt PrioritySetNewLt : ℕ → LeafCall
  PrioritySetContains PrioritySetInsert PrioritySetRemove PrioritySetBitand PrioritySetBitor : ℕ → ℕ → LeafCall
  PrioritySetFirst PrioritySetLast PrioritySetIsEmpty PrioritySetComplement PrioritySetNot PrioritySetIterNext : ℕ → LeafCall
  TailByteNew : ℕ → ℕ → ℕ → ℕ → LeafCall
  TailByteSot TailByteEot TailByteToggle TailByteTransferId : ℕ → LeafCall
  IsEotFrame : List ℕ → LeafCall

abbrev pub leaf : LeafCall → ℕ
leaf (SubjectIdNew value) = option_first (maybe_id subjects value)
leaf (SubjectIdFromU16Truncating value) = packed 0 0 (value % subjects) 0
leaf (ServiceIdNew value) = option_first (maybe_id services value)
leaf (ServiceIdFromU16Truncating value) = packed 0 0 (value % services) 0
leaf (NodeIdNew value) = option_first (maybe_id nodes value)
leaf (NodeIdFromU8Truncating value) = packed 0 0 (value % nodes) 0
leaf (TransferIdNew value) = option_first (maybe_id transfers value)
leaf (TransferIdFromU8Truncating value) = packed 0 0 (value % transfers) 0
leaf (TransferIdNext id) = packed 0 0 ((id % transfers + 1) % transfers) 0
leaf (PriorityTryFromU8 value) = priority_answer (maybe_priority value)
leaf (PriorityFromU8Truncating value) = packed 0 0 (value % 8) 0
leaf (PriorityNext priority) = with_priority priority (priority_answer (maybe_priority (priority + 1)))
leaf (PriorityPrev priority) = with_priority priority (priority_answer (before priority))
leaf (PrioritySetNewEq priority) = with_priority priority (packed 0 0 (set_of (λ p. eqb p priority)) 0)
leaf (PrioritySetNewGe priority) = with_priority priority (packed 0 0 (set_of (λ p. leb priority p)) 0)
leaf (PrioritySetNewLe priority) = with_priority priority (packed 0 0 (set_of (λ p. leb p priority)) 0)
leaf (PrioritySetNewGt priority) = with_priority priority (packed 0 0 (set_of (λ p. ltb priority p)) 0)
leaf (PrioritySetNewLt priority) = with_priority priority (packed 0 0 (set_of (λ p. ltb p priority)) 0)
leaf (PrioritySetContains bits priority) = with_priority priority (packed 0 (to_nat (has bits priority)) 0 0)
leaf (PrioritySetInsert bits priority) = with_priority priority (packed 0 0 (set_of (λ p. has bits p || eqb p priority)) 0)
leaf (PrioritySetRemove bits priority) = with_priority priority (packed 0 0 (without bits priority) 0)
leaf (PrioritySetFirst bits) = priority_answer (first_of bits)
leaf (PrioritySetLast bits) = priority_answer (last_of bits)
leaf (PrioritySetIsEmpty bits) = packed 0 (to_nat (is_empty bits)) 0 0
leaf (PrioritySetComplement bits) = packed 0 0 (set_of (λ p. not (has bits p))) 0
leaf (PrioritySetNot bits) = packed 0 0 (set_of (λ p. not (has bits p))) 0
leaf (PrioritySetBitand a b) = packed 0 0 (set_of (λ p. has a p && has b p)) 0
leaf (PrioritySetBitor a b) = packed 0 0 (set_of (λ p. has a p || has b p)) 0
leaf (PrioritySetIterNext bits) = next_answer (next_of bits)
leaf (TailByteNew sot eot toggle transfer_id) = packed 0 0 (tail_byte (ltb 0 sot) (ltb 0 eot) (ltb 0 toggle) (transfer_id % transfers)) 0
leaf (TailByteSot byte) = packed 0 (to_nat (has byte 7)) 0 0
leaf (TailByteEot byte) = packed 0 (to_nat (has byte 6)) 0 0
leaf (TailByteToggle byte) = packed 0 (to_nat (has byte 5)) 0 0
leaf (TailByteTransferId byte) = packed 0 0 (byte % transfers) 0
leaf (IsEotFrame frame) = eot_answer (eot_frame frame)
