-- How the calls of the filter image end, and what the leaves answer.
use Prim.Native.Nat.{ℕ, ◌+◌}
use mathlib.Core.Path.{◌≡◌, refl}
use mathlib.Core.Bool.{true, ◌||◌}
use mathlib.Core.Logic.{◌⊎◌, inl, inr}
use mathlib.Core.List.{List}
use lib.Dec.{ltb, eqb, leb}
use lib.ListN.{length}
use Rattle.state.specs.Lengths.{image_length}
use Rattle.state.specs.Outcome.{Outcome}
use Rattle.state.proofs.Tests.{by_cond}
use Rattle.filter_image.specs.Image.{Subjects, on_image, opening, add_subject, remove_subject_range, has_subject}
use Rattle.std.specs.Prelude.{Bool, Option, Some, None}
use Rattle.emcyphal_core.specs.Ids.{nodes, subjects, services, transfers, maybe_id}
use Rattle.emcyphal_core.specs.Priorities.{maybe_priority, before}
use Rattle.emcyphal_core.specs.Sets.{first_of, last_of, next_of}
use Rattle.emcyphal_core.specs.declared.Priority.{Priority}
use Rattle.format.specs.Tail.{eot_frame}
use Rattle.gomxeli.specs.Answers.{number, done, flag, priority_answer, option_first, eot_answer, next_answer, with_priority}
use Rattle.gomxeli.proofs.Fields.{refusal_of}
use Rattle.refusals.specs.Stateless.{ImgOpen, ImgAddSubject, ImgRemoveSubjectRange, ImgHasSubject, LeafCall, leaf, SubjectIdNew, SubjectIdFromU16Truncating, ServiceIdNew, ServiceIdFromU16Truncating, NodeIdNew, NodeIdFromU8Truncating, TransferIdNew, TransferIdFromU8Truncating, TransferIdNext, PriorityTryFromU8, PriorityFromU8Truncating, PriorityNext, PriorityPrev, PrioritySetNewEq, PrioritySetNewGe, PrioritySetNewLe, PrioritySetNewGt, PrioritySetNewLt, PrioritySetFirst, PrioritySetLast, PrioritySetIsEmpty, PrioritySetComplement, PrioritySetNot, PrioritySetIterNext, TailByteSot, TailByteEot, TailByteToggle, TailByteTransferId, PrioritySetContains, PrioritySetInsert, PrioritySetRemove, PrioritySetBitand, PrioritySetBitor, TailByteNew, IsEotFrame}
use Rattle.refusals.specs.Refusals.{image_refusals}
use Rattle.refusals.proofs.Ends.{Ends, answers, either, alone, zero_number, is_refusal}

-- ---- the filter image

on-image : {A : Type 0} {l : List ℕ} {fields : A → ℕ} (n : ℕ) {o : Outcome A Subjects} → is_refusal l 4 ≡ true → Ends l fields o → Ends l fields (on_image n o)
on-image n h p = either (eqb n image_length) p (alone 4 refl h)

pub opens : (b : List ℕ) → Ends (image_refusals ImgOpen) done (opening b)
unfolding opening
opens b = on-image (length b) refl (answers (zero_number _ _ _))

pub add : (x : ℕ) (b : List ℕ) → Ends (image_refusals (ImgAddSubject x)) done (add_subject x b)
unfolding add_subject
add x b = either (ltb 8191 x) (alone 3 refl refl) (on-image (length b) refl (answers (zero_number _ _ _)))

pub remove : (x y : ℕ) (b : List ℕ) → Ends (image_refusals (ImgRemoveSubjectRange x y)) done (remove_subject_range x y b)
unfolding remove_subject_range
remove x y b = either (ltb 8191 x || (ltb 8191 y || ltb y x)) (alone 3 refl refl) (on-image (length b) refl (answers (zero_number _ _ _)))

pub has : (x : ℕ) (b : List ℕ) → Ends (image_refusals (ImgHasSubject x)) flag (has_subject x b)
unfolding has_subject
has x b = either (ltb 8191 x) (alone 3 refl refl) (on-image (length b) refl (answers (zero_number _ _ _)))

-- ---- the leaves

priority-zero : (o : Option Priority) → number (priority_answer o) ≡ 0
priority-zero (Some p) = zero_number _ _ _
priority-zero None = zero_number _ _ _

id-zero : (o : Option ℕ) → number (option_first o) ≡ 0
id-zero (Some id) = zero_number _ _ _
id-zero None = zero_number _ _ _

eot-zero : (o : Option Bool) → number (eot_answer o) ≡ 0
eot-zero (Some t) = zero_number _ _ _
eot-zero None = zero_number _ _ _

next-zero : (o : Option Priority × ℕ) → number (next_answer o) ≡ 0
next-zero (Some p, rest) = zero_number _ _ _
next-zero (None, rest) = zero_number _ _ _

abbrev Leaf : ℕ → Type 0
Leaf a = (number a ≡ 0) ⊎ (a ≡ 3)

with-priority : (p a : ℕ) → number a ≡ 0 → Leaf (with_priority p a)
with-priority p a h = by_cond Leaf (leb p 7) (λ t. inl h) (λ t. inr (refusal_of 3))

pub leaves : (c : LeafCall) → Leaf (leaf c)
leaves (SubjectIdNew value) = inl (id-zero (maybe_id subjects value))
leaves (SubjectIdFromU16Truncating value) = inl (zero_number _ _ _)
leaves (ServiceIdNew value) = inl (id-zero (maybe_id services value))
leaves (ServiceIdFromU16Truncating value) = inl (zero_number _ _ _)
leaves (NodeIdNew value) = inl (id-zero (maybe_id nodes value))
leaves (NodeIdFromU8Truncating value) = inl (zero_number _ _ _)
leaves (TransferIdNew value) = inl (id-zero (maybe_id transfers value))
leaves (TransferIdFromU8Truncating value) = inl (zero_number _ _ _)
leaves (TransferIdNext id) = inl (zero_number _ _ _)
leaves (PriorityTryFromU8 value) = inl (priority-zero (maybe_priority value))
leaves (PriorityFromU8Truncating value) = inl (zero_number _ _ _)
leaves (PriorityNext p) = with-priority p _ (priority-zero (maybe_priority (p + 1)))
leaves (PriorityPrev p) = with-priority p _ (priority-zero (before p))
leaves (PrioritySetNewEq p) = with-priority p _ (zero_number _ _ _)
leaves (PrioritySetNewGe p) = with-priority p _ (zero_number _ _ _)
leaves (PrioritySetNewLe p) = with-priority p _ (zero_number _ _ _)
leaves (PrioritySetNewGt p) = with-priority p _ (zero_number _ _ _)
leaves (PrioritySetNewLt p) = with-priority p _ (zero_number _ _ _)
leaves (PrioritySetContains bits p) = with-priority p _ (zero_number _ _ _)
leaves (PrioritySetInsert bits p) = with-priority p _ (zero_number _ _ _)
leaves (PrioritySetRemove bits p) = with-priority p _ (zero_number _ _ _)
leaves (PrioritySetFirst bits) = inl (priority-zero (first_of bits))
leaves (PrioritySetLast bits) = inl (priority-zero (last_of bits))
leaves (PrioritySetIsEmpty bits) = inl (zero_number _ _ _)
leaves (PrioritySetComplement bits) = inl (zero_number _ _ _)
leaves (PrioritySetNot bits) = inl (zero_number _ _ _)
leaves (PrioritySetBitand a b) = inl (zero_number _ _ _)
leaves (PrioritySetBitor a b) = inl (zero_number _ _ _)
leaves (PrioritySetIterNext bits) = inl (next-zero (next_of bits))
leaves (TailByteNew sot eot toggle id) = inl (zero_number _ _ _)
leaves (TailByteSot byte) = inl (zero_number _ _ _)
leaves (TailByteEot byte) = inl (zero_number _ _ _)
leaves (TailByteToggle byte) = inl (zero_number _ _ _)
leaves (TailByteTransferId byte) = inl (zero_number _ _ _)
leaves (IsEotFrame frame) = inl (eot-zero (eot_frame frame))
