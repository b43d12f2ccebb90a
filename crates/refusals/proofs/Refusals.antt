-- Demand 1, by the laws of each call.
use Prim.Native.Nat.{ℕ}
use mathlib.Core.List.{List}
use lib.ListN.{length, replicate}
use Rattle.multi_class_queue.specs.Calls as mcq
use Rattle.index_entries.specs.Laid as keys
use Rattle.regular.specs.Bytes as regular
use Rattle.loop_back.specs.Bytes as loops
use Rattle.entry_tree.specs.Places as requests
use Rattle.tx_msg.specs.Bytes as messages
use Rattle.tx_queue.specs.Bytes as responses
use Rattle.gomxeli.specs.Calls.{Call, does, McqFront, McqBack, McqIsEmpty, McqIsFront, McqIsBack, McqRemove, McqOpen, McqMoveFront, McqMoveBack, IqFront, IqBack, IqContains, IqGet, IqRemove, IqEnqueueFront, IqEnqueueBack, IqDequeue, IqOpen, IqGetMut, IqInsert, RegOpen, RegUnregister, RegHubPushStart, RegRegister, RegPollPop, RegHubPushNext, LbOpen, LbHubPushNext, LbUnregister, LbHubPushStart, LbRegister, ReqOpen, ReqUnregister, ReqRegister, ReqPollPush, TxmOpen, TxrOpen, TxmUnregister, TxrUnregister, TxmRegister, TxrRegister, TxmUpdate, TxrUpdate, TxmPick, TxrPick, TxmSettle, TxrSettle}
use Rattle.filter_image.specs.Image.{image_of}
use Rattle.refusals.specs.Stateless as stateless
use Rattle.refusals.specs.Stateless.{ImageCall, ImgOpen, ImgAddSubject, ImgRemoveSubjectRange, ImgHasSubject}
use Rattle.refusals.specs.Refusals.{Answered, refusals, image_refusals, Demand1}
use Rattle.refusals.proofs.Ends.{asked, changed}
use Rattle.refusals.proofs.Queues.{on-lists, front, back, is-empty, is_front_lem, is-back, remove, move-front, move-back, open-lists, on_keys, contains, get, get-mut, insert, remove_key, front-key, back-key, enqueue-front, enqueue-back, dequeue, open_keys}
use Rattle.refusals.proofs.Reception.{on-regular, reg_register, reg_unregister, reg_poll, reg_start, reg_next, reg_open, on_loop_back, lb-register, lb-unregister, lb-start, lb-next, lb_open, on-requests, req_register, req_unregister, req_push, req_open}
use Rattle.refusals.proofs.Transmission.{on-responses, txr_register, txr_unregister, txr_update, txr_pick, txr_settle, txr_open, on-messages, txm_register, txm_unregister, txm_update, txm_pick, txm_settle, txm_open}
use Rattle.refusals.proofs.Stateless as image
use Rattle.refusals.proofs.Stateless.{leaves}

-- the bytes of a meaning over bytes that are all v
abbrev filled : {M : Type 0} → (M → List ℕ → List ℕ) → ℕ → M → List ℕ → List ℕ
filled laid v m b = laid m (replicate (length b) v)

on_state : (c : Call) (b : List ℕ) → Answered (refusals c) b (does c b)
on_state (McqOpen c e) b = changed mcq.over (open-lists (length b) c e)
on_state (McqFront c) b = asked (on-lists b (front c))
on_state (McqBack c) b = asked (on-lists b (back c))
on_state (McqIsEmpty c) b = asked (on-lists b (is-empty c))
on_state (McqIsFront e) b = asked (on-lists b (is_front_lem e))
on_state (McqIsBack e) b = asked (on-lists b (is-back e))
on_state (McqRemove e) b = changed mcq.over (on-lists b (remove e))
on_state (McqMoveFront c e) b = changed mcq.over (on-lists b (move-front c e))
on_state (McqMoveBack c e) b = changed mcq.over (on-lists b (move-back c e))
on_state (IqOpen k e) b = changed (filled keys.laid 255) (open_keys (length b) k e)
on_state (IqContains k) b = asked (on_keys b (contains k))
on_state (IqGet k) b = asked (on_keys b (get k))
on_state (IqGetMut k v) b = changed keys.laid (on_keys b (get-mut k v))
on_state (IqInsert k v) b = changed keys.laid (on_keys b (insert k v))
on_state (IqRemove k) b = changed keys.laid (on_keys b (remove_key k))
on_state IqFront b = asked (on_keys b front-key)
on_state IqBack b = asked (on_keys b back-key)
on_state (IqEnqueueFront k) b = changed keys.laid (on_keys b (enqueue-front k))
on_state (IqEnqueueBack k) b = changed keys.laid (on_keys b (enqueue-back k))
on_state (IqDequeue k) b = changed keys.laid (on_keys b (dequeue k))
on_state (RegOpen n) b = changed (filled regular.laid 0) (reg_open (length b) n)
on_state (RegRegister e x) b = changed regular.laid (on-regular b (reg_register e x))
on_state (RegUnregister e) b = changed regular.laid (on-regular b (reg_unregister e))
on_state RegPollPop b = changed regular.laid (on-regular b reg_poll)
on_state (RegHubPushStart x) b = changed regular.laid (on-regular b (reg_start x))
on_state RegHubPushNext b = changed regular.laid (on-regular b reg_next)
on_state LbOpen b = changed (filled loops.laid 0) (lb_open (length b))
on_state (LbRegister e x) b = changed loops.laid (on_loop_back b (lb-register e x))
on_state (LbUnregister e) b = changed loops.laid (on_loop_back b (lb-unregister e))
on_state (LbHubPushStart x) b = changed loops.laid (on_loop_back b (lb-start x))
on_state LbHubPushNext b = changed loops.laid (on_loop_back b lb-next)
on_state ReqOpen b = changed (filled requests.laid 0) (req_open (length b))
on_state (ReqRegister e x) b = changed requests.laid (on-requests b (req_register e x))
on_state (ReqUnregister e) b = changed requests.laid (on-requests b (req_unregister e))
on_state (ReqPollPush x loop_back) b = asked (on-requests b (req_push x loop_back))
on_state TxmOpen b = changed (filled messages.laid 0) (txm_open (length b))
on_state (TxmRegister e x r) b = changed messages.laid (on-messages b (txm_register e x r))
on_state (TxmUnregister e) b = changed messages.laid (on-messages b (txm_unregister e))
on_state (TxmUpdate e r) b = changed messages.laid (on-messages b (txm_update e r))
on_state (TxmPick mask mtu) b = changed messages.laid (on-messages b (txm_pick mask mtu))
on_state (TxmSettle frame r p n last) b = changed messages.laid (on-messages b (txm_settle frame r p n last))
on_state TxrOpen b = changed (filled responses.laid 0) (txr_open (length b))
on_state (TxrRegister e r) b = changed responses.laid (on-responses b (txr_register e r))
on_state (TxrUnregister e) b = changed responses.laid (on-responses b (txr_unregister e))
on_state (TxrUpdate e r) b = changed responses.laid (on-responses b (txr_update e r))
on_state (TxrPick mask mtu) b = changed responses.laid (on-responses b (txr_pick mask mtu))
on_state (TxrSettle frame r p n last) b = changed responses.laid (on-responses b (txr_settle frame r p n last))

on-image : (c : ImageCall) (b : List ℕ) → Answered (image_refusals c) b (stateless.image c b)
on-image ImgOpen b = changed (λ f x. image_of f) (image.opens b)
on-image (ImgAddSubject x) b = changed (λ f x. image_of f) (image.add x b)
on-image (ImgRemoveSubjectRange x y) b = changed (λ f x. image_of f) (image.remove x y b)
on-image (ImgHasSubject x) b = asked (image.has x b)

pub demand-1 : Demand1
demand-1 = record { on_state = on_state; on-image = on-image; leaves = leaves }
