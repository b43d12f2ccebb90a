-- Every exported call on state bytes: what it answers, and the bytes that it leaves.
use Rattle.std.specs.Prelude.{ℕ, not, List, [], ◌∷◌, eqb, length}
use Rattle.state.specs.Outcome as outcome
use Rattle.multi_class_queue.specs.Calls as mcq
use Rattle.index_queue.specs.Calls as iq
use Rattle.regular.specs.Steps as steps
use Rattle.regular.specs.Calls as regular
use Rattle.loop_back.specs.Steps as lb_steps
use Rattle.loop_back.specs.Calls as lb
use Rattle.rx_req.specs.Steps as req_steps
use Rattle.rx_req.specs.Calls as req
use Rattle.tx_queue.specs.Steps as txr_steps
use Rattle.tx_queue.specs.Steps.{reported}
use Rattle.tx_queue.specs.Calls as txr
use Rattle.tx_msg.specs.Steps as txm_steps
use Rattle.tx_msg.specs.Calls as txm
use Rattle.gomxeli.specs.Answers.{answered, done, flag, option_first, option_second, pushed, updates, picked, settled}

pub record Outcome : Type 0 where
  pub answer : ℕ
  pub bytes : List ℕ

-- a call that reads: the answer's number, by the fields of its value, and the bytes b as they were
abbrev pub reads : {A M : Type 0} → (A → ℕ) → List ℕ → outcome.Outcome A M → Outcome
reads fields b o = record { answer = answered fields (outcome.answer o); bytes = b }

-- a call that writes: `after b o` are the bytes that the outcome o makes of b
abbrev pub writes : {A M : Type 0} → (A → ℕ) → (List ℕ → outcome.Outcome A M → List ℕ) → List ℕ → outcome.Outcome A M → Outcome
writes fields after b o = record { answer = answered fields (outcome.answer o); bytes = after b o }

pub data Call : Type 0 where
  McqFront McqBack McqIsEmpty McqIsFront McqIsBack McqRemove : ℕ → Call
  McqOpen McqMoveFront McqMoveBack : ℕ → ℕ → Call
  IqFront IqBack : Call
  IqContains IqGet IqRemove IqEnqueueFront IqEnqueueBack IqDequeue : ℕ → Call
  IqOpen IqGetMut IqInsert : ℕ → ℕ → Call
  RegOpen RegUnregister RegHubPushStart : ℕ → Call
  RegRegister : ℕ → ℕ → Call
  RegPollPop RegHubPushNext : Call
  LbOpen LbHubPushNext : Call
  LbUnregister LbHubPushStart : ℕ → Call
  LbRegister : ℕ → ℕ → Call
  ReqOpen : Call
  ReqUnregister : ℕ → Call
  ReqRegister ReqPollPush : ℕ → ℕ → Call
  TxmOpen TxrOpen : Call
  TxmUnregister TxrUnregister : ℕ → Call
  TxmRegister : ℕ → ℕ → ℕ → Call
  TxrRegister TxmUpdate TxrUpdate TxmPick TxrPick : ℕ → ℕ → Call
  TxmSettle TxrSettle : ℕ → ℕ → ℕ → ℕ → ℕ → Call

-- what each call answers and leaves: its contract cites its line
abbrev pub does : Call → List ℕ → Outcome
does (McqOpen c e) b = writes done mcq.bytes b (mcq.opening (length b) c e)
does (McqFront c) b = reads option_first b (mcq.on (mcq.front c) b)
does (McqBack c) b = reads option_first b (mcq.on (mcq.back c) b)
does (McqIsEmpty c) b = reads flag b (mcq.on (mcq.is_empty c) b)
does (McqIsFront e) b = reads option_first b (mcq.on (mcq.is_front e) b)
does (McqIsBack e) b = reads option_first b (mcq.on (mcq.is_back e) b)
does (McqRemove e) b = writes done mcq.bytes b (mcq.on (mcq.remove e) b)
does (McqMoveFront c e) b = writes done mcq.bytes b (mcq.on (mcq.move_front c e) b)
does (McqMoveBack c e) b = writes done mcq.bytes b (mcq.on (mcq.move_back c e) b)
does (IqOpen k e) b = writes done iq.opened_bytes b (iq.opening (length b) k e)
does (IqContains k) b = reads flag b (iq.on (iq.contains k) b)
does (IqGet k) b = reads option_second b (iq.on (iq.get k) b)
does (IqGetMut k v) b = writes flag iq.bytes b (iq.on (iq.get_mut k v) b)
does (IqInsert k v) b = writes option_second iq.bytes b (iq.on (iq.insert k v) b)
does (IqRemove k) b = writes option_second iq.bytes b (iq.on (iq.remove k) b)
does IqFront b = reads option_first b (iq.on iq.front b)
does IqBack b = reads option_first b (iq.on iq.back b)
does (IqEnqueueFront k) b = writes done iq.bytes b (iq.on (iq.enqueue_front k) b)
does (IqEnqueueBack k) b = writes done iq.bytes b (iq.on (iq.enqueue_back k) b)
does (IqDequeue k) b = writes done iq.bytes b (iq.on (iq.dequeue k) b)
does (RegOpen n) b = writes done regular.opened_bytes b (regular.opening (length b) n)
does (RegRegister e x) b = writes flag regular.bytes b (regular.on (steps.register e x) b)
does (RegUnregister e) b = writes flag regular.bytes b (regular.on (steps.unregister e) b)
does RegPollPop b = writes updates regular.bytes b (regular.on steps.poll_pop b)
does (RegHubPushStart x) b = writes flag regular.bytes b (regular.on (steps.hub_push_start x) b)
does RegHubPushNext b = writes pushed regular.bytes b (regular.on steps.hub_push_next b)
does LbOpen b = writes done lb.opened_bytes b (lb.opening (length b))
does (LbRegister e x) b = writes done lb.bytes b (lb.on (lb_steps.register e x) b)
does (LbUnregister e) b = writes done lb.bytes b (lb.on (lb_steps.unregister e) b)
does (LbHubPushStart x) b = writes flag lb.bytes b (lb.on (lb_steps.hub_push_start x) b)
does LbHubPushNext b = writes pushed lb.bytes b (lb.on lb_steps.hub_push_next b)
does ReqOpen b = writes done req.opened_bytes b (req.opening (length b))
does (ReqRegister e x) b = writes done req.bytes b (req.on (req_steps.register e x) b)
does (ReqUnregister e) b = writes done req.bytes b (req.on (req_steps.unregister e) b)
does (ReqPollPush x loop_back) b = reads option_first b (req.on (req_steps.poll_push x (not (eqb loop_back 0))) b)
does TxmOpen b = writes done txm.opened_bytes b (txm.opening (length b))
does (TxmRegister e x r) b = writes flag txm.bytes b (txm.on (txm_steps.register e x r) b)
does (TxmUnregister e) b = writes flag txm.bytes b (txm.on (txm_steps.unregister e) b)
does (TxmUpdate e r) b = writes flag txm.bytes b (txm.on (txm_steps.update e r) b)
does (TxmPick mask mtu) b = writes picked txm.bytes b (txm.on (txm_steps.pick mask mtu) b)
does (TxmSettle frame r p n last) b = writes settled txm.bytes b (txm.on (txm_steps.settle (reported (not (eqb frame 0)) p n last) r) b)
does TxrOpen b = writes done txr.opened_bytes b (txr.opening (length b))
does (TxrRegister e r) b = writes flag txr.bytes b (txr.on (txr_steps.register e r) b)
does (TxrUnregister e) b = writes flag txr.bytes b (txr.on (txr_steps.unregister e) b)
does (TxrUpdate e r) b = writes flag txr.bytes b (txr.on (txr_steps.update e r) b)
does (TxrPick mask mtu) b = writes picked txr.bytes b (txr.on (txr_steps.pick mask mtu) b)
does (TxrSettle frame r p n last) b = writes settled txr.bytes b (txr.on (txr_steps.settle (reported (not (eqb frame 0)) p n last) r) b)

-- the answers of calls one after the other, and the bytes that they leave
unfoldable pub run : List Call → List ℕ → List ℕ
run [] b = []
run (c ∷ cs) b = (does c b).answer ∷ run cs (does c b).bytes

unfoldable pub left : List Call → List ℕ → List ℕ
left [] b = b
left (c ∷ cs) b = left cs (does c b).bytes
