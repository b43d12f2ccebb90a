-- Calls of the other kinds leave the bytes of a regular registry: none of them has their length.
use Prim.Native.Nat.{ℕ}
use mathlib.Core.Path.{◌≡◌, refl, sym, subst, ◌∙◌}
use mathlib.Core.Bool.{Bool, true, false, not, ◌&&◌}
use mathlib.Core.List.{List}
use native.Mathlib.Omega.{arith}
use lib.Dec.{eqb}
use lib.ListN.{length}
use borrow.Author.Tests.{eqb-true}
use Rattle.state.specs.Lengths.{Regular, Lists, Keys, Has, regular, lists, keys, lists_allowed, lists_length, keys_allowed, keys_length, regular_length, loop_back_length, requests_length, messages_length, responses_length}
use Rattle.state.specs.Outcome.{Outcome}
use Rattle.state.proofs.Tests.{by_cond, false_of, and_l, and_r}
use Rattle.state.proofs.Outcomes.{not-whole}
use Rattle.state.proofs.Disjoint.{disjoint}
use Rattle.multi_cycle_list.specs.Lists as plain
use Rattle.multi_cycle_list.specs.Nodes as nodes
use Rattle.multi_class_queue.specs.Calls as mcq
use Rattle.index_entries.specs.Keys as keyed
use Rattle.index_entries.specs.Bytes as entries
use Rattle.index_entries.specs.Laid as laid
use Rattle.index_queue.specs.Calls as iq
use Rattle.entry_tree.specs.Places as tree
use Rattle.loop_back.specs.Registry as loop_back
use Rattle.loop_back.specs.Bytes as lb_bytes
use Rattle.loop_back.specs.Steps as lb_steps
use Rattle.loop_back.specs.Calls as lb
use Rattle.rx_req.specs.Registry as requests
use Rattle.rx_req.specs.Bytes as req_bytes
use Rattle.rx_req.specs.Steps as req_steps
use Rattle.rx_req.specs.Calls as req
use Rattle.tx_queue.specs.TxQueue as responses
use Rattle.tx_queue.specs.Bytes as txr_bytes
use Rattle.tx_queue.specs.Steps as txr_steps
use Rattle.tx_queue.specs.Steps.{reported}
use Rattle.tx_queue.specs.Calls as txr
use Rattle.tx_msg.specs.Registry as messages
use Rattle.tx_msg.specs.Bytes as txm_bytes
use Rattle.tx_msg.specs.Steps as txm_steps
use Rattle.tx_msg.specs.Calls as txm
use Rattle.gomxeli.specs.Calls.{Call, does, McqFront, McqBack, McqIsEmpty, McqIsFront, McqIsBack, McqRemove, McqOpen, McqMoveFront, McqMoveBack, IqFront, IqBack, IqContains, IqGet, IqRemove, IqEnqueueFront, IqEnqueueBack, IqDequeue, IqOpen, IqGetMut, IqInsert, RegOpen, RegUnregister, RegHubPushStart, RegRegister, RegPollPop, RegHubPushNext, LbOpen, LbHubPushNext, LbUnregister, LbHubPushStart, LbRegister, ReqOpen, ReqUnregister, ReqRegister, ReqPollPush, TxmOpen, TxrOpen, TxmUnregister, TxrUnregister, TxmRegister, TxrRegister, TxmUpdate, TxrUpdate, TxmPick, TxrPick, TxmSettle, TxrSettle}
use Rattle.regular_runs.specs.Runs.{part, other}

lists-no : (c e : ℕ) → lists_allowed c e ≡ true → regular_length ≡ lists_length c e → ⊥
lists-no c e h q =
    let k : Regular ≡ Lists = disjoint.one_kind Regular Lists regular_length regular (subst (Has Lists) (sym q) (lists c e h)) in
    let z : ◌≡◌ {A = ℕ} 0 1 = cc in
    omega arith

keys-no : (k e : ℕ) → keys_allowed k e ≡ true → regular_length ≡ keys_length k e → ⊥
keys-no k e h q =
    let k : Regular ≡ Keys = disjoint.one_kind Regular Keys regular_length regular (subst (Has Keys) (sym q) (keys k e h)) in
    let z : ◌≡◌ {A = ℕ} 0 1 = cc in
    omega arith

-- a test that the sizes are allowed and have the length: false of another kind's length
not-sized : (allowed : Bool) (n m : ℕ) (rest : Bool) → (allowed ≡ true → n ≡ m → ⊥) → ((allowed && eqb n m) && rest) ≡ false
not-sized allowed n m rest h = false_of ((allowed && eqb n m) && rest) (λ t.
    let s : (allowed && eqb n m) ≡ true = and_l (allowed && eqb n m) rest t in
    h (and_l allowed (eqb n m) s) (eqb-true n m (and_r allowed (eqb n m) s)))

not-long : (n m : ℕ) (rest : Bool) → (n ≡ m → ⊥) → (eqb n m && rest) ≡ false
not-long n m rest h = false_of (eqb n m && rest) (λ t. h (eqb-true n m (and_l (eqb n m) rest t)))

module _ (b : List ℕ) (l : length b ≡ regular_length) where
  not-lists : nodes.whole_b b ≡ false
  unfolding nodes.whole_b nodes.sizes_b
  not-lists = not-sized _ _ _ _ (λ h q. lists-no (nodes.classes b) (nodes.entries b) h (sym l ∙ q))

  not-keys : entries.whole_b b ≡ false
  unfolding entries.whole_b entries.sizes_b
  not-keys = not-sized _ _ _ _ (λ h q. keys-no (entries.k_max b) (entries.entries b) h (sym l ∙ q))

  list-call : {A : Type 0} (f : plain.Lists → Outcome A plain.Lists) → mcq.bytes b (mcq.on f b) ≡ b
  list-call f = sym (not-whole nodes.whole_b nodes.read mcq.over f b not-lists).1

  key-call : {A : Type 0} (f : keyed.Keys → Outcome A keyed.Keys) → iq.bytes b (iq.on f b) ≡ b
  key-call f = sym (not-whole entries.whole_b entries.read laid.laid f b not-keys).1

  list_open : (c e : ℕ) → mcq.bytes b (mcq.opening (length b) c e) ≡ b
  unfolding mcq.opening
  list_open c e =
      by_cond K (lists_allowed c e)
      (λ h. by_cond K (eqb (length b) (lists_length c e)) (λ q. absurd (lists-no c e h (sym l ∙ eqb-true (length b) (lists_length c e) q))) (λ q. refl))
      (λ h. refl)
    where
      K : Outcome (Unit {0}) plain.Lists → Type 0
      K r = mcq.bytes b r ≡ b

  key_open : (k e : ℕ) → iq.opened_bytes b (iq.opening (length b) k e) ≡ b
  unfolding iq.opening
  key_open k e =
      by_cond K (keys_allowed k e)
      (λ h. by_cond K (eqb (length b) (keys_length k e)) (λ q. absurd (keys-no k e h (sym l ∙ eqb-true (length b) (keys_length k e) q))) (λ q. refl))
      (λ h. refl)
    where
      K : Outcome (Unit {0}) keyed.Keys → Type 0
      K r = iq.opened_bytes b r ≡ b

  -- the registries of one length
  not_loop_back : lb_bytes.whole_b b ≡ false
  unfolding lb_bytes.whole_b
  not_loop_back = not-long (length b) loop_back_length _ (λ q. omega (arith, l, q))

  not-requests : req_bytes.whole_b b ≡ false
  unfolding req_bytes.whole_b
  not-requests = not-long (length b) requests_length _ (λ q. omega (arith, l, q))

  loop_back-call : {A : Type 0} (f : loop_back.Registry → Outcome A loop_back.Registry) → lb.bytes b (lb.on f b) ≡ b
  loop_back-call f = sym (not-whole lb_bytes.whole_b lb_bytes.read lb_bytes.laid f b not_loop_back).1

  request_call : {A : Type 0} (f : requests.Registry → Outcome A requests.Registry) → req.bytes b (req.on f b) ≡ b
  request_call f = sym (not-whole req_bytes.whole_b tree.read tree.laid f b not-requests).1

  loop_back_open : lb.opened_bytes b (lb.opening (length b)) ≡ b
  unfolding lb.opening
  loop_back_open = by_cond (λ (r : Outcome (Unit {0}) loop_back.Registry). lb.opened_bytes b r ≡ b) (eqb (length b) loop_back_length) (λ q. absurd (omega (arith, l, eqb-true (length b) loop_back_length q))) (λ q. refl)

  request_open : req.opened_bytes b (req.opening (length b)) ≡ b
  unfolding req.opening
  request_open = by_cond (λ (r : Outcome (Unit {0}) requests.Registry). req.opened_bytes b r ≡ b) (eqb (length b) requests_length) (λ q. absurd (omega (arith, l, eqb-true (length b) requests_length q))) (λ q. refl)

  not-messages : txm_bytes.whole_b b ≡ false
  unfolding txm_bytes.whole_b
  not-messages = not-long (length b) messages_length _ (λ q. omega (arith, l, q))

  not-responses : txr_bytes.whole_b b ≡ false
  unfolding txr_bytes.whole_b
  not-responses = not-long (length b) responses_length _ (λ q. omega (arith, l, q))

  message_call : {A : Type 0} (f : messages.Registry → Outcome A messages.Registry) → txm.bytes b (txm.on f b) ≡ b
  message_call f = sym (not-whole txm_bytes.whole_b txm_bytes.read txm_bytes.laid f b not-messages).1

  response_call : {A : Type 0} (f : responses.TxQueue → Outcome A responses.TxQueue) → txr.bytes b (txr.on f b) ≡ b
  response_call f = sym (not-whole txr_bytes.whole_b txr_bytes.read txr_bytes.laid f b not-responses).1

  message_open : txm.opened_bytes b (txm.opening (length b)) ≡ b
  unfolding txm.opening
  message_open = by_cond (λ (r : Outcome (Unit {0}) messages.Registry). txm.opened_bytes b r ≡ b) (eqb (length b) messages_length) (λ q. absurd (omega (arith, l, eqb-true (length b) messages_length q))) (λ q. refl)

  response_open : txr.opened_bytes b (txr.opening (length b)) ≡ b
  unfolding txr.opening
  response_open = by_cond (λ (r : Outcome (Unit {0}) responses.TxQueue). txr.opened_bytes b r ≡ b) (eqb (length b) responses_length) (λ q. absurd (omega (arith, l, eqb-true (length b) responses_length q))) (λ q. refl)

-- a call on the bytes b: one that leaves them and is nothing to the registry, or one of the registry's own
pub data On (b : List ℕ) : Call → Type 0 where
  leaves : (c : Call) → part c ≡ other → (does c b).bytes ≡ b → On b c
  opening : (n : ℕ) → On b (RegOpen n)
  register : (e x : ℕ) → On b (RegRegister e x)
  unregister : (e : ℕ) → On b (RegUnregister e)
  poll : On b RegPollPop
  start : (x : ℕ) → On b (RegHubPushStart x)
  next : On b RegHubPushNext

pub on : (c : Call) (b : List ℕ) → length b ≡ regular_length → On b c
on (McqFront c) b l = leaves (McqFront c) refl refl
on (McqBack c) b l = leaves (McqBack c) refl refl
on (McqIsEmpty c) b l = leaves (McqIsEmpty c) refl refl
on (McqIsFront e) b l = leaves (McqIsFront e) refl refl
on (McqIsBack e) b l = leaves (McqIsBack e) refl refl
on (McqRemove e) b l = leaves (McqRemove e) refl (list-call b l (mcq.remove e))
on (McqOpen c e) b l = leaves (McqOpen c e) refl (list_open b l c e)
on (McqMoveFront c e) b l = leaves (McqMoveFront c e) refl (list-call b l (mcq.move_front c e))
on (McqMoveBack c e) b l = leaves (McqMoveBack c e) refl (list-call b l (mcq.move_back c e))
on IqFront b l = leaves IqFront refl refl
on IqBack b l = leaves IqBack refl refl
on (IqContains k) b l = leaves (IqContains k) refl refl
on (IqGet k) b l = leaves (IqGet k) refl refl
on (IqRemove k) b l = leaves (IqRemove k) refl (key-call b l (iq.remove k))
on (IqEnqueueFront k) b l = leaves (IqEnqueueFront k) refl (key-call b l (iq.enqueue_front k))
on (IqEnqueueBack k) b l = leaves (IqEnqueueBack k) refl (key-call b l (iq.enqueue_back k))
on (IqDequeue k) b l = leaves (IqDequeue k) refl (key-call b l (iq.dequeue k))
on (IqOpen k e) b l = leaves (IqOpen k e) refl (key_open b l k e)
on (IqGetMut k v) b l = leaves (IqGetMut k v) refl (key-call b l (iq.get_mut k v))
on (IqInsert k v) b l = leaves (IqInsert k v) refl (key-call b l (iq.insert k v))
on (RegOpen n) b l = opening n
on (RegUnregister e) b l = unregister e
on (RegHubPushStart x) b l = start x
on (RegRegister e x) b l = register e x
on RegPollPop b l = poll
on RegHubPushNext b l = next
on LbOpen b l = leaves LbOpen refl (loop_back_open b l)
on LbHubPushNext b l = leaves LbHubPushNext refl (loop_back-call b l lb_steps.hub_push_next)
on (LbUnregister e) b l = leaves (LbUnregister e) refl (loop_back-call b l (lb_steps.unregister e))
on (LbHubPushStart x) b l = leaves (LbHubPushStart x) refl (loop_back-call b l (lb_steps.hub_push_start x))
on (LbRegister e x) b l = leaves (LbRegister e x) refl (loop_back-call b l (lb_steps.register e x))
on ReqOpen b l = leaves ReqOpen refl (request_open b l)
on (ReqUnregister e) b l = leaves (ReqUnregister e) refl (request_call b l (req_steps.unregister e))
on (ReqRegister e x) b l = leaves (ReqRegister e x) refl (request_call b l (req_steps.register e x))
on (ReqPollPush x f) b l = leaves (ReqPollPush x f) refl refl
on TxmOpen b l = leaves TxmOpen refl (message_open b l)
on TxrOpen b l = leaves TxrOpen refl (response_open b l)
on (TxmUnregister e) b l = leaves (TxmUnregister e) refl (message_call b l (txm_steps.unregister e))
on (TxrUnregister e) b l = leaves (TxrUnregister e) refl (response_call b l (txr_steps.unregister e))
on (TxmRegister e x r) b l = leaves (TxmRegister e x r) refl (message_call b l (txm_steps.register e x r))
on (TxrRegister e r) b l = leaves (TxrRegister e r) refl (response_call b l (txr_steps.register e r))
on (TxmUpdate e r) b l = leaves (TxmUpdate e r) refl (message_call b l (txm_steps.update e r))
on (TxrUpdate e r) b l = leaves (TxrUpdate e r) refl (response_call b l (txr_steps.update e r))
on (TxmPick mask mtu) b l = leaves (TxmPick mask mtu) refl (message_call b l (txm_steps.pick mask mtu))
on (TxrPick mask mtu) b l = leaves (TxrPick mask mtu) refl (response_call b l (txr_steps.pick mask mtu))
on (TxmSettle frame r p n last) b l = leaves (TxmSettle frame r p n last) refl (message_call b l (txm_steps.settle (reported (not (eqb frame 0)) p n last) r))
on (TxrSettle frame r p n last) b l = leaves (TxrSettle frame r p n last) refl (response_call b l (txr_steps.settle (reported (not (eqb frame 0)) p n last) r))
