-- How the calls of message and response transmission end.
use Prim.Native.Nat.{ℕ}
use mathlib.Core.Path.{refl}
use mathlib.Core.Bool.{not}
use mathlib.Core.List.{List, ◌∷◌}
use Rattle.std.specs.Prelude.{Option, None, Some}
use Rattle.std.specs.Option.{unwrap_or}
use lib.Dec.{ltb, eqb}
use lib.ListN.{length}
use Rattle.state.specs.Lengths.{messages_length, responses_length}
use Rattle.state.specs.Outcome.{Outcome}
use Rattle.entry_tree.specs.Pairs.{Pair, has_subject, without}
use Rattle.tx_queue.specs.TxQueue.{TxQueue, Pick, sets_of, first_queue, mtu_b}
use Rattle.tx_queue.specs.Bytes as txr_bytes
use Rattle.tx_queue.specs.Steps as txr
use Rattle.tx_queue.specs.Steps.{is_open, is_registered, reported}
use Rattle.tx_queue.specs.Calls as txr_calls
use Rattle.tx_queue.specs.declared.Frame.{Frame}
use Rattle.tx_queue.specs.declared.Settled.{Settled}
use Rattle.tx_msg.specs.Registry.{Registry}
use Rattle.tx_msg.specs.Bytes as txm_bytes
use Rattle.tx_msg.specs.Steps as txm
use Rattle.tx_msg.specs.Calls as txm_calls
use Rattle.gomxeli.specs.Answers.{done, flag, picked, settled}
use Rattle.gomxeli.specs.Calls.{TxmOpen, TxrOpen, TxmUnregister, TxrUnregister, TxmRegister, TxrRegister, TxmUpdate, TxrUpdate, TxmPick, TxrPick, TxmSettle, TxrSettle}
use Rattle.refusals.specs.Refusals.{refusals}
use Rattle.refusals.proofs.Ends.{Ends, refuses, answers, either, alone, on-bytes, zero_number}

-- ---- responses, whose calls are the transmit queue's

abbrev pub Responses : {A : Type 0} → List ℕ → (A → ℕ) → (TxQueue → Outcome A TxQueue) → Type 0
Responses l fields g = (m : TxQueue) → Ends l fields (g m)

pub on-responses : {A : Type 0} {l : List ℕ} {fields : A → ℕ} {g : TxQueue → Outcome A TxQueue} (b : List ℕ) → Responses (1 ∷ l) fields g → Ends (1 ∷ l) fields (txr_calls.on g b)
on-responses {g} b h = on-bytes txr_bytes.whole_b txr_bytes.read g b refl h

pub txr_register : (e r : ℕ) → Responses (refusals (TxrRegister e r)) flag (txr.register e r)
unfolding txr.register
txr_register e r m =
    either (ltb 127 e) (alone 2 refl refl) (
    either (is_open m.pick) (alone 10 refl refl) (
    either (is_registered (sets_of m e)) (alone 5 refl refl) (
    answers (zero_number _ _ _))))

pub txr_unregister : (e : ℕ) → Responses (refusals (TxrUnregister e)) flag (txr.unregister e)
unfolding txr.unregister
txr_unregister e m =
    either (ltb 127 e) (alone 2 refl refl) (
    either (is_open m.pick) (alone 10 refl refl) (
    either (is_registered (sets_of m e)) (answers (zero_number _ _ _)) (
    alone 8 refl refl)))

pub txr_update : (e r : ℕ) → Responses (refusals (TxrUpdate e r)) flag (txr.update e r)
unfolding txr.update
txr_update e r m =
    either (ltb 127 e) (alone 2 refl refl) (
    either (is_open m.pick) (alone 10 refl refl) (
    either (is_registered (sets_of m e)) (answers (zero_number _ _ _)) (
    alone 8 refl refl)))

module _ (mask mtu : ℕ) where
  picks : (k : Option ℕ) → Responses (refusals (TxrPick mask mtu)) picked (txr.picks mask mtu k)
  picks (Some k) m = answers (zero_number _ _ _)
  picks None m = answers (zero_number _ _ _)

  pub txr_pick : Responses (refusals (TxrPick mask mtu)) picked (txr.pick mask mtu)
  unfolding txr.pick
  txr_pick m =
      either (not (mtu_b mtu)) (alone 3 refl refl) (
      either (is_open m.pick) (alone 10 refl refl) (
      picks (first_queue mask m) m))

module _ (frame r p n last : ℕ) where
  abbrev Settles : (TxQueue → Outcome Settled TxQueue) → Type 0
  Settles g = Responses (refusals (TxrSettle frame r p n last)) settled g

  settles : (f : Option Frame) (e k t mask : ℕ) → Settles (txr.settles f r e k t mask)
  settles None e k t mask m = answers (zero_number _ _ _)
  settles (Some f) e k t mask m = either (txr.is_eot f) (answers (zero_number _ _ _)) (answers (zero_number _ _ _))

  settle-on : (f : Option Frame) (q : Pick) (k : ℕ) → Settles (txr.settle_on f r q k)
  settle-on f q k m = either (txr.wrong_frame f k q) (alone 12 refl refl) (settles f (txr.picked k m) k (txr.started_of (sets_of m (txr.picked k m))) q.mask m)

  settle-pick : (f : Option Frame) (q : Option Pick) → Settles (txr.settle_pick f r q)
  settle-pick f None m = alone 11 refl refl
  settle-pick f (Some q) m = settle-on f q (unwrap_or (first_queue q.mask m) (length m.queues)) m

  pub txr_settle : Settles (txr.settle (reported (not (eqb frame 0)) p n last) r)
  unfolding txr.settle
  txr_settle m = either (txr.wrong_priority (reported (not (eqb frame 0)) p n last)) (alone 3 refl refl) (settle-pick (reported (not (eqb frame 0)) p n last) m.pick m)

pub txr_open : (n : ℕ) → Ends (refusals TxrOpen) done (txr_calls.opening n)
unfolding txr_calls.opening
txr_open n = either (eqb n responses_length) (answers (zero_number _ _ _)) (alone 1 refl refl)

-- ---- messages

abbrev pub Messages : {A : Type 0} → List ℕ → (A → ℕ) → (Registry → Outcome A Registry) → Type 0
Messages l fields g = (m : Registry) → Ends l fields (g m)

pub on-messages : {A : Type 0} {l : List ℕ} {fields : A → ℕ} {g : Registry → Outcome A Registry} (b : List ℕ) → Messages (1 ∷ l) fields g → Ends (1 ∷ l) fields (txm_calls.on g b)
on-messages {g} b h = on-bytes txm_bytes.whole_b txm_bytes.read g b refl h

-- with subjects a call of the queue ends as it does without
with-subjects : {A : Type 0} {l : List ℕ} {fields : A → ℕ} (subjects : List Pair) {o : Outcome A TxQueue} → Ends l fields o → Ends l fields (txm.with subjects o)
with-subjects subjects (refuses p) = refuses p
with-subjects subjects (answers p) = answers p

pub txm_register : (e x r : ℕ) → Messages (refusals (TxmRegister e x r)) flag (txm.register e x r)
unfolding txm.register
txm_register e x r m =
    either (ltb 127 e) (alone 2 refl refl) (
    either (ltb 8191 x) (alone 3 refl refl) (
    either (is_open m.queue.pick) (alone 10 refl refl) (
    either (is_registered (sets_of m.queue e)) (alone 5 refl refl) (
    either (has_subject x m.subjects) (alone 7 refl refl) (
    answers (zero_number _ _ _))))))

pub txm_unregister : (e : ℕ) → Messages (refusals (TxmUnregister e)) flag (txm.unregister e)
txm_unregister e m = with-subjects (without e m.subjects) (txr_unregister e m.queue)

pub txm_update : (e r : ℕ) → Messages (refusals (TxmUpdate e r)) flag (txm.update e r)
txm_update e r m = with-subjects m.subjects (txr_update e r m.queue)

pub txm_pick : (mask mtu : ℕ) → Messages (refusals (TxmPick mask mtu)) picked (txm.pick mask mtu)
txm_pick mask mtu m = with-subjects m.subjects (txr_pick mask mtu m.queue)

pub txm_settle : (frame r p n last : ℕ) → Messages (refusals (TxmSettle frame r p n last)) settled (txm.settle (reported (not (eqb frame 0)) p n last) r)
txm_settle frame r p n last m = with-subjects m.subjects (txr_settle frame r p n last m.queue)

pub txm_open : (n : ℕ) → Ends (refusals TxmOpen) done (txm_calls.opening n)
unfolding txm_calls.opening
txm_open n = either (eqb n messages_length) (answers (zero_number _ _ _)) (alone 1 refl refl)
