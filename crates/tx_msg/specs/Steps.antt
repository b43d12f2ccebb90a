-- The calls of message transmission on its plain meaning: those of the transmit queue, with subjects.
use Rattle.std.specs.Prelude.{ℕ, ◌<◌, Bool, cond, List, ltb, Option}
use Rattle.state.specs.Outcome.{Outcome, refuse, done}
use Rattle.state.specs.declared.Refusal.TheVariants.{EntryRange, Range, Registered, Occupied, PickOpen}
use Rattle.entry_tree.specs.Pairs.{Pair, pair, has_subject, without, inserted}
use Rattle.tx_queue.specs.TxQueue.{TxQueue, sets_of}
use Rattle.tx_queue.specs.Steps as queue
use Rattle.tx_queue.specs.Steps.{is_open, is_registered}
use Rattle.tx_queue.specs.declared.Picked.{Picked}
use Rattle.tx_queue.specs.declared.Frame.{Frame}
use Rattle.tx_queue.specs.declared.Settled.{Settled}
use Rattle.tx_msg.specs.Registry.{Registry}

-- what a call of the queue comes to, where the subjects are then l
abbrev pub with : {A : Type 0} → List Pair → Outcome A TxQueue → Outcome A Registry
with l (refuse r) = refuse r
with l (done a q) = done a (record { subjects = l; queue = q })

unfoldable pub register : ℕ → ℕ → ℕ → Registry → Outcome Bool Registry
register e x r m =
    cond (ltb 127 e) (refuse EntryRange) (
    cond (ltb 8191 x) (refuse Range) (
    cond (is_open m.queue.pick) (refuse PickOpen) (
    cond (is_registered (sets_of m.queue e)) (refuse Registered) (
    cond (has_subject x m.subjects) (refuse Occupied) (
    with (inserted (pair e x) m.subjects) (queue.registers e r m.queue))))))

abbrev pub unregister : ℕ → Registry → Outcome Bool Registry
unregister e m = with (without e m.subjects) (queue.unregister e m.queue)

abbrev pub update : ℕ → ℕ → Registry → Outcome Bool Registry
update e r m = with m.subjects (queue.update e r m.queue)

abbrev pub pick : ℕ → ℕ → Registry → Outcome (Option Picked) Registry
pick mask mtu m = with m.subjects (queue.pick mask mtu m.queue)

abbrev pub settle : Option Frame → ℕ → Registry → Outcome Settled Registry
settle f r m = with m.subjects (queue.settle f r m.queue)

-- ---- every call but opening

-- a set that a call is given is a byte
pub data Call : Type 0 where
  Unregister : ℕ → Call
  Register : (e x r : ℕ) → r < 256 → Call
  Update : (e r : ℕ) → r < 256 → Call
  PickFrame : (mask mtu : ℕ) → mask < 256 → Call
  Settle : Option Frame → (r : ℕ) → r < 256 → Call

-- what a call answers
abbrev pub Answer : Call → Type 0
Answer (Unregister e) = Bool
Answer (Register e x r h) = Bool
Answer (Update e r h) = Bool
Answer (PickFrame mask mtu h) = Option Picked
Answer (Settle f r h) = Settled

abbrev pub step : (k : Call) → Registry → Outcome (Answer k) Registry
step (Unregister e) = unregister e
step (Register e x r h) = register e x r
step (Update e r h) = update e r
step (PickFrame mask mtu h) = pick mask mtu
step (Settle f r h) = settle f r
