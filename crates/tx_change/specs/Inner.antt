-- What the inner functions answer and store, as the code goes. No contract of a public call cites this.
use Rattle.std.specs.Prelude.{ℕ, ◌+◌, ◌/◌, List, ◌++◌, Bool, cond, not, ◌||◌, eqb, ltb, get_or, set, drop, None}
use Rattle.state.specs.Outcome.{Outcome}
use Rattle.multi_cycle_list.specs.Laid as lists
use Rattle.tx_queue.specs.TxQueue.{TxQueue}
use Rattle.tx_queue.specs.Steps as steps
use Rattle.tx_queue.specs.Steps.{settles}
use Rattle.tx_queue.specs.declared.Frame.{Frame}
use Rattle.tx_queue.specs.declared.Settled.{Settled}
use Rattle.tx_change.specs.declared.Turn.{Turn}

-- the queues are these
abbrev pub with_queues : List ℕ → List (List ℕ) → List ℕ
with_queues s qs = lists.laid (record { entries = 128; rows = qs }) ++ drop 290 s

-- the entry e is registered, with the sets given
abbrev pub with_sets : List ℕ → ℕ → ℕ → ℕ → List ℕ
with_sets s e ready started =
    let t = set (set s (290 + e) ready) (418 + e) started in
    set t (546 + e) (cond (eqb (get_or s (546 + e) 0) 0) 1 (get_or s (546 + e) 0))

-- settlements of the entry that a pick named: with a frame, and with none
abbrev pub framed : Bool → ℕ → Turn → TxQueue → Outcome Settled TxQueue
framed eot r f m = steps.framed eot r f.entry f.queue f.started m

abbrev pub unframed : ℕ → Turn → ℕ → TxQueue → Outcome Settled TxQueue
unframed r f mask m = settles None r f.entry f.queue f.started mask m

abbrev pub fits_pick : ℕ → ℕ → Frame → Bool
fits_pick mtu k f = not (eqb f.length 0 || (ltb mtu f.length || not (eqb f.priority (k / 2))))
