-- The calls of a transmit registry on its plain meaning, as document 01 has them. Responses have these very calls; messages add subjects.
use Rattle.std.specs.Prelude.{ℕ, ◌/◌, ◌<◌, List, [], Bool, true, false, cond, not, ◌&&◌, ◌||◌, eqb, ltb, get_or, length, set, Option, None, Some}
use Rattle.std.specs.Option.{unwrap_or}
use Rattle.state.specs.Outcome.{Outcome, refuse, done}
use Rattle.state.specs.declared.Refusal.TheVariants.{EntryRange, Range, Registered, NotRegistered, PickOpen, NoPick, BadFrame}
use Rattle.multi_cycle_list.specs.Lists.{first, removed, pushed_back}
use Rattle.emcyphal_core.specs.Priorities.{priority_of}
use Rattle.emcyphal_core.specs.Sets.{has, set_of, without, is_empty}
use Rattle.tx_queue.specs.TxQueue.{Sets, Pick, TxQueue, place, sets_of, is_at, first_queue, mtu_b}
use Rattle.tx_queue.specs.declared.Picked.{Picked}
use Rattle.tx_queue.specs.declared.Frame.{Frame}
use Rattle.tx_queue.specs.declared.Settled.{Settled}

abbrev pub is_registered : Option Sets → Bool
is_registered None = false
is_registered (Some s) = true

abbrev pub is_open : Option Pick → Bool
is_open None = false
is_open (Some p) = true

-- ---- an entry's place

-- the entry e, which stands in the queue `from`, belongs in the queue `to`: it goes to the back only if that is another
abbrev pub requeued : Option ℕ → Option ℕ → ℕ → List (List ℕ) → List (List ℕ)
requeued from None e qs = removed e qs
requeued from (Some to) e qs = cond (is_at to from) qs (pushed_back to e (removed e qs))

abbrev pub wakes : Option ℕ → Option ℕ → ℕ → Bool
wakes from None mask = false
wakes from (Some to) mask = not (is_at to from) && has mask (to / 2)

-- the entry e, which stands in the queue `from`, gets the sets o; any pick is over
abbrev pub becomes : ℕ → Option ℕ → Option Sets → TxQueue → TxQueue
becomes e from o m = record { entries = set m.entries e o; queues = requeued from (place o) e m.queues; mask = m.mask; pick = None }

abbrev pub with_mask : ℕ → TxQueue → TxQueue
with_mask mask m = record { entries = m.entries; queues = m.queues; mask = mask; pick = m.pick }

abbrev pub with_pick : Pick → TxQueue → TxQueue
with_pick p m = record { entries = m.entries; queues = m.queues; mask = m.mask; pick = Some p }

abbrev pub sets : ℕ → ℕ → Option Sets
sets ready started = Some (record { ready = ready; started = started })

abbrev pub started_of : Option Sets → ℕ
started_of None = 0
started_of (Some s) = s.started

-- ---- registering, removing, new readiness

-- the entry e, which has the started set t and stands in the queue `from`, gets the readiness r: whether that wakes
abbrev pub updated : ℕ → Option ℕ → ℕ → ℕ → TxQueue → Outcome Bool TxQueue
updated e from r t m = done (wakes from (place (sets r t)) m.mask) (becomes e from (sets r t) m)

-- an empty started set, and the readiness given: placed as by an update
abbrev pub registers : ℕ → ℕ → TxQueue → Outcome Bool TxQueue
registers e r m = updated e None r 0 m

unfoldable pub register : ℕ → ℕ → TxQueue → Outcome Bool TxQueue
register e r m =
    cond (ltb 127 e) (refuse EntryRange) (
    cond (is_open m.pick) (refuse PickOpen) (
    cond (is_registered (sets_of m e)) (refuse Registered) (
    registers e r m)))

unfoldable pub unregister : ℕ → TxQueue → Outcome Bool TxQueue
unregister e m =
    cond (ltb 127 e) (refuse EntryRange) (
    cond (is_open m.pick) (refuse PickOpen) (
    cond (is_registered (sets_of m e)) (done false (becomes e (place (sets_of m e)) None m)) (
    refuse NotRegistered)))

unfoldable pub update : ℕ → ℕ → TxQueue → Outcome Bool TxQueue
update e r m =
    cond (ltb 127 e) (refuse EntryRange) (
    cond (is_open m.pick) (refuse PickOpen) (
    cond (is_registered (sets_of m e)) (updated e (place (sets_of m e)) r (started_of (sets_of m e)) m) (
    refuse NotRegistered)))

-- ---- a pick and its settlement

abbrev pub front : List ℕ → ℕ
front q = unwrap_or (first q) 0

-- the entry that a pick of the queue k names
abbrev pub picked : ℕ → TxQueue → ℕ
picked k m = front (get_or m.queues k [])

-- of the queue k: 'nothing' stores the mask, but not an empty one
abbrev pub picks : ℕ → ℕ → Option ℕ → TxQueue → Outcome (Option Picked) TxQueue
picks mask mtu (Some k) m = done (Some (record { entry = picked k m; priority = priority_of (k / 2) })) (with_pick (record { mask = mask; mtu = mtu }) m)
picks mask mtu None m = done None (with_mask (cond (is_empty mask) m.mask mask) m)

unfoldable pub pick : ℕ → ℕ → TxQueue → Outcome (Option Picked) TxQueue
pick mask mtu m =
    cond (not (mtu_b mtu)) (refuse Range) (
    cond (is_open m.pick) (refuse PickOpen) (
    picks mask mtu (first_queue mask m) m))

-- what a settlement reports: a frame, or none, whose numbers are then unread
abbrev pub reported : Bool → ℕ → ℕ → ℕ → Option Frame
reported frame priority length last = cond frame (Some (record { priority = priority; length = length; last = last })) None

-- bit 6 of the last byte
abbrev pub is_eot : Frame → Bool
is_eot f = has f.last 6

abbrev pub inserted : ℕ → ℕ → ℕ
inserted b q = set_of (λ p. has b p || eqb p q)

-- the entry e, which had been picked and stands in the queue `from`, gets the sets r and t
abbrev pub settled : ℕ → Option ℕ → ℕ → ℕ → TxQueue → Outcome Settled TxQueue
settled e from r t m = done (record { entry = e; wake = wakes from (place (sets r t)) m.mask }) (becomes e from (sets r t) m)

-- the pick named the entry e of the queue k, which has the started set t: a frame that ends its transfer clears started and dequeues the
-- entry first; another sets started
abbrev pub framed : Bool → ℕ → ℕ → ℕ → ℕ → TxQueue → Outcome Settled TxQueue
framed eot r e k t m = cond eot (settled e None r (without t (k / 2)) m) (settled e (Some k) r (inserted t (k / 2)) m)

-- with no frame the pick's mask is stored, after the place is worked out
abbrev pub settles : Option Frame → ℕ → ℕ → ℕ → ℕ → ℕ → TxQueue → Outcome Settled TxQueue
settles None r e k t mask m = done (record { entry = e; wake = wakes (Some k) (place (sets r t)) m.mask }) (with_mask mask (becomes e (Some k) (sets r t) m))
settles (Some f) r e k t mask m = framed (is_eot f) r e k t m

-- a reported frame is empty, longer than the pick's mtu, or of another priority than the picked one
abbrev pub wrong_frame : Option Frame → ℕ → Pick → Bool
wrong_frame None k p = false
wrong_frame (Some f) k p = eqb f.length 0 || (ltb p.mtu f.length || not (eqb f.priority (k / 2)))

-- the open pick p is of the queue k
abbrev pub settle_on : Option Frame → ℕ → Pick → ℕ → TxQueue → Outcome Settled TxQueue
settle_on f r p k m = cond (wrong_frame f k p) (refuse BadFrame) (settles f r (picked k m) k (started_of (sets_of m (picked k m))) p.mask m)

-- an open pick of a whole queue has its queue
abbrev pub settle_pick : Option Frame → ℕ → Option Pick → TxQueue → Outcome Settled TxQueue
settle_pick f r None m = refuse NoPick
settle_pick f r (Some p) m = settle_on f r p (unwrap_or (first_queue p.mask m) (length m.queues)) m

abbrev pub wrong_priority : Option Frame → Bool
wrong_priority None = false
wrong_priority (Some f) = ltb 7 f.priority

unfoldable pub settle : Option Frame → ℕ → TxQueue → Outcome Settled TxQueue
settle f r m = cond (wrong_priority f) (refuse Range) (settle_pick f r m.pick m)

-- ---- every call but opening

-- a set that a call is given is a byte
pub data Call : Type 0 where
  Unregister : ℕ → Call
  Register Update : (e r : ℕ) → r < 256 → Call
  PickFrame : (mask mtu : ℕ) → mask < 256 → Call
  Settle : Option Frame → (r : ℕ) → r < 256 → Call

-- what a call answers
abbrev pub Answer : Call → Type 0
Answer (Unregister e) = Bool
Answer (Register e r h) = Bool
Answer (Update e r h) = Bool
Answer (PickFrame mask mtu h) = Option Picked
Answer (Settle f r h) = Settled

abbrev pub step : (k : Call) → TxQueue → Outcome (Answer k) TxQueue
step (Unregister e) = unregister e
step (Register e r h) = register e r
step (Update e r h) = update e r
step (PickFrame mask mtu h) = pick mask mtu
step (Settle f r h) = settle f r
