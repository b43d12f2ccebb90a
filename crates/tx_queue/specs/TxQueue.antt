-- The transmit queue in plain words, and when it is whole. Sets of priorities are bytes: priority p is in the set if bit p is set.
use Rattle.std.specs.Prelude.{ℕ, suc, ◌+◌, ◌*◌, ◌/◌, List, [], ◌∷◌, Bool, true, cond, ◌&&◌, ◌||◌, eqb, nat_eq, is_some, length, get_or, replicate, Option, Some, None}
use Rattle.std.specs.Option.{option_eq}
use Rattle.state.specs.Seq.{all_b, to_nat}
use Rattle.multi_cycle_list.specs.Lists.{count, first}
use Rattle.emcyphal_core.specs.Priorities.{number}
use Rattle.emcyphal_core.specs.declared.Priority.{Priority}
use Rattle.emcyphal_core.specs.Sets.{has, first_of}

-- an entry's readiness set and started set
pub record Sets : Type 0 where
  pub ready : ℕ
  pub started : ℕ

-- an open pick; the queues give its entry and its priority
pub record Pick : Type 0 where
  pub mask : ℕ
  pub mtu : ℕ

pub record TxQueue : Type 0 where
  -- by the entries' numbers, 0 to 127: the sets of each one that is registered
  pub entries : List (Option Sets)
  -- sixteen queues, each from the front: number 2p has the started entries of priority p, number 2p + 1 the finished ones
  pub queues : List (List ℕ)
  -- the stored wake mask
  pub mask : ℕ
  pub pick : Option Pick

abbrev pub fresh : TxQueue
fresh = record { entries = replicate 128 None; queues = replicate 16 []; mask = 0; pick = None }

-- ---- an entry's queue

abbrev pub queue_of : Option Priority → ℕ → Option ℕ
queue_of (Some p) started = Some (2 * number p + cond (has started (number p)) 0 1)
queue_of None started = None

-- the queue that an entry's sets give, its most urgent ready priority's; none if no priority is ready, and if it is not registered
abbrev pub place : Option Sets → Option ℕ
place None = None
place (Some s) = queue_of (first_of s.ready) s.started

abbrev pub sets_of : TxQueue → ℕ → Option Sets
sets_of m e = get_or m.entries e None

-- the place is the queue k
abbrev pub is_at : ℕ → Option ℕ → Bool
is_at k p = option_eq nat_eq (Some k) p

-- ---- the queue that a pick takes

abbrev pub filled : List ℕ → Bool
filled q = is_some (first q)

-- the first filled queue of a masked priority: the most urgent, started before finished; the first of the list has the number k
unfoldable pub first_from : ℕ → ℕ → List (List ℕ) → Option ℕ
first_from mask k [] = None
first_from mask k (q ∷ qs) = cond (has mask (k / 2) && filled q) (Some k) (first_from mask (suc k) qs)

abbrev pub first_queue : ℕ → TxQueue → Option ℕ
first_queue mask m = first_from mask 0 m.queues

-- ---- document 01's *whole*

-- the entry e stands once in the queue that its sets give, and in no other
abbrev pub placed_b : TxQueue → ℕ → Bool
placed_b m e = all_b 16 (λ k. eqb (count e (get_or m.queues k [])) (to_nat (is_at k (place (sets_of m e)))))

abbrev pub mtu_b : ℕ → Bool
mtu_b mtu = eqb mtu 8 || eqb mtu 64

-- a pick is one that a pick could open on these queues
abbrev pub pick_b : TxQueue → Option Pick → Bool
pick_b m None = true
pick_b m (Some p) = mtu_b p.mtu && is_some (first_queue p.mask m)

unfoldable pub whole_b : TxQueue → Bool
whole_b m = eqb (length m.entries) 128 && (eqb (length m.queues) 16 && (all_b 128 (placed_b m) && pick_b m m.pick))
