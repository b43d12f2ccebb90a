-- The transmit queue's 677 bytes:
--   0      a list queue of 16 classes and 128 entries
--   290    a readiness set for each entry      418    a started set for each entry
--   546    for each entry, 0 if it is not registered, or any other byte if it is; of one that is not, its sets say nothing
--   674    the stored wake mask
--   675    the pick's mask, which says nothing if none is open      676    the pick's mtu, or 0 if none is open
use Rattle.std.specs.Prelude.{ℕ, ◌+◌, List, [], ◌∷◌, ◌++◌, Bool, cond, ◌&&◌, eqb, length, get_or, take, drop, Option, None, Some}
use Rattle.state.specs.Lengths.{responses_length}
use Rattle.state.specs.Seq.{each}
use Rattle.multi_cycle_list.specs.Nodes as nodes
use Rattle.multi_cycle_list.specs.Laid as lists
use Rattle.tx_queue.specs.TxQueue as queue
use Rattle.tx_queue.specs.TxQueue.{Sets, Pick, TxQueue}

abbrev pub queue_part : List ℕ → List ℕ
queue_part b = take 290 (drop 0 b)

abbrev pub ready_at : List ℕ → ℕ → ℕ
ready_at b e = get_or b (290 + e) 0

abbrev pub started_at : List ℕ → ℕ → ℕ
started_at b e = get_or b (418 + e) 0

abbrev pub flag_at : List ℕ → ℕ → ℕ
flag_at b e = get_or b (546 + e) 0

abbrev pub sets_at : List ℕ → ℕ → Option Sets
sets_at b e = cond (eqb (flag_at b e) 0) None (Some (record { ready = ready_at b e; started = started_at b e }))

abbrev pub pick_of : ℕ → ℕ → Option Pick
pick_of mask mtu = cond (eqb mtu 0) None (Some (record { mask = mask; mtu = mtu }))

abbrev pub read : List ℕ → TxQueue
read b = record {
  entries = each 128 (sets_at b);
  queues = nodes.lists_of (queue_part b);
  mask = get_or b 674 0;
  pick = pick_of (get_or b 675 0) (get_or b 676 0);
}

-- ---- whole: the length, the queue, and what the bytes mean

unfoldable pub sizes_b : List ℕ → Bool
sizes_b b = eqb (nodes.classes (queue_part b)) 16 && eqb (nodes.entries (queue_part b)) 128

unfoldable pub whole_b : List ℕ → Bool
whole_b b = eqb (length b) responses_length && (sizes_b b && (nodes.whole_b (queue_part b) && queue.whole_b (read b)))

-- ---- the bytes of a meaning, over the old ones: what says nothing stays

abbrev pub ready_over : Option Sets → ℕ → ℕ
ready_over None v = v
ready_over (Some s) v = s.ready

abbrev pub started_over : Option Sets → ℕ → ℕ
started_over None v = v
started_over (Some s) v = s.started

abbrev pub flag_over : Option Sets → ℕ → ℕ
flag_over None v = 0
flag_over (Some s) v = cond (eqb v 0) 1 v

abbrev pub pick_mask_over : Option Pick → ℕ → ℕ
pick_mask_over None v = v
pick_mask_over (Some p) v = p.mask

abbrev pub mtu_of : Option Pick → ℕ
mtu_of None = 0
mtu_of (Some p) = p.mtu

unfoldable pub laid : TxQueue → List ℕ → List ℕ
laid m b =
    lists.laid (record { entries = 128; rows = m.queues })
    ++ (each 128 (λ e. ready_over (queue.sets_of m e) (ready_at b e))
    ++ (each 128 (λ e. started_over (queue.sets_of m e) (started_at b e))
    ++ (each 128 (λ e. flag_over (queue.sets_of m e) (flag_at b e))
    ++ (m.mask ∷ (pick_mask_over m.pick (get_or b 675 0) ∷ (mtu_of m.pick ∷ []))))))
