-- What whole bytes are, and what is read from them.
use Prim.Native.Nat.{ℕ, ◌+◌, ◌*◌, ◌<◌}
use mathlib.Core.Path.{◌≡◌, refl, sym, ap, ◌∙◌}
use Rattle.std.specs.Prelude.{Option, None, Some, IfSome}
use mathlib.Core.List.{List, []}
use mathlib.Core.Bool.{Bool, true, false, cond}
use native.Mathlib.Omega.{arith}
use lib.Dec.{eqb}
use lib.ListN.{length, get_or}
use borrow.Author.Tests.{eqb-true, eq-eqb, ne_eqb}
use Rattle.state.specs.Lengths.{responses_length}
use Rattle.state.specs.Seq.{all_b, to_nat}
use Rattle.state.proofs.Tests.{and_l, and_r, and4}
use Rattle.state.proofs.Seq.{all_true, all-at, get_d_each, length-each}
use Rattle.multi_cycle_list.specs.Lists.{count}
use Rattle.multi_cycle_list.specs.Nodes as nodes
use Rattle.multi_cycle_list.proofs.Meaning.{list_at}
use Rattle.multi_cycle_list.proofs.Changes.{rows-length}
use Rattle.emcyphal_core.specs.Priorities.{number}
use Rattle.emcyphal_core.specs.Sets.{has, first_of}
use Rattle.emcyphal_core.specs.declared.Priority.{Priority}
use Rattle.emcyphal_core.proofs.Laws.{numbered}
use Rattle.tx_queue.specs.TxQueue as plain
use Rattle.tx_queue.specs.TxQueue.{Sets, TxQueue, queue_of, place, sets_of, is_at, placed_b, pick_b}
use Rattle.tx_queue.specs.Bytes.{queue_part, sets_at, read, sizes_b, whole_b}

-- ---- an entry's queue

pub queue-below : (p : Option Priority) (started : ℕ) → IfSome (queue_of p started) (λ k. k < 16)
queue-below (Some p) started = least (has started (number p))
  where
    least : (b : Bool) → 2 * number p + cond b 0 1 < 16
    least true = omega (arith, (numbered p).0)
    least false = omega (arith, (numbered p).0)
queue-below None started = tt

pub place-below : (o : Option Sets) → IfSome (place o) (λ k. k < 16)
place-below None = tt
place-below (Some s) = queue-below (first_of s.ready) s.started

-- ---- what is read

pub sets_are : (s : List ℕ) (e : ℕ) → e < 128 → sets_of (read s) e ≡ sets_at s e
sets_are s e l = get_d_each 128 (sets_at s) e None l

pub entries-long : (s : List ℕ) → length (read s).entries ≡ 128
entries-long s = length-each 128 (sets_at s)

pub record Sizes (s : List ℕ) : Type 0 where
  pub classes : nodes.classes (queue_part s) ≡ 16
  pub entries : nodes.entries (queue_part s) ≡ 128

pub sizes_of : (s : List ℕ) → sizes_b s ≡ true → Sizes s
unfolding sizes_b
sizes_of s h =
    let c = eqb (nodes.classes (queue_part s)) 16 in
    let e = eqb (nodes.entries (queue_part s)) 128 in
    record { classes = eqb-true (nodes.classes (queue_part s)) 16 (and_l c e h); entries = eqb-true (nodes.entries (queue_part s)) 128 (and_r c e h) }

pub of_sizes : (s : List ℕ) → Sizes s → sizes_b s ≡ true
unfolding sizes_b
of_sizes s z = rw (eq-eqb (nodes.classes (queue_part s)) 16 z.classes, eq-eqb (nodes.entries (queue_part s)) 128 z.entries)

pub queues-long : (s : List ℕ) → sizes_b s ≡ true → length (read s).queues ≡ 16
queues-long s h = rows-length (queue_part s) ∙ (sizes_of s h).classes

pub queue-at : (s : List ℕ) (k : ℕ) → sizes_b s ≡ true → k < 16 → get_or (read s).queues k [] ≡ nodes.list_of (queue_part s) k
queue-at s k h l = list_at (queue_part s) k (omega (arith, (sizes_of s h).classes))

-- ---- whole bytes

pub record Known (s : List ℕ) : Type 0 where
  pub long : length s ≡ 677
  pub sizes : sizes_b s ≡ true
  pub classes : nodes.classes (queue_part s) ≡ 16
  pub entries : nodes.entries (queue_part s) ≡ 128
  pub queue : nodes.whole_b (queue_part s) ≡ true
  pub means : plain.whole_b (read s) ≡ true

pub known : (s : List ℕ) → whole_b s ≡ true → Known s
unfolding whole_b
known s h =
    let r = and4 (eqb (length s) responses_length) (sizes_b s) (nodes.whole_b (queue_part s)) (plain.whole_b (read s)) h in
    let z = sizes_of s r.1 in
    record { long = eqb-true (length s) responses_length r.0; sizes = r.1; classes = z.classes; entries = z.entries; queue = r.2; means = r.3 }

pub whole_of : (s : List ℕ) → length s ≡ 677 → sizes_b s ≡ true → nodes.whole_b (queue_part s) ≡ true → whole_b s ≡ plain.whole_b (read s)
unfolding whole_b
whole_of s l z q = rw (eq-eqb (length s) 677 l, z, q)

-- ---- a whole meaning

-- how often an entry that belongs in the queue p stands in the queue k
abbrev pub times : Option ℕ → ℕ → ℕ
times p k = to_nat (is_at k p)

pub times-own : (p : Option ℕ) (k : ℕ) → p ≡ Some k → times p k ≡ 1
times-own p k q = rw (q, eq-eqb k k refl)

pub times-other : (p : Option ℕ) (k : ℕ) → (p ≡ Some k → ⊥) → times p k ≡ 0
times-other None k q = refl
times-other (Some p) k q = rw (ne_eqb k p (λ z. q (ap (λ (n : ℕ). Some n) (sym z))))

pub record Conditions (m : TxQueue) : Type 0 where
  pub entries : length m.entries ≡ 128
  pub queues : length m.queues ≡ 16
  pub placed : (e k : ℕ) → e < 128 → k < 16 → count e (get_or m.queues k []) ≡ times (place (sets_of m e)) k
  pub pick : pick_b m m.pick ≡ true

-- an entry's place, and what its count is in each queue
pub placed_at : (m : TxQueue) (e : ℕ) → placed_b m e ≡ true → (k : ℕ) → k < 16 → count e (get_or m.queues k []) ≡ times (place (sets_of m e)) k
placed_at m e h k l = eqb-true (count e (get_or m.queues k [])) (times (place (sets_of m e)) k)
    (all-at 16 (λ k. eqb (count e (get_or m.queues k [])) (times (place (sets_of m e)) k)) h k l)

pub of_placed : (m : TxQueue) (e : ℕ) → ((k : ℕ) → k < 16 → count e (get_or m.queues k []) ≡ times (place (sets_of m e)) k) → placed_b m e ≡ true
of_placed m e f = all_true 16 (λ k. eqb (count e (get_or m.queues k [])) (times (place (sets_of m e)) k))
    (λ k l. eq-eqb (count e (get_or m.queues k [])) (times (place (sets_of m e)) k) (f k l))

pub conditions : (m : TxQueue) → plain.whole_b m ≡ true → Conditions m
unfolding plain.whole_b
conditions m h =
    let r = and4 (eqb (length m.entries) 128) (eqb (length m.queues) 16) (all_b 128 (placed_b m)) (pick_b m m.pick) h in
    record {
      entries = eqb-true (length m.entries) 128 r.0;
      queues = eqb-true (length m.queues) 16 r.1;
      placed = λ e k l i. placed_at m e (all-at 128 (placed_b m) r.2 e l) k i;
      pick = r.3;
    }

pub of_conditions : (m : TxQueue) → Conditions m → plain.whole_b m ≡ true
unfolding plain.whole_b
of_conditions m c = rw (
  eq-eqb (length m.entries) 128 c.entries,
  eq-eqb (length m.queues) 16 c.queues,
  all_true 128 (placed_b m) (λ e l. of_placed m e (λ k i. c.placed e k l i)),
  c.pick,
)
