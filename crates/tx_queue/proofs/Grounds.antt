-- The whole test's steps, in the code's order.
use Prim.Native.Nat.{ℕ, ◌+◌, ◌<◌, ◌≤◌}
use mathlib.Core.Path.{◌≡◌, refl, sym, ap, ◌∙◌}
use mathlib.Core.List.{List, []}
use mathlib.Core.Bool.{Bool, true, false, ◌&&◌}
use native.Mathlib.Omega.{arith}
use lib.ListN.{length, get_or}
use borrow.Author.Tests.{eq-eqb}
use Rattle.state.specs.Seq.{all_b}
use Rattle.multi_cycle_list.specs.Lists as lists
use Rattle.multi_cycle_list.specs.Nodes as nodes
use Rattle.multi_cycle_list.specs.Inner.{Marked, Whole}
use Rattle.multi_cycle_list.proofs.Arcs.{row_count}
use Rattle.multi_cycle_list.proofs.Laid.{read-valid}
use Rattle.tx_queue.specs.TxQueue as plain
use Rattle.tx_queue.specs.TxQueue.{Sets, place, placed_b, pick_b}
use Rattle.tx_queue.specs.Bytes.{queue_part, read, sizes_b, whole_b}
use Rattle.tx_queue.specs.Inner.{named_b}
use Rattle.tx_queue.proofs.Reading.{Sizes, sizes_of, queue-at, entries-long, queues-long, whole_of}
use Rattle.tx_queue.proofs.Testing.{Marks, marks_are_placed}

-- an entry stands at most once in a queue
pub at-most-once : (s : List ℕ) → nodes.whole_b (queue_part s) ≡ true → (e k : ℕ) → lists.count e (get_or (read s).queues k []) ≤ 1
at-most-once s q e k = omega (arith, row_count e (read s).queues k, (read-valid (queue_part s) q).once e)

module _ (s : List ℕ) (l : length s ≡ 677) (z : sizes_b s ≡ true) (seen : List ℕ) where
  -- the queue is whole, and its test marked the entries
  module _ (q : nodes.whole_b (queue_part s) ≡ true) (marked : Marked (queue_part s) seen) where
    Z : Sizes s
    Z = sizes_of s z

    at : (e : ℕ) → get_or seen (nodes.classes (queue_part s) + e) 0 ≡ get_or seen (16 + e) 0
    at e = ap (λ (c : ℕ). get_or seen (c + e) 0) Z.classes

    -- how often e stands in the queue k
    same_count : (e k : ℕ) → k < 16 → lists.count e (get_or (read s).queues k []) ≡ lists.count e (nodes.list_of (queue_part s) k)
    same_count e k i = ap (lists.count e) (queue-at s k z i)

    marks : Marks (read s).queues seen
    marks = record {
      in_queue = λ e k l i h. sym (at e) ∙ marked.in_class e k (omega (arith, Z.entries)) (omega (arith, Z.classes)) (omega (arith, same_count e k i));
      of_queue = λ e k l h.
          let r = marked.of_class e k (omega (arith, Z.entries)) (at e ∙ h) in
          let i : k < 16 = omega (arith, r.0, Z.classes) in
          (i, omega (arith, r.1, same_count e k i));
      once = at-most-once s q;
    }

    placed : all_b 128 (named_b s seen) ≡ all_b 128 (placed_b (read s))
    placed = marks_are_placed (read s) seen marks (named_b s seen) (λ e l. refl)

    means : whole_b s ≡ (all_b 128 (named_b s seen) && pick_b (read s) (read s).pick)
    unfolding plain.whole_b
    means = whole_of s l z q
        ∙ rw (eq-eqb (length (read s).entries) 128 (entries-long s), eq-eqb (length (read s).queues) 16 (queues-long s z), ← placed) refl

  -- as the code tests it: the queue by its own test, then the marks, then the pick
  pub whole_is : (r : Bool) → Whole (queue_part s) seen r → whole_b s ≡ (r && (all_b 128 (named_b s seen) && pick_b (read s) (read s).pick))
  unfolding whole_b
  whole_is true w = means (sym w.test) (w.marked refl)
  whole_is false w = rw (eq-eqb (length s) 677 l, z, ← w.test)
