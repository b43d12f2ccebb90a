-- The registry's bytes as a join: the tree of subjects and the transmit queue.
use Prim.Native.Nat.{ℕ, ◌≤◌}
use mathlib.Core.Path.{◌≡◌, refl, sym, ap, ◌∙◌}
use mathlib.Core.List.{List, ◌++◌, append-nil}
use native.Mathlib.Omega.{arith}
use lib.ListN.{length, take, drop, length-append, length-drop, take-append-drop, drop_of_length-le}
use lib.Seq.{take_at, drop_at, take_all, length-take-le}
use borrow.Rule.Slice.PartMut.{put_mid}
use Rattle.entry_tree.specs.Places as tree
use Rattle.entry_tree.proofs.Laid as trees
use Rattle.tx_queue.specs.Bytes as queue
use Rattle.tx_queue.proofs.Parts as queues
use Rattle.tx_msg.specs.Registry.{Registry}
use Rattle.tx_msg.specs.Bytes.{tree_part, queue_part, laid}

pub record Joined (s T Q : List ℕ) : Type 0 where
  pub is : s ≡ T ++ Q
  pub long-t : length T ≡ 385
  pub long-q : length Q ≡ 677

module _ (s T Q : List ℕ) (h : Joined s T Q) where
  pub tree_is : tree_part s ≡ T
  tree_is = ap (take 385) h.is ∙ take_at T Q 385 h.long-t

  tail-is : drop 385 s ≡ Q
  tail-is = ap (drop 385) h.is ∙ drop_at T Q 385 h.long-t

  pub queue-is : queue_part s ≡ Q
  queue-is = ap (take 677) tail-is ∙ take_all 677 Q (omega (arith, h.long-q))

  pub long : length s ≡ 1062
  long = ap length h.is ∙ length-append T Q ∙ omega (arith, h.long-t, h.long-q)

  -- ---- stores

  pub put_tree : (p : List ℕ) → length p ≡ 385 → Joined (put_mid 0 385 s p) p Q
  put_tree p l = record { is = ap (λ (z : List ℕ). p ++ z) tail-is; long-t = l; long-q = h.long-q }

  pub put-queue : (p : List ℕ) → length p ≡ 677 → Joined (put_mid 385 677 s p) T p
  put-queue p l = record {
    is = rw (tree_is, tail-is, drop_of_length-le Q {i = 677} (omega (arith, h.long-q)), append-nil p);
    long-t = h.long-t;
    long-q = l;
  }

pub split : (s : List ℕ) → length s ≡ 1062 → Joined s (tree_part s) (queue_part s)
split s l =
    let n : length (drop 385 s) ≡ 677 = length-drop 385 s ∙ omega arith in
    let q : queue_part s ≡ drop 385 s = take_all 677 (drop 385 s) (omega arith) in
    record {
      is = sym (take-append-drop 385 s) ∙ ap (λ (z : List ℕ). take 385 s ++ z) (sym q);
      long-t = length-take-le 385 s (omega arith);
      long-q = ap length q ∙ n;
    }

-- ---- what is laid

pub laid-joined : (m : Registry) (b : List ℕ) → length b ≡ 1062 → length m.subjects ≤ 128 → length m.queue.queues ≡ 16
    → Joined (laid m b) (tree.laid m.subjects (tree_part b)) (queue.laid m.queue (queue_part b))
unfolding laid
laid-joined m b l n k = record { is = refl; long-t = trees.length-laid (tree_part b) (split b l).long-t m.subjects n; long-q = queues.long (queue.laid m.queue (queue_part b)) _ _ _ _ _ (queues.laid-joined m.queue (queue_part b) k) }

pub laid_from : {s T Q : List ℕ} (m : Registry) (b : List ℕ) → Joined s T Q → T ≡ tree.laid m.subjects (tree_part b) → Q ≡ queue.laid m.queue (queue_part b) → s ≡ laid m b
unfolding laid
laid_from m b j t q = j.is ∙ λ k. t k ++ q k
