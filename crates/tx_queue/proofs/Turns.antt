-- The queue that a pick takes is the first that passes its test; and what the other tests read.
use Prim.Native.Nat.{ℕ, zero, suc, ◌+◌, ◌/◌, ◌<◌, ◌≤◌}
use mathlib.Core.Path.{◌≡◌, refl, sym, ap, ◌∙◌}
use mathlib.Core.List.{List, [], ◌∷◌}
use mathlib.Core.Bool.{Bool, true, false, ◌&&◌}
use native.Mathlib.Omega.{arith}
use lib.Dec.{eqb}
use lib.ListN.{length, get_or, drop}
use lib.Seq.{get_or-take, get_or-drop}
use Rattle.std.specs.Prelude.{Option, Some, None, MatchOption}
use Rattle.multi_cycle_list.specs.Nodes.{classes, entries}
use Rattle.emcyphal_core.specs.Sets.{has}
use Rattle.tx_queue.specs.TxQueue.{TxQueue, filled, first_from, first_queue}
use Rattle.tx_queue.specs.Bytes.{queue_part, sizes_b}

-- the queue k, which stands in the list at n, is of a masked priority and has an entry
abbrev pub takes : ℕ → List (List ℕ) → ℕ → ℕ → Bool
takes mask qs n k = has mask (k / 2) && filled (get_or qs n [])

module _ (mask : ℕ) where
  -- none of the list is taken, whose first has the number j
  first_none : (j : ℕ) (qs : List (List ℕ)) → ((n k : ℕ) → k ≡ j + n → n < length qs → takes mask qs n k ≡ false) → first_from mask j qs ≡ None
  unfolding first_from
  first_none j [] h = refl
  first_none j (q ∷ qs) h = rw (h 0 j (omega arith) (omega arith)) (first_none (suc j) qs (λ n k e l. h (suc n) k (omega arith) (omega arith)))

  -- the queue k is, which stands at n, and none before it
  first-some : (j n k : ℕ) (qs : List (List ℕ)) → k ≡ j + n → n < length qs → takes mask qs n k ≡ true
      → ((m i : ℕ) → i ≡ j + m → m < n → takes mask qs m i ≡ false) → first_from mask j qs ≡ Some k
  unfolding first_from
  first-some j n k [] e l t h = absurd (omega arith)
  first-some j zero k (q ∷ qs) e l t h =
      let z : k ≡ j = omega arith in
      rw (ap (λ (i : ℕ). takes mask (q ∷ qs) 0 i) (sym z) ∙ t) (ap (λ (i : ℕ). Some i) (sym z))
  first-some j (suc n) k (q ∷ qs) e l t h =
      rw (h 0 j (omega arith) (omega arith)) (first-some (suc j) n k qs (omega arith) (omega arith) t (λ m i d b. h (suc m) i (omega arith) (omega arith)))

  pub first-is : (m : TxQueue) → length m.queues ≡ 16 → (r : Option ℕ)
      → MatchOption r ((k : ℕ) → 0 ≤ k → k < 16 → takes mask m.queues k k ≡ false)
      (λ i. (0 ≤ i) × (i < 16) × (takes mask m.queues i i ≡ true) × ((k : ℕ) → 0 ≤ k → k < i → takes mask m.queues k k ≡ false))
      → r ≡ first_queue mask m
  first-is m l None h = sym (first_none 0 m.queues (λ n k e b. let z : n ≡ k = omega arith in rw z (h k (omega arith) (omega arith))))
  first-is m l (Some i) h =
      sym (first-some 0 i i m.queues (omega arith) (omega (arith, h.1)) h.2 (λ n k e b. let z : n ≡ k = omega arith in rw z (h.3 k (omega arith) (omega arith))))

pub sizes_are : (s : List ℕ) → sizes_b s ≡ (eqb (get_or s 0 0) 16 && eqb (get_or s 1 0) 128)
unfolding sizes_b
sizes_are s =
    let c : classes (queue_part s) ≡ get_or s 0 0 = get_or-take 290 (drop 0 s) 0 0 (omega arith) ∙ get_or-drop 0 s 0 0 in
    let e : entries (queue_part s) ≡ get_or s 1 0 = get_or-take 290 (drop 0 s) 1 0 (omega arith) ∙ get_or-drop 0 s 1 0 in
    rw (c, e)
