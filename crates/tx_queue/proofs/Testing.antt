-- The marks that the list queue's test leaves come to the entries' placed.
use Prim.Native.Nat.{ℕ, suc, ◌+◌, ◌-◌, ◌<◌, ◌≤◌}
use mathlib.Core.Path.{◌≡◌, refl, sym, ap, ◌∙◌}
use mathlib.Core.List.{List, []}
use mathlib.Core.Bool.{Bool}
use native.Mathlib.Omega.{arith}
use native.Mathlib.Decide.{ℕ_discrete}
use lib.Dec.{eqb}
use lib.ListN.{get_or}
use borrow.Author.Tests.{eqb-true, eq-eqb}
use Rattle.std.specs.Prelude.{Option, Some, None, IfSome}
use Rattle.state.specs.Seq.{all_b}
use Rattle.state.proofs.Tests.{same_test}
use Rattle.state.proofs.Seq.{all_true, all-at}
use Rattle.multi_cycle_list.specs.Lists.{count}
use Rattle.tx_queue.specs.TxQueue.{TxQueue, place, sets_of, placed_b}
use Rattle.tx_queue.specs.Inner.{mark_of}
use Rattle.tx_queue.proofs.Reading.{place-below, times, times-own, times-other, placed_at, of_placed}

-- each entry's mark names its queue
pub record Marks (queues : List (List ℕ)) (seen : List ℕ) : Type 0 where
  pub in_queue : (e k : ℕ) → e < 128 → k < 16 → 0 < count e (get_or queues k []) → get_or seen (16 + e) 0 ≡ suc k
  pub of_queue : (e k : ℕ) → e < 128 → get_or seen (16 + e) 0 ≡ suc k → (k < 16) × (0 < count e (get_or queues k []))
  pub once : (e k : ℕ) → count e (get_or queues k []) ≤ 1

module _ (m : TxQueue) (seen : List ℕ) (marks : Marks m.queues seen) where
  module _ (e : ℕ) (l : e < 128) where
    abbrev mark : ℕ
    mark = get_or seen (16 + e) 0

    -- the entry, with this place, stands as often in each queue as it says
    abbrev Stands : Option ℕ → Type 0
    Stands at = (k : ℕ) → k < 16 → count e (get_or m.queues k []) ≡ times at k

    -- where its mark names no queue, or another, it does not stand in the queue k
    away : (k : ℕ) → k < 16 → (mark ≡ suc k → ⊥) → count e (get_or m.queues k []) ≡ 0
    away k i n = elim (ℕ_discrete (count e (get_or m.queues k [])) 0) [ yes z ↦ z | no z ↦ absurd (n (marks.in_queue e k l i (omega arith))) ]

    stands : (at : Option ℕ) → mark ≡ mark_of at → Stands at
    stands None h k i = away k i (λ z. absurd (omega arith))
    stands (Some p) h k i = elim (ℕ_discrete p k) [
      | yes q ↦ omega (arith, times-own (Some p) k (ap (λ (n : ℕ). Some n) q), marks.once e k, (marks.of_queue e k l (omega arith)).1)
      | no q ↦ away k i (λ z. q (omega arith)) ∙ sym (times-other (Some p) k (λ z. q (cc)))
    ]

    marked : (at : Option ℕ) → IfSome at (λ k. k < 16) → Stands at → mark ≡ mark_of at
    marked None b f = elim (ℕ_discrete mark 0) [
      | yes z ↦ z
      | no z ↦
          let r = marks.of_queue e (mark - 1) l (omega arith) in
          absurd (omega (arith, r.1, f (mark - 1) r.0))
    ]
    marked (Some p) b f = marks.in_queue e p l b (omega (arith, f p b, times-own (Some p) p refl))

    -- the code's test of a mark
    abbrev mark_b : Bool
    mark_b = eqb mark (mark_of (place (sets_of m e)))

    is-placed : mark_b ≡ placed_b m e
    is-placed =
        let at = place (sets_of m e) in
        same_test mark_b (placed_b m e)
        (λ h. of_placed m e (stands at (eqb-true mark (mark_of at) h)))
        (λ h. eq-eqb mark (mark_of at) (marked at (place-below (sets_of m e)) (placed_at m e h)))

  -- a test of every mark is the test of every place
  pub marks_are_placed : (f : ℕ → Bool) → ((e : ℕ) (l : e < 128) → f e ≡ mark_b e l) → all_b 128 f ≡ all_b 128 (placed_b m)
  marks_are_placed f h = same_test (all_b 128 f) (all_b 128 (placed_b m))
      (λ t. all_true 128 (placed_b m) (λ e l. sym (h e l ∙ is-placed e l) ∙ all-at 128 f t e l))
      (λ t. all_true 128 f (λ e l. h e l ∙ is-placed e l ∙ all-at 128 (placed_b m) t e l))
