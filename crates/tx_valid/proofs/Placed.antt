-- How often each entry stands in each queue once an entry is placed; and queues in which each entry has one place are valid lists.
use Prim.Native.Nat.{ℕ, suc, ◌+◌, ◌<◌, ◌≤◌, zero-le}
use mathlib.Core.Path.{◌≡◌, refl, sym, ap, ◌∙◌}
use mathlib.Core.Logic.{◌≢◌}
use mathlib.Core.List.{List, [], ◌∷◌, ◌++◌}
use mathlib.Core.Bool.{Bool, true, false, cond}
use native.Mathlib.Omega.{arith}
use native.Mathlib.Decide.{ℕ_discrete, dec_lt}
use lib.Dec.{eqb}
use lib.ListN.{length, get_or, length-set, length-map, get_or-map}
use lib.Seq.{get_or-set_same, get_or-set_other}
use borrow.Author.Tests.{eqb-true, eq-eqb, ne_eqb}
use Rattle.std.specs.Prelude.{Option, Some, None, IfSome}
use Rattle.state.specs.Seq.{to_nat}
use Rattle.state.proofs.Tests.{by_cond, not-both}
use Rattle.multi_cycle_list.specs.Lists.{count, counts, without, removed, pushed_back}
use Rattle.multi_cycle_list.proofs.Lists.{count_same, count-other, count-gone, count_kept, count-append, in_count}
use Rattle.multi_cycle_list.proofs.Arcs.{counts_in}
use Rattle.tx_queue.specs.TxQueue.{is_at}
use Rattle.tx_queue.specs.Steps.{requeued}

count-nil : (x : ℕ) → count x [] ≡ 0
unfolding count
count-nil x = refl

no_more : (b : Bool) (c : ℕ) → c + cond b 0 0 ≡ c
no_more true c = omega arith
no_more false c = omega arith

-- ---- an entry that leaves, and that joins at the back

module _ (e : ℕ) (qs : List (List ℕ)) (k : ℕ) where
  removed-row : get_or (removed e qs) k [] ≡ without e (get_or qs k [])
  unfolding without
  removed-row = get_or-map (without e) qs k []

  removed-same : count e (get_or (removed e qs) k []) ≡ 0
  removed-same = ap (count e) removed-row ∙ count-gone e (get_or qs k [])

  removed-other : (x : ℕ) → x ≢ e → count x (get_or (removed e qs) k []) ≡ count x (get_or qs k [])
  removed-other x n = ap (count x) removed-row ∙ count_kept x e (get_or qs k []) n

  -- x stands as often at the back of the queue c as it is e
  pushed : (c x : ℕ) → c < length qs → count x (get_or (pushed_back c e qs) k []) ≡ count x (get_or qs k []) + cond (eqb k c) (count x (e ∷ [])) 0
  pushed c x l =
      elim (ℕ_discrete c k) [
        | yes q ↦
            rw (eq-eqb k c (sym q), ← q)
            (ap (count x) (get_or-set_same qs c (get_or qs c [] ++ (e ∷ [])) [] l) ∙ count-append x (get_or qs c []) (e ∷ []))
        | no q ↦ rw (ne_eqb k c (λ z. q (sym z))) (ap (count x) (get_or-set_other qs c k (get_or qs c [] ++ (e ∷ [])) [] (λ z. q (sym z))) ∙ omega arith)
      ]

-- ---- an entry that is placed

-- its place is the queue p
pub at-is : (p : ℕ) (o : Option ℕ) → is_at p o ≡ true → o ≡ Some p
at-is p None h = not-both (sym h)
at-is p (Some q) h = ap (λ (n : ℕ). Some n) (sym (eqb-true p q h))

pub requeued-long : (e : ℕ) (from to : Option ℕ) (qs : List (List ℕ)) → length qs ≡ 16 → length (requeued from to e qs) ≡ 16
requeued-long e from None qs n = length-map qs (without e) ∙ n
requeued-long e from (Some p) qs n =
    by_cond (λ (z : List (List ℕ)). length z ≡ 16) (is_at p from) (λ _. n)
    (λ _. length-set (removed e qs) p (get_or (removed e qs) p [] ++ (e ∷ [])) ∙ length-map qs (without e) ∙ n)

-- it then stands once, in its queue
pub requeued-same : (e : ℕ) (from to : Option ℕ) (qs : List (List ℕ)) → length qs ≡ 16 → (k : ℕ) → IfSome to (λ p. p < 16)
    → ((p : ℕ) → from ≡ Some p → to ≡ Some p → count e (get_or qs k []) ≡ to_nat (is_at k to)) → count e (get_or (requeued from to e qs) k []) ≡ to_nat (is_at k to)
requeued-same e from None qs n k l s = removed-same e qs k
requeued-same e from (Some p) qs n k l s =
    by_cond (λ (z : List (List ℕ)). count e (get_or z k []) ≡ to_nat (eqb k p)) (is_at p from)
    (λ h. s p (at-is p from h) refl)
    (λ _. pushed e (removed e qs) k p e (omega (arith, length-map qs (without e))) ∙ rw (removed-same e qs k, count_same e e [] refl, count-nil e) (omega arith))

-- and the others stand where they stood
pub requeued-other : (e : ℕ) (from to : Option ℕ) (qs : List (List ℕ)) → length qs ≡ 16 → (x k : ℕ) → IfSome to (λ p. p < 16) → x ≢ e
    → count x (get_or (requeued from to e qs) k []) ≡ count x (get_or qs k [])
requeued-other e from None qs n x k l o = removed-other e qs k x o
requeued-other e from (Some p) qs n x k l o =
    by_cond (λ (z : List (List ℕ)). count x (get_or z k []) ≡ count x (get_or qs k [])) (is_at p from)
    (λ _. refl)
    (λ _. pushed e (removed e qs) k p x (omega (arith, length-map qs (without e)))
    ∙ rw (removed-other e qs k x o, count-other x e [] (λ z. o (sym z)), count-nil x) (no_more (eqb k p) (count x (get_or qs k []))))

-- ---- queues in which each entry has at most one place

-- e stands in no list but that of its place; the first has the number j
counts-placed : (e : ℕ) (o : Option ℕ) (j : ℕ) (rs : List (List ℕ)) → ((k : ℕ) → k < length rs → count e (get_or rs k []) ≡ to_nat (is_at (j + k) o)) → (counts e rs ≤ 1) × (IfSome o (λ p. p < j) → counts e rs ≡ 0)
unfolding counts
counts-placed e o j [] h = (zero-le, λ l. refl)
counts-placed e None j (r ∷ rs) h =
    let i = counts-placed e None (suc j) rs (λ k l. h (suc k) (omega arith)) in
    let c : count e r ≡ 0 = h 0 (omega arith) in
    (omega (arith, i.1 tt), λ l. omega (arith, i.1 tt))
counts-placed e (Some p) j (r ∷ rs) h =
    let i = counts-placed e (Some p) (suc j) rs (λ k l. h (suc k) (omega arith) ∙ ap (λ (n : ℕ). to_nat (is_at n (Some p))) (omega arith)) in
    let c : count e r ≡ to_nat (eqb j p) = h 0 (omega arith) ∙ ap (λ (n : ℕ). to_nat (is_at n (Some p))) (omega arith) in
    elim (ℕ_discrete j p) [
      | yes q ↦ (omega (arith, rw (eq-eqb j p q) at c, i.1 (omega arith)), λ l. absurd (omega arith))
      | no q ↦ (omega (arith, rw (ne_eqb j p q) at c, i.0), λ l. omega (arith, rw (ne_eqb j p q) at c, i.1 (omega arith)))
    ]

pub counts-once : (e : ℕ) (o : Option ℕ) (rs : List (List ℕ)) → ((k : ℕ) → k < length rs → count e (get_or rs k []) ≡ to_nat (is_at k o)) → counts e rs ≤ 1
counts-once e o rs h = (counts-placed e o 0 rs (λ k l. h k l ∙ ap (λ (n : ℕ). to_nat (is_at n o)) (omega arith))).0

pub counts-none : (e : ℕ) (rs : List (List ℕ)) → ((k : ℕ) → k < length rs → count e (get_or rs k []) ≡ 0) → counts e rs ≡ 0
counts-none e rs h =
    elim (dec_lt 0 (counts e rs)) [
      | yes q ↦ (let w = counts_in e rs q in absurd (omega (arith, in_count e (get_or rs w.0 []) w.2, h w.0 w.1)))
      | no q ↦ omega arith
    ]
