-- The class whose front, or back, an entry is: the node before it, or after it, where that is a class.
use Prim.Native.Nat.{ℕ, zero, suc, ◌+◌, ◌<◌}
use mathlib.Core.Path.{◌≡◌, refl, sym, ap, ◌∙◌}
use mathlib.Core.List.{List, [], ◌∷◌}
use mathlib.Core.Bool.{Bool, true, false}
use native.Mathlib.Omega.{arith}
use native.Mathlib.Decide.{dec_lt}
use native.Mathlib.Nat.{not-suc-le-zero}
use borrow.Author.Tests.{lt-ltb, le-ltb, eqb-true, eq-eqb}
use Rattle.std.specs.Prelude.{Some, None}
use Rattle.state.specs.Seq.{each}
use Rattle.state.proofs.Tests.{not-both, false_of}
use Rattle.multi_cycle_list.specs.Nodes.{classes, entries, next, prev, whole_b, list_of, lists_of}
use Rattle.multi_cycle_list.specs.Lists.{first, last}
use Rattle.multi_cycle_list.proofs.Chain.{Chain}
use Rattle.multi_cycle_list.proofs.Sound.{linked_in, sound}
use Rattle.multi_class_queue.specs.Calls.{says, which}
use Rattle.multi_class_queue.specs.Inner.{as_class}

which-at : (t : List ℕ → Bool) (n : ℕ) (f : ℕ → List ℕ) (k c : ℕ) → c < n → t (f c) ≡ true → ((d : ℕ) → d < n → t (f d) ≡ true → d ≡ c) → which t k (each n f) ≡ Some (k + c)
unfolding which each
which-at t zero f k c h y u = absurd (not-suc-le-zero h)
which-at t (suc n) f k zero h y u =
    let q : k ≡ k + 0 = omega arith in
    rw y (ap Some q)
which-at t (suc n) f k (suc c) h y u =
    let q : suc k + c ≡ k + suc c = omega arith in
    let no : t (f 0) ≡ false = false_of (t (f 0)) (λ z. omega (arith, u 0 (omega arith) z)) in
    rw no (which-at t n (λ j. f (suc j)) (suc k) c (omega arith) y (λ d hd z. omega (arith, u (suc d) (omega arith) z)) ∙ ap Some q)

which-none : (t : List ℕ → Bool) (n : ℕ) (f : ℕ → List ℕ) (k : ℕ) → ((d : ℕ) → d < n → t (f d) ≡ true → ⊥) → which t k (each n f) ≡ None
unfolding which each
which-none t zero f k u = refl
which-none t (suc n) f k u =
    let no : t (f 0) ≡ false = false_of (t (f 0)) (λ z. u 0 (omega arith) z) in
    rw no (which-none t n (λ j. f (suc j)) (suc k) (λ d hd z. u (suc d) (omega arith) z))

module _ (C : ℕ) (nx pv : ℕ → ℕ) (e : ℕ) where
  says_first : (es : List ℕ) (c : ℕ) → Chain C nx pv c es c → says e (first es) ≡ true → pv (C + e) ≡ c
  says_first [] c p h = not-both (sym h)
  says_first (x ∷ xs) c p h = ap (λ (z : ℕ). pv (C + z)) (sym (eqb-true x e h)) ∙ p.0.1

  first_says : (es : List ℕ) (c : ℕ) → c < C → Chain C nx pv c es c → nx c ≡ C + e → says e (first es) ≡ true
  first_says [] c hc p h = absurd (omega (arith, p.0))
  first_says (x ∷ xs) c hc p h = eq-eqb x e (omega (arith, p.0.0))

  says_last : (es : List ℕ) (a c : ℕ) → Chain C nx pv a es c → says e (last es) ≡ true → nx (C + e) ≡ c
  says_last [] a c p h = not-both (sym h)
  says_last (x ∷ []) a c p h = ap (λ (z : ℕ). nx (C + z)) (sym (eqb-true x e h)) ∙ p.1.0
  says_last (x ∷ (y ∷ ys)) a c p h = says_last (y ∷ ys) (C + x) c p.1 h

  last_more : (x : ℕ) (xs : List ℕ) (c : ℕ) → Chain C nx pv (C + x) xs c → pv c ≡ C + e → says e (last (x ∷ xs)) ≡ true
  last_more x [] c p h = eq-eqb x e (omega (arith, p.1))
  last_more x (y ∷ ys) c p h = last_more y ys c p.1 h

  last_says : (es : List ℕ) (c : ℕ) → c < C → Chain C nx pv c es c → pv c ≡ C + e → says e (last es) ≡ true
  last_says [] c hc p h = absurd (omega (arith, p.1))
  last_says (x ∷ xs) c hc p h = last_more x xs c p.1 h

module _ (s : List ℕ) (h : whole_b s ≡ true) where
  -- a test that is true of the class p's list alone, if p is a class
  one-class : (t : List ℕ → Bool) (p : ℕ) → ((d : ℕ) → d < classes s → t (list_of s d) ≡ true → p ≡ d) → (p < classes s → t (list_of s p) ≡ true) → which t 0 (lists_of s) ≡ as_class s p
  unfolding lists_of
  one-class t p only is =
      let C = classes s in
      elim (dec_lt p C) [
        | yes q ↦ (let o : 0 + p ≡ p = omega arith in rw (lt-ltb p C q) (which-at t C (list_of s) 0 p q (is q) (λ d hd z. sym (only d hd z)) ∙ ap Some o))
        | no q ↦ rw (le-ltb p C (omega arith)) (which-none t C (list_of s) 0 (λ d hd z. q (omega (arith, only d hd z))))
      ]

  module _ (e : ℕ) (he : e < entries s) where
    pub front_class : which (λ r. says e (first r)) 0 (lists_of s) ≡ as_class s (prev s (classes s + e))
    front_class =
        let C = classes s in
        let p = prev s (C + e) in
        one-class (λ r. says e (first r)) p
        (λ d hd z. says_first C (next s) (prev s) e (list_of s d) d ((sound s h).chains d hd) z)
        (λ q. first_says C (next s) (prev s) e (list_of s p) p q ((sound s h).chains p q) (linked_in s h (C + e) (omega arith)).forth)

    pub back_class : which (λ r. says e (last r)) 0 (lists_of s) ≡ as_class s (next s (classes s + e))
    back_class =
        let C = classes s in
        let p = next s (C + e) in
        one-class (λ r. says e (last r)) p
        (λ d hd z. says_last C (next s) (prev s) e (list_of s d) d d ((sound s h).chains d hd) z)
        (λ q. last_says C (next s) (prev s) e (list_of s p) p q ((sound s h).chains p q) (linked_in s h (C + e) (omega arith)).back)
