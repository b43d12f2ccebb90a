-- What the loop that tests a tree's pairs keeps, one law for each way out.
use Prim.Native.Nat.{ℕ, suc, ◌+◌, ◌<◌, ◌≤◌}
use mathlib.Core.Path.{◌≡◌, sym, ap, ◌∙◌}
use mathlib.Core.List.{List, [], ◌∷◌, map}
use mathlib.Core.Bool.{true, false}
use native.Mathlib.Omega.{arith}
use lib.ListN.{length, get_or, drop, drop_of_length-le}
use lib.Seq.{drop-cons}
use Rattle.std.proofs.lemmas.List.{length-map, get_or-map}
use Rattle.entry_tree.specs.Pairs.{Pair}
use Rattle.entry_tree.specs.Inner.{pair_of}
use Rattle.entry_tree.specs.Testing.{pair_b, meets, pairs_b, seen_after, Passed}
use Rattle.entry_tree.specs.declared.whole.Check.{Check}
use Rattle.entry_tree.proofs.Lists.{none}

-- the pairs of the first i places are tested
pub record Turn (c : Check) (places : List (List ℕ)) (seen₀ seen : List ℕ) (from i : ℕ) : Type 0 where
  pub test : pairs_b c seen₀ 0 (map pair_of places) ≡ pairs_b c seen from (drop i (map pair_of places))
  pub marks : seen_after c.met seen₀ (map pair_of places) ≡ seen_after c.met seen (drop i (map pair_of places))

module _ (c : Check) (places : List (List ℕ)) (seen₀ : List ℕ) where
  next-pair : (i : ℕ) (d : List ℕ) → i < length places → drop i (map pair_of places) ≡ pair_of (get_or places i d) ∷ drop (suc i) (map pair_of places)
  next-pair i d h =
      drop-cons (map pair_of places) i none (omega (arith, length-map places pair_of))
      ∙ ap (λ (p : Pair). p ∷ drop (suc i) (map pair_of places)) (get_or-map pair_of places i d none h)

  module _ (seen : List ℕ) (from i : ℕ) (h : Turn c places seen₀ seen from i) where
    pub turn_fails : (d : List ℕ) → i < length places → pair_b c seen from (pair_of (get_or places i d)) ≡ false → pairs_b c seen₀ 0 (map pair_of places) ≡ false
    unfolding pairs_b
    turn_fails d l f = h.test ∙ ap (pairs_b c seen from) (next-pair i d l) ∙ rw f

    pub turn_again : (d : List ℕ) → i < length places → pair_b c seen from (pair_of (get_or places i d)) ≡ true → (x : ℕ) → x ≡ (pair_of (get_or places i d)).subject
        → Turn c places seen₀ (meets c.met seen (pair_of (get_or places i d))) (x + 1) (i + 1)
    unfolding pairs_b seen_after
    turn_again d l f x q =
        let p = pair_of (get_or places i d) in
        let a : x + 1 ≡ suc p.subject = omega arith in
        let b : i + 1 ≡ suc i = omega arith in
        rw (a, b)
        (record {
          test = h.test ∙ ap (pairs_b c seen from) (next-pair i d l) ∙ rw f;
          marks = h.marks ∙ ap (seen_after c.met seen) (next-pair i d l);
        })

    pub turn_end : length places ≤ i → Passed c seen₀ seen (map pair_of places) true
    unfolding pairs_b seen_after
    turn_end l =
        let q : drop i (map pair_of places) ≡ [] = drop_of_length-le (map pair_of places) {i = i} (omega (arith, length-map places pair_of)) in
        record { test = sym (h.test ∙ ap (pairs_b c seen from) q); marks = λ z. sym (h.marks ∙ ap (seen_after c.met seen) q) }

-- a test that failed says nothing of the marks
pub failed : (c : Check) (seen₀ seen : List ℕ) (l : List Pair) → pairs_b c seen₀ 0 l ≡ false → Passed c seen₀ seen l false
failed c seen₀ seen l q = record { test = sym q; marks = λ h. never h }
  where
    never : {A : Type 0} → false ≡ true → A
    never h = absurd (let z : ◌≡◌ {A = ℕ} 0 1 = cc in omega arith)
