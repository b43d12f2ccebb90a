-- The test of a tree by itself: marks that are all 0 at first.
use Prim.Native.Nat.{ℕ, suc, ◌+◌}
use mathlib.Core.Path.{◌≡◌, refl, sym, ap, ◌∙◌}
use mathlib.Core.List.{List, [], ◌∷◌}
use mathlib.Core.Bool.{Bool, true, ◌&&◌}
use native.Mathlib.Omega.{arith}
use native.Mathlib.Decide.{ℕ_discrete, dec_lt}
use lib.Dec.{eqb}
use lib.ListN.{length, replicate, length-replicate, get_or-replicate, get_or-eq_default}
use borrow.Author.Tests.{eq-eqb, ne_eqb, lt-ltb, le-ltb}
use Rattle.state.specs.Seq.{all_b}
use Rattle.state.proofs.Tests.{and_l, and_r, and-true, same_test}
use Rattle.entry_tree.specs.Pairs.{Pair, count, is_entry, has_entry, in_range, once_b}
use Rattle.entry_tree.specs.Testing.{mark_of, pairs_b, seen_after, Passed, order_b, gaps_b, pairs_fit_b, Fit}
use Rattle.entry_tree.specs.declared.whole.Check.{Check}
use Rattle.entry_tree.proofs.Passing.{pass_of, of_pass, after_in, after-out}
use Rattle.entry_tree.proofs.Once.{once_of, of_once}

module _ (most : ℕ) (same : Bool) where
  abbrev alone : Check
  alone = record { most = most; same = same; low = 0; high = 0; met = 3 }

  zeros : List ℕ
  zeros = replicate 256 0

  zero-mark : (e : ℕ) → mark_of zeros e ≡ 0
  unfolding zeros
  zero-mark e = elim (dec_lt (2 + e) 256) [ yes q ↦ get_or-replicate {A = ℕ} 256 (2 + e) 0 0 q | no q ↦ get_or-eq_default (replicate 256 0) 0 {n = 2 + e} (omega (arith, length-replicate {A = ℕ} 256 0)) ]

  zero-gaps : (from : ℕ) (l : List Pair) → gaps_b zeros from l ≡ true
  zero-gaps from [] = refl
  zero-gaps from (p ∷ l) = rw (ne_eqb (mark_of zeros p.entry) 1 (λ q. omega (arith, zero-mark p.entry))) (zero-gaps (suc p.subject) l)

  zero-long : length zeros ≡ 256
  unfolding zeros
  zero-long = length-replicate {A = ℕ} 256 0

  fit-test : (l : List Pair) → pairs_b alone zeros 0 l ≡ pairs_fit_b most same l
  unfolding pairs_fit_b
  fit-test l = same_test (pairs_b alone zeros 0 l) (in_range most l && (all_b 128 (once_b l) && order_b same 0 l))
      (λ h. let w = pass_of alone (omega arith) zeros 0 l zero-long h in
      and-true (in_range most l) (all_b 128 (once_b l) && order_b same 0 l) w.range
      (and-true (all_b 128 (once_b l)) (order_b same 0 l) (of_once l w.once) w.order))
      (λ h.
      let rest = and_r (in_range most l) (all_b 128 (once_b l) && order_b same 0 l) h in
      let range = and_l (in_range most l) (all_b 128 (once_b l) && order_b same 0 l) h in
      of_pass alone (omega arith) zeros 0 l zero-long (record {
        range = range;
        order = and_r (all_b 128 (once_b l)) (order_b same 0 l) rest;
        once = once_of most l range (and_l (all_b 128 (once_b l)) (order_b same 0 l) rest);
        marks = λ e i. (omega arith, omega (arith, zero-mark e));
        gaps = zero-gaps 0 l;
      }))

  fit-marks : (l : List Pair) → in_range most l ≡ true → (e : ℕ) → eqb (mark_of (seen_after 3 zeros l) e) 3 ≡ has_entry e l
  fit-marks l h e = elim (ℕ_discrete (count (is_entry e) l) 0) [
    | yes z ↦ rw (ne_eqb (mark_of (seen_after 3 zeros l) e) 3 (λ q. omega (arith, after-out 3 zeros l e z, zero-mark e)), le-ltb 0 (count (is_entry e) l) (omega arith)) refl
    | no z ↦ rw (eq-eqb (mark_of (seen_after 3 zeros l) e) 3 (after_in most 3 zeros l e zero-long h (omega arith)), lt-ltb 0 (count (is_entry e) l) (omega arith)) refl
  ]

  pub fit : (seen₀ seen : List ℕ) (l : List Pair) (r : Bool) → seen₀ ≡ replicate 256 0 → Passed alone seen₀ seen l r → Fit most same seen l r
  unfolding zeros pairs_fit_b
  fit seen₀ seen l r z w =
      let q : r ≡ pairs_fit_b most same l = w.test ∙ ap (λ (s : List ℕ). pairs_b alone s 0 l) z ∙ fit-test l in
      record {
        test = q;
        marks = λ h e. ap (λ (s : List ℕ). eqb (mark_of s e) 3) (w.marks h ∙ ap (λ (s : List ℕ). seen_after 3 s l) z) ∙ fit-marks l (and_l (in_range most l) (all_b 128 (once_b l) && order_b same 0 l) (sym q ∙ h)) e;
      }
