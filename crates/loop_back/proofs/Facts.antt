-- What a whole registry is, and the code's test of it.
use Prim.Native.Nat.{ℕ, ◌<◌, ◌≤◌}
use mathlib.Core.Path.{◌≡◌, refl, sym, ap, ◌∙◌}
use mathlib.Core.List.{List}
use Rattle.std.specs.Prelude.{Option, None, Some}
use mathlib.Core.Bool.{Bool, true, false, ◌&&◌}
use native.Mathlib.Omega.{arith}
use lib.Dec.{eqb, leb}
use lib.ListN.{length, get_or}
use lib.Seq.{get_or-take}
use borrow.Author.Tests.{leb-true, eqb-true, le-leb, eq-eqb}
use Rattle.state.specs.Seq.{all_b}
use Rattle.state.proofs.Tests.{and_l, and_r, and4}
use Rattle.entry_tree.specs.Pairs.{Pair, count, is_entry, has_entry, in_order, in_range, once_b}
use Rattle.entry_tree.specs.Places as tree
use Rattle.entry_tree.specs.Walks.{walk_of, walk_b}
use Rattle.entry_tree.specs.Testing.{pointed_b, pairs_fit_b, Fit}
use Rattle.entry_tree.proofs.Count.{any-true, true-any}
use Rattle.entry_tree.proofs.Once.{Once, once_of, of_once, few}
use Rattle.entry_tree.proofs.Passing.{order_same}
use Rattle.entry_tree.proofs.Walking.{some_is, none-some}
use Rattle.loop_back.specs.Registry as registry
use Rattle.loop_back.specs.Registry.{Registry}
use Rattle.loop_back.specs.Bytes.{tree_part, whole_b, read}

-- ---- the meaning

pub record Facts (m : Registry) : Type 0 where
  pub range : in_range 8191 m.entries ≡ true
  pub once : Once m.entries
  pub order : in_order 0 m.entries ≡ true
  pub walks : (e : ℕ) → m.walk ≡ Some e → 0 < count (is_entry e) m.entries

points : (l : List Pair) (w : Option ℕ) → walk_b l w ≡ true → (e : ℕ) → w ≡ Some e → 0 < count (is_entry e) l
points l None h e q = absurd (none-some e q)
points l (Some x) h e q = any-true (is_entry e) l (ap (λ (z : ℕ). has_entry z l) (sym (some_is x e q)) ∙ h)

of_points : (l : List Pair) (w : Option ℕ) → ((e : ℕ) → w ≡ Some e → 0 < count (is_entry e) l) → walk_b l w ≡ true
of_points l None f = refl
of_points l (Some x) f = true-any (is_entry x) l (f x refl)

pub facts_of : (m : Registry) → registry.whole_b m ≡ true → Facts m
unfolding registry.whole_b
facts_of m h =
    let r = and4 (in_range 8191 m.entries) (all_b 128 (once_b m.entries)) (in_order 0 m.entries) (walk_b m.entries m.walk) h in
    record { range = r.0; once = once_of 8191 m.entries r.0 r.1; order = r.2; walks = points m.entries m.walk r.3 }

pub of_facts : (m : Registry) → Facts m → registry.whole_b m ≡ true
unfolding registry.whole_b
of_facts m f = rw (f.range, of_once m.entries f.once, f.order, of_points m.entries m.walk f.walks)

pub at_most : (m : Registry) → Facts m → length m.entries ≤ 128
at_most m f = few 8191 m.entries f.range f.once

-- ---- whole bytes

pub record Whole (b : List ℕ) : Type 0 where
  pub long : length b ≡ 389
  pub size : tree.size (tree_part b) ≤ 128
  pub means : registry.whole_b (read b) ≡ true

pub whole_of : (b : List ℕ) → whole_b b ≡ true → Whole b
unfolding whole_b
whole_of b h =
    let n = tree.size (tree_part b) in
    let r = and_r (eqb (length b) 389) (leb n 128 && registry.whole_b (read b)) h in
    record { long = eqb-true (length b) 389 (and_l (eqb (length b) 389) (leb n 128 && registry.whole_b (read b)) h); size = leb-true n 128 (and_l (leb n 128) (registry.whole_b (read b)) r); means = and_r (leb n 128) (registry.whole_b (read b)) r }

pub of_whole : (b : List ℕ) → Whole b → whole_b b ≡ true
unfolding whole_b
of_whole b w = rw (eq-eqb (length b) 389 w.long, le-leb (tree.size (tree_part b)) 128 w.size, w.means)

-- ---- the code's test, step by step

pub size_is : (b : List ℕ) → tree.size (tree_part b) ≡ get_or b 0 0
size_is b = get_or-take 385 b 0 0 (omega arith)

module _ (b : List ℕ) (l : length b ≡ 389) (h : get_or b 0 0 ≤ 128) where
  abbrev m : Registry
  m = read b

  tested : whole_b b ≡ (pairs_fit_b 8191 true m.entries && walk_b m.entries m.walk)
  unfolding whole_b registry.whole_b pairs_fit_b
  tested =
      rw (eq-eqb (length b) 389 l, le-leb (tree.size (tree_part b)) 128 (omega (arith, size_is b)), order_same 0 m.entries)
      (assoc (in_range 8191 m.entries) (all_b 128 (once_b m.entries)) (in_order 0 m.entries) (walk_b m.entries m.walk))
    where
      assoc : (p q r w : Bool) → (p && (q && (r && w))) ≡ ((p && (q && r)) && w)
      assoc true true r w = refl
      assoc true false r w = refl
      assoc false q r w = refl

  -- the tree's test came to r; where it said yes, the walk's decides
  module _ (seen : List ℕ) (r : Bool) (f : Fit 8191 true seen m.entries r) where
    all_tested : whole_b b ≡ (r && walk_b m.entries m.walk)
    all_tested = tested ∙ ap (λ (t : Bool). t && walk_b m.entries m.walk) (sym f.test)

    pub no_pairs : r ≡ false → r ≡ whole_b b
    no_pairs q = q ∙ sym (rw q at all_tested)

    same_walk : r ≡ true → (w : Option ℕ) → pointed_b seen w ≡ walk_b m.entries w
    same_walk q None = refl
    same_walk q (Some e) = f.marks q e

    pub whole_last : r ≡ true → pointed_b seen (walk_of (get_or b 385 0)) ≡ whole_b b
    whole_last q = same_walk q m.walk ∙ sym (rw q at all_tested)
