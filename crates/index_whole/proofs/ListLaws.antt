-- What the test of the list part tells: the marks name the free entries.
use Prim.Native.Nat.{ℕ, ◌+◌, ◌-◌, ◌*◌, ◌<◌}
use mathlib.Core.Path.{◌≡◌, sym, ap, ◌∙◌, subst}
use mathlib.Core.Bool.{Bool, false, ◌&&◌}
use mathlib.Core.List.{List}
use native.Mathlib.Omega.{arith}
use lib.ListN.{get_or, take, drop}
use lib.Dec.{eqb}
use lib.Seq.{get_or-take, get_or-drop}
use borrow.Author.Tests.{lt-ltb, ltb-true, eq-eqb, ne_eqb, eqb-true}
use Rattle.state.proofs.Tests.{not-both, same_test}
use Rattle.multi_cycle_list.specs.Lists.{count}
use Rattle.multi_cycle_list.specs.Nodes as nodes
use Rattle.multi_cycle_list.specs.Inner.{Marked, Whole}
use Rattle.index_entries.specs.Bytes.{entries, list_part, is_listed, lists_b}
use Rattle.index_whole.specs.Inner.{Freed, Listed}

module _ (b : List ℕ) where
  part_at : (j : ℕ) → j < 6 + 2 * entries b → get_or (list_part b) j 0 ≡ get_or b (2 + j) 0
  part_at j h = rw (get_or-take, get_or-drop)

  pub not_two : (seen : List ℕ) → (get_or b 2 0 ≡ 2 → ⊥) → Listed b seen false
  unfolding lists_b
  not_two seen h =
      let p = part_at 0 (omega arith) in
      record { test = rw (ne_eqb (nodes.classes (list_part b)) 2 (λ q. h (sym p ∙ q))); freed = λ t. not-both (sym t) }

  marks-free : (seen : List ℕ) → get_or b 2 0 ≡ 2 → Marked (list_part b) seen → Freed b seen
  marks-free seen two m i h =
      let l = list_part b in
      let c : nodes.classes l ≡ 2 = part_at 0 (omega arith) ∙ two in
      let e : nodes.entries l ≡ entries b = part_at 1 (omega arith) in
      let at : get_or seen (nodes.classes l + i) 0 ≡ get_or seen (2 + i) 0 = ap (λ (x : ℕ). get_or seen (x + i) 0) c in
      same_test (eqb (get_or seen (2 + i) 0) 2) (is_listed b i)
      (λ t. lt-ltb 0 (count i (nodes.list_of l 1)) (m.of_class i 1 (omega arith) (at ∙ eqb-true (get_or seen (2 + i) 0) 2 t)).1)
      (λ t. eq-eqb (get_or seen (2 + i) 0) 2 (sym at ∙ m.in_class i 1 (omega arith) (omega arith) (ltb-true 0 (count i (nodes.list_of l 1)) t)))

  pub listed : (seen : List ℕ) (r : Bool) (n : ℕ) → get_or b 2 0 ≡ 2 → n ≡ entries b → Whole (take (8 + 2 * n - 2) (drop 2 b)) seen r → Listed b seen r
  unfolding lists_b
  listed seen r n two q w =
      let l = list_part b in
      let e : 8 + 2 * n - 2 ≡ 6 + 2 * entries b = omega arith in
      let v : Whole l seen r = subst (λ (x : ℕ). Whole (take x (drop 2 b)) seen r) e w in
      record {
        test = v.test ∙ sym (ap (λ (t : Bool). t && nodes.whole_b l) (eq-eqb (nodes.classes l) 2 (part_at 0 (omega arith) ∙ two)));
        freed = λ t. marks-free seen two (v.marked t);
      }
