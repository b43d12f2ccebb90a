-- What the tests of the sizes and of wholeness are made of.
use Prim.Native.Nat.{ℕ, ◌+◌, ◌<◌}
use mathlib.Core.Path.{◌≡◌, refl}
use mathlib.Core.Bool.{true, false, ◌&&◌, and-false}
use mathlib.Core.List.{List}
use native.Mathlib.Omega.{arith}
use lib.ListN.{length}
use lib.Dec.{eqb, leb}
use borrow.Author.Tests.{leb-true, eqb-true, ne_eqb}
use Rattle.state.specs.Lengths.{keys_length}
use Rattle.state.specs.Seq.{all_b}
use Rattle.state.proofs.Tests.{and_l, and_r}
use Rattle.index_entries.specs.Bytes.{k_max, entries, slot_at, sizes_b, lists_b, slot_b, key_b, whole_b}
use Rattle.index_whole.specs.Inner.{Sized}

module _ (b : List ℕ) where
  pub sizes_are : sizes_b b ≡ ((leb (k_max b) 8191 && leb (entries b) 222) && eqb (length b) (keys_length (k_max b) (entries b)))
  unfolding sizes_b
  sizes_are = refl

  pub too_short : length b < 11 → sizes_b b ≡ false
  unfolding sizes_b
  too_short h = rw (ne_eqb (length b) (keys_length (k_max b) (entries b)) (λ e. omega arith), and-false)

  pub sized : sizes_b b ≡ true → Sized b
  unfolding sizes_b
  sized h =
      let t = leb (k_max b) 8191 in
      let u = leb (entries b) 222 in
      let l = eqb (length b) (keys_length (k_max b) (entries b)) in
      let a : (t && u) ≡ true = and_l (t && u) l h in
      record {
        few = leb-true (entries b) 222 (and_r t u a);
        most = leb-true (k_max b) 8191 (and_l t u a);
        long = eqb-true _ _ (and_r (t && u) l h);
      }

  pub whole_is : whole_b b ≡ (sizes_b b && (lists_b b && (all_b (entries b) (λ i. slot_b b i (slot_at b i)) && all_b (k_max b + 1) (key_b b))))
  unfolding whole_b
  whole_is = refl
