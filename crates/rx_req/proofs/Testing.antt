-- The code's test comes to *whole* as specs/Bytes.antt has it, and what whole bytes are.
use Prim.Native.Nat.{ℕ, ◌≤◌}
use mathlib.Core.Path.{◌≡◌}
use mathlib.Core.List.{List}
use mathlib.Core.Bool.{true, false, ◌&&◌}
use lib.Dec.{eqb, leb}
use lib.ListN.{length}
use borrow.Author.Tests.{leb-true, le-leb, eqb-true, eq-eqb}
use Rattle.state.specs.Seq.{all_b}
use Rattle.state.proofs.Tests.{and_l, and_r}
use Rattle.entry_tree.specs.Pairs.{in_range, once_b, rising}
use Rattle.entry_tree.specs.Places.{size, read}
use Rattle.entry_tree.specs.Inner.{IsTree, tree_length}
use Rattle.entry_tree.specs.Testing.{pairs_fit_b}
use Rattle.entry_tree.proofs.Once.{Once, once_of, of_once}
use Rattle.entry_tree.proofs.Passing.{order-rising}
use Rattle.rx_req.specs.Registry.{Registry, whole_b as valid_b}
use Rattle.rx_req.specs.Bytes.{whole_b}

-- ---- a valid meaning

pub record Conditions (m : Registry) : Type 0 where
  pub range : in_range 511 m ≡ true
  pub once : Once m
  pub rises : rising 0 m ≡ true

pub conditions : (m : Registry) → valid_b m ≡ true → Conditions m
unfolding valid_b
conditions m h =
    let range = and_l (in_range 511 m) (all_b 128 (once_b m) && rising 0 m) h in
    let rest = and_r (in_range 511 m) (all_b 128 (once_b m) && rising 0 m) h in
    record { range = range; once = once_of 511 m range (and_l (all_b 128 (once_b m)) (rising 0 m) rest); rises = and_r (all_b 128 (once_b m)) (rising 0 m) rest }

pub of_conditions : (m : Registry) → Conditions m → valid_b m ≡ true
unfolding valid_b
of_conditions m c = rw (c.range, of_once m c.once, c.rises)

-- ---- whole bytes

module _ (s : List ℕ) where
  module _ (l : length s ≡ tree_length) where
    pub sized : size s ≤ 128 → whole_b s ≡ valid_b (read s)
    unfolding whole_b
    sized h = rw (eq-eqb (length s) tree_length l, le-leb (size s) 128 h)

    pub pairs_test : size s ≤ 128 → pairs_fit_b 511 false (read s) ≡ whole_b s
    unfolding pairs_fit_b valid_b whole_b
    pairs_test h = rw (eq-eqb (length s) tree_length l, le-leb (size s) 128 h, order-rising 0 (read s))

  pub record Known : Type 0 where
    pub tree : IsTree s
    pub valid : valid_b (read s) ≡ true

  pub known : whole_b s ≡ true → Known
  unfolding whole_b
  known h =
      let rest = and_r (eqb (length s) tree_length) (leb (size s) 128 && valid_b (read s)) h in
      record {
        tree = record {
          len = eqb-true (length s) tree_length (and_l (eqb (length s) tree_length) (leb (size s) 128 && valid_b (read s)) h);
          few = leb-true (size s) 128 (and_l (leb (size s) 128) (valid_b (read s)) rest);
        };
        valid = and_r (leb (size s) 128) (valid_b (read s)) rest;
      }
