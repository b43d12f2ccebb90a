-- What each call leaves.
use Prim.Native.Nat.{ℕ, ◌<◌}
use mathlib.Core.Path.{◌≡◌, ◌∙◌}
use mathlib.Core.List.{List, []}
use mathlib.Core.Bool.{true, false}
use native.Mathlib.Omega.{arith}
use lib.ListN.{replicate, length-replicate, get_or-replicate}
use Rattle.std.specs.Prelude.{Some, position}
use Rattle.state.proofs.Filled.{zero-bytes}
use Rattle.entry_tree.specs.Pairs.{is_entry, has_entry, without, in_order}
use Rattle.entry_tree.specs.Places.{size, read, laid}
use Rattle.entry_tree.specs.Inner.{IsTree, tree_length, removed_at}
use Rattle.entry_tree.proofs.Finding.{place_in, removed-is}
use Rattle.entry_tree.proofs.Lists.{any-position}
use Rattle.entry_tree.proofs.Reading.{read_length}
use Rattle.entry_tree.proofs.Once as once
use Rattle.rx_req.specs.Bytes.{whole_b}
use Rattle.rx_req.proofs.Testing.{conditions, known}

pub opened : (n : ℕ) → n ≡ tree_length → replicate n 0 ≡ laid [] (replicate n 0)
opened n l = once.empty_tree (replicate n 0) (length-replicate {A = ℕ} n 0 ∙ l) (zero-bytes n) (get_or-replicate {A = ℕ} n 0 0 0 (omega arith))

module _ (s : List ℕ) (h : whole_b s ≡ true) where
  pub is_tree : IsTree s
  is_tree = (known s h).tree

  module _ (e : ℕ) where
    -- there is room for a pair of an entry that is not registered, and an order that it joins
    pub room : e < 128 → has_entry e (read s) ≡ false → (size s < 128) × (in_order 0 (read s) ≡ true)
    room l n =
        let c = conditions (read s) (known s h).valid in
        (omega (arith, read_length s, once.room 511 (read s) c.range c.once e l n), once.rising-order 0 (read s) c.rises)

    -- the entry's pair stands at the place i
    pub removed : (i : ℕ) → position (is_entry e) (read s) ≡ Some i → removed_at i (read s) ≡ without e (read s)
    removed i q = removed-is s e i q ((conditions (read s) (known s h).valid).once e)

-- what whole bytes are, and what a call makes of them
pub ruleset parts = (is_tree, room, removed, place_in, any-position)
