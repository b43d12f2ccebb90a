-- The loop-back registry's 389 bytes:
--   0      the entry tree
--   385    the walk: the entry that it points at, or any byte from 128 on if none
--   386    three bytes that say nothing
use Rattle.std.specs.Prelude.{ℕ, List, ◌∷◌, ◌++◌, Bool, ◌&&◌, eqb, leb, length, get_or, take, drop}
use Rattle.state.specs.Lengths.{loop_back_length}
use Rattle.entry_tree.specs.Places as tree
use Rattle.entry_tree.specs.Walks.{walk_of, walk_over}
use Rattle.loop_back.specs.Registry as registry
use Rattle.loop_back.specs.Registry.{Registry}

abbrev pub tree_part : List ℕ → List ℕ
tree_part b = take 385 (drop 0 b)

abbrev pub read : List ℕ → Registry
read b = record { entries = tree.read (tree_part b); walk = walk_of (get_or b 385 0) }

unfoldable pub whole_b : List ℕ → Bool
whole_b b = eqb (length b) loop_back_length && (leb (tree.size (tree_part b)) 128 && registry.whole_b (read b))

-- the bytes of a meaning, over the old ones
unfoldable pub laid : Registry → List ℕ → List ℕ
laid m b = tree.laid m.entries (tree_part b) ++ (walk_over m.walk (get_or b 385 0) ∷ drop 386 b)
