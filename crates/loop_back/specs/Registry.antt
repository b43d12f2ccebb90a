-- The loop-back registry in plain words, and when it is whole.
use Rattle.std.specs.Prelude.{ℕ, List, [], Bool, ◌&&◌, Option, None}
use Rattle.state.specs.Seq.{all_b}
use Rattle.entry_tree.specs.Pairs.{Pair, in_order, in_range, once_b}
use Rattle.entry_tree.specs.Walks.{walk_b}

pub record Registry : Type 0 where
  -- in subject order, equals in order of registering
  pub entries : List Pair
  -- the entry that the walk points at
  pub walk : Option ℕ

abbrev pub fresh : Registry
fresh = record { entries = []; walk = None }

-- document 01's *whole*: entries 0 to 127, each once, on subjects 0 to 8,191, ordered by subject; a walk points at a registered one
unfoldable pub whole_b : Registry → Bool
whole_b m = in_range 8191 m.entries && (all_b 128 (once_b m.entries) && (in_order 0 m.entries && walk_b m.entries m.walk))
