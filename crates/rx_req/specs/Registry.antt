-- The request registry in plain words: a map from service to entry, as pairs of entry and service by rising service; and when it is whole.
use Rattle.std.specs.Prelude.{List, [], Bool, ◌&&◌}
use Rattle.state.specs.Seq.{all_b}
use Rattle.entry_tree.specs.Pairs.{Pair, rising, in_range, once_b}

abbrev pub Registry : Type 0
Registry = List Pair

abbrev pub fresh : Registry
fresh = []

-- document 01's *whole*: entries 0 to 127, each once, on services 0 to 511, ordered by service, no two sharing one
unfoldable pub whole_b : Registry → Bool
whole_b m = in_range 511 m && (all_b 128 (once_b m) && rising 0 m)
