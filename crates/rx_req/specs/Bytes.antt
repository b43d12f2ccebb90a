-- The request registry's 385 bytes are one entry tree, with the service in the place of the subject.
use Rattle.std.specs.Prelude.{ℕ, List, Bool, ◌&&◌, eqb, leb, length}
use Rattle.state.specs.Lengths.{requests_length}
use Rattle.entry_tree.specs.Places as tree
use Rattle.rx_req.specs.Registry as registry

unfoldable pub whole_b : List ℕ → Bool
whole_b b = eqb (length b) requests_length && (leb (tree.size b) 128 && registry.whole_b (tree.read b))
