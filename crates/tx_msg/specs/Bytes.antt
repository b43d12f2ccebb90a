-- The 1,062 bytes of message transmission: 0 the entry tree of subjects, 385 the transmit queue.
use Rattle.std.specs.Prelude.{ℕ, List, ◌++◌, Bool, ◌&&◌, eqb, leb, length, take, drop}
use Rattle.state.specs.Lengths.{messages_length}
use Rattle.entry_tree.specs.Places as tree
use Rattle.tx_queue.specs.Bytes as queue
use Rattle.tx_msg.specs.Registry as registry
use Rattle.tx_msg.specs.Registry.{Registry}

abbrev pub tree_part : List ℕ → List ℕ
tree_part b = take 385 (drop 0 b)

abbrev pub queue_part : List ℕ → List ℕ
queue_part b = take 677 (drop 385 b)

abbrev pub read : List ℕ → Registry
read b = record { subjects = tree.read (tree_part b); queue = queue.read (queue_part b) }

unfoldable pub whole_b : List ℕ → Bool
whole_b b = eqb (length b) messages_length && (leb (tree.size (tree_part b)) 128 && (queue.whole_b (queue_part b) && registry.whole_b (read b)))

-- the bytes of a meaning, over the old ones
unfoldable pub laid : Registry → List ℕ → List ℕ
laid m b = tree.laid m.subjects (tree_part b) ++ queue.laid m.queue (queue_part b)
