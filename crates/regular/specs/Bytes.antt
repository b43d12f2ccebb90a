-- The regular registry's 1,036 bytes:
--   0      the active entry tree      385    the inactive entry tree
--   770    a list queue of 2 classes, clean-up and activation, and 128 entries
--   1032   the slot counter, low byte first
--   1034   the last-gap flag: 0, or any other byte if it is set
--   1035   the walk: the entry that it points at, or any byte from 128 on if none
use Rattle.std.specs.Prelude.{ℕ, ◌+◌, ◌*◌, ◌/◌, ◌%◌, List, [], ◌∷◌, ◌++◌, Bool, true, false, cond, not, ◌&&◌, eqb, leb, length, get_or, take, drop}
use Rattle.state.specs.Lengths.{regular_length}
use Rattle.multi_cycle_list.specs.Lists.{Lists}
use Rattle.multi_cycle_list.specs.Nodes as nodes
use Rattle.multi_cycle_list.specs.Laid as lists
use Rattle.entry_tree.specs.Places as tree
use Rattle.entry_tree.specs.Walks.{walk_of, walk_over}
use Rattle.regular.specs.Registry as registry
use Rattle.regular.specs.Registry.{Registry}

abbrev pub active_part : List ℕ → List ℕ
active_part b = take 385 (drop 0 b)

abbrev pub inactive_part : List ℕ → List ℕ
inactive_part b = take 385 (drop 385 b)

abbrev pub queue_part : List ℕ → List ℕ
queue_part b = take 262 (drop 770 b)

abbrev pub slots_of : List ℕ → ℕ
slots_of b = get_or b 1032 0 + 256 * get_or b 1033 0

abbrev pub read : List ℕ → Registry
read b = record {
  inactive = tree.read (inactive_part b);
  active = tree.read (active_part b);
  activation = nodes.list_of (queue_part b) 1;
  clean_up = nodes.list_of (queue_part b) 0;
  last_gap = not (eqb (get_or b 1034 0) 0);
  slots = slots_of b;
  walk = walk_of (get_or b 1035 0);
}

-- ---- whole: the length, the parts' sizes, the queue, and what the bytes mean

unfoldable pub sizes_b : List ℕ → Bool
sizes_b b = leb (tree.size (active_part b)) 128 && (leb (tree.size (inactive_part b)) 128 && (eqb (nodes.classes (queue_part b)) 2 && eqb (nodes.entries (queue_part b)) 128))

unfoldable pub whole_b : List ℕ → Bool
whole_b b = eqb (length b) regular_length && (sizes_b b && (nodes.whole_b (queue_part b) && registry.whole_b (read b)))

-- ---- the bytes of a meaning, over the old ones

-- a flag over the old byte: one that says the same stays
abbrev pub flag_over : Bool → ℕ → ℕ
flag_over false v = 0
flag_over true v = cond (eqb v 0) 1 v

abbrev pub queue_of : Registry → Lists
queue_of m = record { entries = 128; rows = m.clean_up ∷ (m.activation ∷ []) }

unfoldable pub laid : Registry → List ℕ → List ℕ
laid m b =
    tree.laid m.active (active_part b)
    ++ (tree.laid m.inactive (inactive_part b)
    ++ (lists.laid (queue_of m)
    ++ (m.slots % 256 ∷ (m.slots / 256 ∷ (flag_over m.last_gap (get_or b 1034 0) ∷ (walk_over m.walk (get_or b 1035 0) ∷ []))))))
