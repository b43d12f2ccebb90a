-- What the inner functions store and answer. No contract of a public call cites this.
use Rattle.std.specs.Prelude.{ℕ, ◌+◌, ◌*◌, ◌/◌, ◌%◌, List, ◌++◌, set, take, drop, Option, Some, None}
use Rattle.multi_cycle_list.specs.Lists.{Lists, without_entry, moved_front, moved_back}
use Rattle.multi_cycle_list.specs.Laid as lists
use Rattle.index_entries.specs.Keys.{Slot, free, holds, spent, Found, missing, at}
use Rattle.index_entries.specs.Bytes.{entries}
use Rattle.index_entries.specs.declared.change.Move.{Move}
use Rattle.index_entries.specs.declared.change.Move.TheVariants.{Front, Back, Out}
use Rattle.index_entries.specs.declared.look.Held.{Held}
use Rattle.index_entries.specs.declared.look.Held.TheVariants.{Value, Spent, Free}

abbrev pub set_word : List ℕ → ℕ → ℕ → List ℕ
set_word s a w = set (set s a (w % 256)) (a + 1) (w / 256)

abbrev pub set_long : List ℕ → ℕ → ℕ → List ℕ
set_long s a v = set_word (set_word s a (v % 65536)) (a + 2) (v / 65536)

-- the list queue replaced by that of l
unfoldable pub with_list : List ℕ → Lists → List ℕ
with_list s l = take 2 s ++ (lists.laid l ++ drop (6 + 2 * entries s) (drop 2 s))

-- an entry to the front of the queue, to its back, or out of it
abbrev pub moved : Move → ℕ → Lists → Lists
moved Front = moved_front 0
moved Back = moved_back 0
moved Out = without_entry

-- ---- answers, from the plain meaning

abbrev pub index_of : Found → Option ℕ
index_of missing = None
index_of (at i s) = Some i

-- what an entry holds, with its key
abbrev pub held_of : Slot → Held
held_of free = Free
held_of (holds k v) = Value k v
held_of (spent k) = Spent k
