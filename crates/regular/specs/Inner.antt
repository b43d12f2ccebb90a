-- The test of wholeness as the code goes: the marks of the entries, as entry_tree's specs/Testing.antt has them. 0: in no queue.
-- 1: in the clean-up queue. 2: in the activation queue. 3 and 4: met in the active tree, in the inactive tree. No contract of a public call cites this.
use Rattle.std.specs.Prelude.{ℕ, List, Bool, ◌||◌, eqb, leb}
use Rattle.entry_tree.specs.Testing.{mark_of}

-- the entry e was met in a tree, or stands in no queue
abbrev pub met_b : List ℕ → ℕ → Bool
met_b seen e = eqb (mark_of seen e) 0 || leb 3 (mark_of seen e)
