-- The test of subjects as the code goes. No contract of a public call cites this.
use Rattle.std.specs.Prelude.{ℕ, List, Bool, cond, not, eqb}
use Rattle.entry_tree.specs.Testing.{mark_of}
use Rattle.tx_queue.specs.Bytes.{flag_at}

abbrev pub same_b : List ℕ → List ℕ → ℕ → Bool
same_b q seen e = cond (eqb (flag_at q e) 0) (not (eqb (mark_of seen e) 3)) (eqb (mark_of seen e) 3)
