use mathlib.Core.Path.{◌≡◌}
use Rattle.multi_cycle_list.specs.Laid.{laid}
use Rattle.index_entries.specs.Keys.{free_first}
use Rattle.index_entries.proofs.change.open_lists.Given as goal

abbrev pub invariant-loop-i : goal.invariant-loop-i
invariant-loop-i l = l.q ≡ laid (free_first l.n l.i)
