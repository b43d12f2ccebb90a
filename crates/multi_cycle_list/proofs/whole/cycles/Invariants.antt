use Rattle.std.proofs.Common.{◌≡◌, ℕ, ◌<◌, true}
use Rattle.multi_cycle_list.specs.Inner.{marks_of, meets_at}
use Rattle.multi_cycle_list.proofs.whole.cycles.Given as goal

abbrev pub invariant-loop-class : goal.invariant-loop-class
invariant-loop-class l = record { met : (j : ℕ) → j < l.class → meets_at l.s j ≡ true; seen : l.seen ≡ marks_of l.s l.class }
