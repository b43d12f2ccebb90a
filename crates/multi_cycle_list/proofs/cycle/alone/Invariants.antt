use Rattle.std.proofs.Common.{◌≡◌}
use Rattle.multi_cycle_list.specs.Inner.{alone_to}
use Rattle.multi_cycle_list.proofs.cycle.alone.Given as goal

abbrev pub invariant-loop-node : goal.invariant-loop-node
invariant-loop-node l = l.s ≡ alone_to l.initial.s l.node
