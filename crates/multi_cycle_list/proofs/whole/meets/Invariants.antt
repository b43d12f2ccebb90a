use Rattle.std.proofs.Common.{◌+◌, ◌*◌}
use Rattle.multi_cycle_list.specs.declared.link.Link.TheVariants.{Next}
use Rattle.multi_cycle_list.specs.Inner.{trail_at}
use Rattle.multi_cycle_list.proofs.Marks.{Left}
use Rattle.multi_cycle_list.proofs.whole.meets.Given as goal

abbrev pub invariant-loop : goal.invariant-loop
invariant-loop l = Left l.n l.classes l.s (l.class + 1) (trail_at l.s l.class l.initial.seen) (2 * l.counter) Next l.front l.back l.seen
