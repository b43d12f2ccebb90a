use Rattle.std.proofs.Common.{sym}
use Rattle.multi_cycle_list.proofs.WholeTools.{sizes_of}
use Rattle.multi_cycle_list.proofs.Sound.{whole_marked}
use Rattle.multi_cycle_list.proofs.whole.whole_marked.Goals as goal

pub cycles-requires : goal.cycles-requires
cycles-requires c = (sizes_of _ (sym c.if-not-sizes.ensures), c.requires)

pub returns-then-cycles : goal.returns-then-cycles
returns-then-cycles c = whole_marked _ _ _ (sym c.if-not-sizes.ensures) (sym c.if-cycles.ensures.0) (c.cycles.ensures.1 c.if-cycles.true) c.all_placed.ensures
