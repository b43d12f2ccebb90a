use Rattle.std.proofs.Common.{arith}
use Rattle.multi_cycle_list.proofs.WholeTools.{whole-sizes}
use Rattle.multi_cycle_list.proofs.Sound.{whole_around}
use Rattle.multi_cycle_list.proofs.inner.node.Goals as goal

pub returns : goal.returns
returns c = let z = whole-sizes c.args.s.now c.requires.0 in (omega arith, whole_around c.args.s.now c.requires.0 _ (omega arith))
