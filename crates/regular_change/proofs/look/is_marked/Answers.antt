use Rattle.std.proofs.Common.{◌∙◌, ap, arith}
use lib.Dec.{ltb}
use Rattle.regular_change.proofs.Looks.{known, active_in_range, active-linked}
use Rattle.regular_change.proofs.look.is_marked.Goals as goal

pub inner_is_linked-requires : goal.inner_is_linked-requires
inner_is_linked-requires c =
    let s = c.args.s.now in
    let k = known s c.requires.0 in
    (k.queue-whole, omega (arith, k.entries, c.from.ensures, active_in_range s c.requires.0 c.args.entry c.requires.1))

pub returns : goal.returns
returns c = (rw c.from.ensures at c.inner_is_linked.ensures) ∙ ap (ltb 0) (active-linked c.args.s.now c.requires.0 c.args.entry c.requires.1)
