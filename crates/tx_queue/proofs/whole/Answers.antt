use Rattle.std.proofs.Common.{refl, sym, ◌∙◌, arith}
use Rattle.multi_cycle_list.specs.Inner.{unmarked}
use Rattle.tx_queue.proofs.Grounds.{whole_is}
use Rattle.tx_queue.proofs.whole.Goals as goal
use Rattle.tx_queue.proofs.whole.Goals.{then-whole_marked, else-whole_marked}

pub whole_marked-requires : goal.whole_marked-requires
unfolding unmarked
whole_marked-requires c = refl

pub returns-then-marks_ok : goal.returns-then-marks_ok
returns-then-marks_ok c =
    let test = whole_is c.args.s.now c.if-s-ne677.false (sym c.sizes.ensures ∙ c.if-not-sizes.false) _ _ c.whole_marked.ensures in
    elim c.if-whole_marked.branch [ then-whole_marked w ↦ grind (arith, test) | else-whole_marked w ↦ cc ]

pub returns-else-marks_ok : goal.returns-else-marks_ok
returns-else-marks_ok c =
    let test = whole_is c.args.s.now c.if-s-ne677.false (sym c.sizes.ensures ∙ c.if-not-sizes.false) _ _ c.whole_marked.ensures in
    elim c.if-whole_marked.branch [ then-whole_marked w ↦ grind (arith, test) | else-whole_marked w ↦ grind (arith, test) ]
