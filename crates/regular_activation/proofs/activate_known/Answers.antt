use Rattle.std.proofs.Common.{rules}
use Rattle.regular_activation.proofs.Taking.{room-then, few-then, order-a-then, order-i-then, activated}
use Rattle.regular_activation.proofs.activate_known.Goals as goal

pub change_trees-requires : goal.change_trees-requires
change_trees-requires c =
    let s = c.args.s.now in
    let w = c.requires.0 in
    let t = c.note_known in (
      (t.ensures.parts.long, few-then s (search rules) w t.new.s t.new.slots t.new.gone t.ensures),
      (
        room-then s (search rules) w t.new.s t.new.slots t.new.gone t.ensures,
        (order-a-then s (search rules) w t.new.s t.new.slots t.new.gone t.ensures, order-i-then s (search rules) w t.new.s t.new.slots t.new.gone t.ensures),
      ),
    )

pub returns : goal.returns
returns c =
    let t = c.note_known in
    activated c.args.s.now (search rules) c.requires.0 t.new.s t.new.slots t.new.gone t.ensures c.change_trees.new.s c.change_trees.ensures
