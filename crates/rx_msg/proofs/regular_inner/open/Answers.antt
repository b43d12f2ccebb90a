use Rattle.std.proofs.Common.{◌∙◌, sym}
use Rattle.rx_msg.proofs.Calls.{opened}
use Rattle.rx_msg.proofs.regular_inner.open.Goals as goal

pub returns : goal.returns
returns c = opened c.args.s.now c.args.slots _ c.if-s-ne1036.false (sym c.up_to.ensures ∙ c.in_ok-slots.was) _ c.open_registry.ensures
