use Rattle.std.proofs.Common.{rules, sym, ◌∙◌}
use Rattle.tx_queue.specs.Steps.{pick}
use Rattle.tx_msg.proofs.Calls.{over-queue}
use Rattle.tx_msg.proofs.pick.Goals as goal

pub returns : goal.returns
returns c = over-queue c.args.s.now (sym c.whole.ensures ∙ c.if-not-whole.false) (search rules) (pick c.args.mask c.args.mtu) _ _ c.pick.auto.s c.pick.ensures
