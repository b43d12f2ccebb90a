use Rattle.std.proofs.Common.{rules, sym, ◌∙◌}
use Rattle.tx_queue.specs.Steps.{settle}
use Rattle.tx_msg.proofs.Calls.{over-queue}
use Rattle.tx_msg.proofs.settle.Goals as goal

pub returns : goal.returns
returns c = over-queue c.args.s.now (sym c.whole.ensures ∙ c.if-not-whole.false) (search rules) (settle c.args.frame c.args.readiness) _ _ c.settle.auto.s c.settle.ensures
