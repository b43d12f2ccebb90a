use Rattle.std.proofs.Common.{rules, sym, ◌∙◌}
use Rattle.tx_queue.specs.Steps.{update}
use Rattle.tx_msg.proofs.Calls.{over-queue}
use Rattle.tx_msg.proofs.update.Goals as goal

pub returns : goal.returns
returns c = over-queue c.args.s.now (sym c.whole.ensures ∙ c.if-not-whole.false) (search rules) (update c.args.entry c.args.readiness) _ _ c.update.auto.s c.update.ensures
