use mathlib.Core.Path.{◌∙◌}
use Rattle.emcyphal_core.proofs.Laws.{number_below, not_of, after}
use Rattle.emcyphal_core.proofs.PrioritySet.new_gt.Goals as goal

pub returns : goal.returns
returns c = not_of _ c.new_le.ensures c.complement.ensures ∙ after _ (number_below c.args.priority)
