use mathlib.Core.Path.{◌∙◌}
use Rattle.emcyphal_core.proofs.Laws.{number_below, not_of, ahead}
use Rattle.emcyphal_core.proofs.PrioritySet.new_lt.Goals as goal

pub returns : goal.returns
returns c = not_of _ c.new_ge.ensures c.complement.ensures ∙ ahead _ (number_below c.args.priority)
