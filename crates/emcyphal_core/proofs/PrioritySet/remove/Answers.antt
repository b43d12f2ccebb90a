use native.Mathlib.Omega.{arith}
use mathlib.Core.Path.{◌∙◌}
use Rattle.emcyphal_core.proofs.Laws.{without_of}
use Rattle.emcyphal_core.proofs.PrioritySet.remove.Goals as goal

pub returns : goal.returns
returns c = rw (← c.self.view_is) (without_of _ _ (omega arith) (omega arith) c.new_eq.ensures (c.self-2.view_is ∙ c.complement.ensures))
