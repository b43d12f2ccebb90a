use Rattle.std.proofs.Common.{refl, sym, ◌∙◌}
use Rattle.multi_cycle_list.specs.Inner.{unmarked}
use Rattle.index_whole.proofs.SizeLaws.{sized}
use Rattle.index_whole.proofs.whole.Goals as goal

pub lists-requires : goal.lists-requires
unfolding unmarked
lists-requires c = (sized _ (sym c.sizes.ensures ∙ c.if-not-sizes.false), refl)
