use Rattle.std.proofs.Common.{◌∙◌, refl, arith, rules, tests}
use Rattle.std.proofs.lemmas.Iterator.{YieldsList-from_range}
use Rattle.std.proofs.lemmas.Iterator.Search.{all_from_yields_List}
use Rattle.state.proofs.Seq.{all_over_range}
use Rattle.regular.specs.Inner.{met_b}
use Rattle.regular.proofs.all_met.Goals as goal

pub returns : goal.returns
returns c =
    let f = met_b c.args.seen.now in
    all_from_yields_List f _ _ _ c.all.ensures.ran (YieldsList-from_range 0 128 128 refl (omega arith)) (λ x b q k. search (rules, tests)) ∙ all_over_range 128 f
