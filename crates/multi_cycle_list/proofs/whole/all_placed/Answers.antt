use Rattle.std.proofs.Common.{ℕ, Bool, ◌+◌, ◌∙◌, refl, ap, arith, rules, tests}
use Rattle.std.proofs.lemmas.Iterator.{YieldsList-from_range}
use Rattle.std.proofs.lemmas.Iterator.Search.{all_from_yields_List}
use Rattle.state.specs.Seq.{all_b}
use Rattle.state.proofs.Seq.{all_over_range}
use Rattle.multi_cycle_list.specs.Nodes.{classes}
use Rattle.multi_cycle_list.specs.Inner.{placed_by}
use Rattle.multi_cycle_list.proofs.whole.all_placed.Goals as goal

pub returns : goal.returns
returns c =
    let s = c.args.s.now in
    let f : ℕ → Bool = λ k. placed_by s c.args.seen.now (classes s + k) in
    all_from_yields_List f _ _ _ c.all.ensures.ran (YieldsList-from_range 0 c.from.result c.from.result refl (omega arith)) (λ x b q k. search (rules, tests)) ∙ all_over_range c.from.result f
    ∙ ap (λ (n : ℕ). all_b n f) c.from.ensures
