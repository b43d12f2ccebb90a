use Rattle.std.proofs.Common.{ℕ, ◌+◌, ◌∙◌, refl, ap, arith, rules, tests}
use Rattle.std.proofs.lemmas.Iterator.{YieldsList-from_range}
use Rattle.std.proofs.lemmas.Iterator.Search.{all_from_yields_List}
use Rattle.state.specs.Seq.{all_b}
use Rattle.state.proofs.Seq.{all_over_range}
use Rattle.index_entries.specs.Bytes.{key_b}
use Rattle.index_whole.proofs.keys.Goals as goal

pub returns : goal.returns
returns c =
    let s = c.args.s.now in
    let k = c.from-k.result + 1 in
    all_from_yields_List (key_b s) _ _ _ c.all.ensures.ran (YieldsList-from_range 0 k k refl (omega arith)) (λ x b q k. search (rules, tests)) ∙ all_over_range k (key_b s)
    ∙ ap (λ (n : ℕ). all_b (n + 1) (key_b s)) (c.from-k.ensures ∙ c.word.ensures)
