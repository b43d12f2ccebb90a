use Rattle.std.proofs.Common.{ℕ, Bool, ◌∙◌, refl, ap, arith, rules, tests}
use Rattle.std.proofs.lemmas.Iterator.{YieldsList-from_range}
use Rattle.std.proofs.lemmas.Iterator.Search.{all_from_yields_List}
use Rattle.state.specs.Seq.{all_b}
use Rattle.state.proofs.Seq.{all_over_range}
use Rattle.index_entries.specs.Bytes.{slot_at, slot_b}
use Rattle.index_whole.proofs.slots.Goals as goal

pub returns : goal.returns
returns c =
    let s = c.args.s.now in
    let n = c.from.result in
    let f : ℕ → Bool = λ i. slot_b s i (slot_at s i) in
    all_from_yields_List f _ _ _ c.all.ensures.ran (YieldsList-from_range 0 n n refl (omega arith)) (λ x b q k. search (rules, tests)) ∙ all_over_range n f
    ∙ ap (λ (n : ℕ). all_b n f) c.from.ensures
