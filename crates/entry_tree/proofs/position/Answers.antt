use Rattle.std.proofs.Common.{◌∙◌, rules, tests}
use Rattle.std.proofs.lemmas.Iterator.{YieldsList-from_slice}
use Rattle.std.proofs.lemmas.Iterator.Search.{position_from_yields_List}
use Rattle.entry_tree.specs.Pairs.{is_entry}
use Rattle.entry_tree.specs.Inner.{pair_of}
use Rattle.entry_tree.proofs.Reading.{position-read}
use Rattle.entry_tree.proofs.position.Goals as goal

pub returns : goal.returns
returns c =
    position_from_yields_List (λ b. is_entry c.args.entry (pair_of b)) _ _ _ c.position.ensures.ran (YieldsList-from_slice c.pairs.result.now cc) (λ x b q k. search (rules, tests))
    ∙ position-read (is_entry c.args.entry) c.args.t.now c.pairs.result.now c.pairs.ensures
