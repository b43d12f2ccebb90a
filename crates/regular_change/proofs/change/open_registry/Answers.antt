use Rattle.std.proofs.Common.{◌∙◌, ap, ℕ, List, set, replicate}
use borrow.Rule.Slice.PartMut.{put_mid}
use Rattle.multi_cycle_list.specs.Lists.{empty}
use Rattle.multi_cycle_list.specs.Laid as lists_laid
use Rattle.regular_change.specs.Inner.{with_slots}
use Rattle.regular_change.proofs.Acts.{opened}
use Rattle.regular_change.proofs.change.open_registry.Goals as goal

pub returns : goal.returns
returns c =
    let n = c.args.n in
    ap (λ (s : List ℕ). set s 1035 255) c.set_slots.ensures
    ∙ ap (λ (q : List ℕ). set (with_slots (put_mid 770 262 c.fill.new.s q) n) 1035 255) c.inner_open.ensures
    ∙ ap (λ (r : List ℕ). set (with_slots (put_mid 770 262 r (lists_laid.laid (empty 2 128))) n) 1035 255) (c.fill.ensures ∙ ap (λ (k : ℕ). replicate k 0) c.requires)
    ∙ opened n
