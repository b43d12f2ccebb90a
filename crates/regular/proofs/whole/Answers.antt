use Rattle.std.proofs.Common.{refl, sym, ◌∙◌, arith}
use Rattle.multi_cycle_list.specs.Inner.{unmarked}
use Rattle.regular.proofs.Grounds.{no_length, no-sizes, no-queue, ground_of, no-active, no-inactive, whole_last}
use Rattle.regular.proofs.whole.Goals as goal
use Rattle.regular.proofs.whole.Goals.{then-s-ne1036-via-then-s-ne1036, then-s-ne1036-via-else-s-ne1036+then-not-sizes, then-all_met, else-all_met}

pub returns-then-s-ne1036 : goal.returns-then-s-ne1036
returns-then-s-ne1036 c =
    let s = c.args.s.now in
    elim c.then-s-ne1036.branch [
      | then-s-ne1036-via-then-s-ne1036 w ↦ sym (no_length s w.if-s-ne1036.true)
      | then-s-ne1036-via-else-s-ne1036+then-not-sizes w ↦ sym (no-sizes s w.if-s-ne1036.false (sym w.sizes.ensures ∙ w.if-not-sizes.true))
    ]

pub whole_marked-requires : goal.whole_marked-requires
unfolding unmarked
whole_marked-requires c = refl

pub returns-then-not-whole_marked : goal.returns-then-not-whole_marked
returns-then-not-whole_marked c = sym (no-queue c.args.s.now c.if-s-ne1036.false (sym c.sizes.ensures ∙ c.if-not-sizes.false) (sym c.whole_marked.ensures.test ∙ c.if-not-whole_marked.true))

pub returns-then-not-pairs_ok : goal.returns-then-not-pairs_ok
returns-then-not-pairs_ok c =
    let s = c.args.s.now in
    let g = ground_of s _ _ c.if-s-ne1036.false (sym c.sizes.ensures ∙ c.if-not-sizes.false) c.whole_marked.ensures c.if-not-whole_marked.false c.whole_marked.array_long in
    sym (no-active s _ g (sym c.pairs_ok.ensures.test ∙ c.if-not-pairs_ok.true))

pub returns-then-not-pairs_ok-2 : goal.returns-then-not-pairs_ok-2
returns-then-not-pairs_ok-2 c =
    let s = c.args.s.now in
    let g = ground_of s _ _ c.if-s-ne1036.false (sym c.sizes.ensures ∙ c.if-not-sizes.false) c.whole_marked.ensures c.if-not-whole_marked.false c.whole_marked.array_long in
    sym (no-inactive s _ g _ (c.pairs_ok.ensures.marks c.if-not-pairs_ok.false) (sym c.pairs_ok-2.ensures.test ∙ c.if-not-pairs_ok-2.true))

pub returns-then-last_ok : goal.returns-then-last_ok
returns-then-last_ok c =
    let s = c.args.s.now in
    let g = ground_of s _ _ c.if-s-ne1036.false (sym c.sizes.ensures ∙ c.if-not-sizes.false) c.whole_marked.ensures c.if-not-whole_marked.false c.whole_marked.array_long in
    let test = whole_last s _ g (sym c.pairs_ok.ensures.test ∙ c.if-not-pairs_ok.false) _ (c.pairs_ok.ensures.marks c.if-not-pairs_ok.false)
    (sym c.pairs_ok-2.ensures.test ∙ c.if-not-pairs_ok-2.false) _ (c.pairs_ok-2.ensures.marks c.if-not-pairs_ok-2.false) in
    elim c.if-all_met.branch [ then-all_met w ↦ grind (arith, test) | else-all_met w ↦ cc ]

pub returns-else-last_ok : goal.returns-else-last_ok
returns-else-last_ok c =
    let s = c.args.s.now in
    let g = ground_of s _ _ c.if-s-ne1036.false (sym c.sizes.ensures ∙ c.if-not-sizes.false) c.whole_marked.ensures c.if-not-whole_marked.false c.whole_marked.array_long in
    let test = whole_last s _ g (sym c.pairs_ok.ensures.test ∙ c.if-not-pairs_ok.false) _ (c.pairs_ok.ensures.marks c.if-not-pairs_ok.false)
    (sym c.pairs_ok-2.ensures.test ∙ c.if-not-pairs_ok-2.false) _ (c.pairs_ok-2.ensures.marks c.if-not-pairs_ok-2.false) in
    elim c.if-all_met.branch [ then-all_met w ↦ grind (arith, test) | else-all_met w ↦ grind (arith, test) ]
