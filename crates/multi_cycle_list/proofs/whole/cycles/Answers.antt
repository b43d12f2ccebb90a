use Rattle.std.proofs.Common.{◌≡◌, List, ℕ, sym, ap, ◌∙◌, arith}
use Rattle.state.proofs.Seq.{all-false}
use Rattle.state.proofs.Tests.{not-both}
use Rattle.multi_cycle_list.specs.Nodes.{classes}
use Rattle.multi_cycle_list.specs.Inner.{trail_at, meets_at}
use Rattle.multi_cycle_list.proofs.whole.cycles.Goals as goal

pub returns-then-not-meets : goal.returns-then-not-meets
returns-then-not-meets c =
    let s = c.args.s.now in
    let l = c.loop-class in
    let e : meets_at s l.class ≡ _ = ap (λ (m : List ℕ). (trail_at s l.class m).met) (sym l.invariant.seen) ∙ sym c.if-not-meets.ensures.met in
    (sym (all-false (classes s) (meets_at s) l.class (omega arith) e), λ t. not-both (sym t))
