use native.Mathlib.Omega.{arith}
use Prim.Native.Nat.{ℕ}
use mathlib.Core.Path.{ap}
use lib.ListN.{get_or}
use Rattle.entry_merge.proofs.Writing.{keeping_yes, keeping_no}
use Rattle.entry_merge.proofs.keep.Goals as goal
use Rattle.entry_merge.proofs.keep.Goals.{then-gone-from-eq0, else-gone-from-eq0}

pub loop-i-preserved : goal.loop-i-preserved
loop-i-preserved c =
    let gone = c.args.gone.now in
    let h = c.loop-i.invariant in
    let mark = ap (λ (e : ℕ). get_or gone e 0) c.from.ensures in
    elim c.if-gone-from-eq0.branch [
      | then-gone-from-eq0 b ↦ rw (b.t-is, b.w-is)
          (keeping_yes gone c.args.t.now _ _ _ h _ c.entry_at-e.ensures (omega (arith, c.len-i-end.ensures.0)) c.requires _ mark b.if-gone-from-eq0.true _ b.subject_at-x.ensures _ b.write_place.ensures)
      | else-gone-from-eq0 b ↦ rw (b.t-is, b.w-is)
          (keeping_no gone c.args.t.now _ _ _ h _ c.entry_at-e.ensures (omega (arith, c.len-i-end.ensures.0)) _ mark (omega (arith, b.if-gone-from-eq0.false)))
    ]
