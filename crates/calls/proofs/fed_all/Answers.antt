use Rattle.std.proofs.Common.{refl, arith}
use Rattle.calls.proofs.ReaderLaws.{feeding_none, feeding_more, within, on_err, fed_end, prints_end, fed_kept, fed_full, prints_none, appends_none}
use Rattle.calls.proofs.fed_all.Goals as goal
use Rattle.calls.proofs.fed_all.Goals.{then-byte-eq10+in_ok-write_all, else-byte-eq10+then-not-is_full, else-byte-eq10+else-not-is_full}

pub loop-byte-init : goal.loop-byte-init
loop-byte-init g c = feeding_none _ _ _

pub returns-in_err-write_all-clause-stopped : goal.returns-in_err-write_all-clause-stopped
returns-in_err-write_all-clause-stopped g c =
    let e = fed_end _ _ _ c.if-byte-eq10.true c.deref.ensures.0 c.line_into.ensures.1 refl in
    on_err c.from_residual.result (within _ _ c.loop-byte.byte-index (omega arith) c.loop-byte.invariant.reads e)

pub loop-byte-preserved : goal.loop-byte-preserved
loop-byte-preserved g c = elim c.if-byte-eq10.branch [
  | then-byte-eq10+in_ok-write_all w ↦
      let h = w.if-byte-eq10.true in
      let e = fed_end _ _ _ h w.deref.ensures.0 w.line_into.ensures.1 w.clear.ensures in
      let t = prints_end _ _ _ h w.deref.ensures.0 w.line_into.ensures.0 w.deref-then-byte-eq10.ensures.0 w.as_bytes.ensures.value in
      rw (w.s-is, w.part-is, w.to-is) (feeding_more c.loop-byte.invariant (omega arith) e t w.in_ok-write_all.ensures.bytes)
  | else-byte-eq10+then-not-is_full w ↦
      let h = w.if-byte-eq10.false in
      let e = fed_kept c.loop-byte.s c.loop-byte.part.items _ h (grind arith) w.push.ensures.items in
      rw (w.s-is, w.part-is, w.to-is) (feeding_more c.loop-byte.invariant (omega arith) e (prints_none _ _ _ h) (appends_none _))
  | else-byte-eq10+else-not-is_full w ↦
      let h = w.if-byte-eq10.false in
      let e = fed_full c.loop-byte.s c.loop-byte.part.items _ h (grind arith) in
      rw (w.s-is, w.part-is, w.to-is) (feeding_more c.loop-byte.invariant (omega arith) e (prints_none _ _ _ h) (appends_none _))
]
