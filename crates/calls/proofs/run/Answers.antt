use Rattle.std.proofs.Common.{arith}
use lib.ListN.{take}
use Rattle.std.proofs.lemmas.Result.{on_ok_weaker}
use Rattle.calls.proofs.ReaderLaws.{reading_none, reading_more, reading_stop, answered}
use Rattle.calls.proofs.run.Goals as goal
use Rattle.calls.proofs.run.Goals.{else-loop-test, then-loop-test+in_ok-got+then-got-eq0}

pub loop-init : goal.loop-init
loop-init g c = rw c.new-part.ensures (reading_none _ _ _)

pub loop-preserved : goal.loop-preserved
loop-preserved g c =
    reading_more (take c.in_ok-got.got c.read.new.buf) c.loop.invariant (omega (arith, c.in_ok-got.ensures.bound))
    c.in_ok-got.ensures.bytes.0 c.in_ok-fed_all.ensures.taken c.in_ok-fed_all.ensures.printed

pub returns : goal.returns
returns g c = on_ok_weaker c.ended.result (elim c.loop-test.branch [
  | else-loop-test w ↦ rw w.input-is (λ e. answered c.loop.invariant (λ h. absurd (omega arith)) e)
  | then-loop-test+in_ok-got+then-got-eq0 w ↦
      let stop = reading_stop c.loop.invariant (rw w.if-got-eq0.true at w.in_ok-got.ensures.bytes.0) in
      rw w.input-is (λ e. answered stop (λ h. w.in_ok-got.ensures.bytes.1 w.if-got-eq0.true (omega arith)) e)
]) (rw c.deref.ensures.0 at c.ended.ensures)
