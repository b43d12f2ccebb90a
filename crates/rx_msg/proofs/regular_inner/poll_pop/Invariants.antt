use lib.ListN.{length}
use Rattle.regular.specs.Bytes.{read}
use Rattle.rx_msg.proofs.Polling.{Polling}
use Rattle.rx_msg.proofs.regular_inner.poll_pop.Given as goal

abbrev pub invariant-loop-update : goal.invariant-loop-update
invariant-loop-update l = Polling l.initial.s l.s

abbrev pub decreases-loop-update : goal.decreases-loop-update
decreases-loop-update l = length (read l.s).activation
