use lib.ListN.{length}
use Rattle.multi_cycle_list.specs.Lists.{row}
use Rattle.multi_cycle_list.specs.Nodes as nodes
use Rattle.regular.specs.Bytes.{queue_part}
use Rattle.regular_activation.proofs.Taking.{Taking}
use Rattle.regular_activation.proofs.take_known.Given as goal

abbrev pub invariant-loop-front : goal.invariant-loop-front
invariant-loop-front l = Taking l.initial.s l.s l.slots l.gone l.front

abbrev pub decreases-loop-front : goal.decreases-loop-front
decreases-loop-front l = length (row (nodes.read (queue_part l.s)) 1)
