use Rattle.std.proofs.Common.{rules, ◌<◌}
use Rattle.tx_change.proofs.Acts.{became}
use Rattle.tx_change.proofs.becomes.Goals as goal

pub returns-clause-bytes : goal.returns-clause-bytes
returns-clause-bytes c =
    let small : c.args.entry < 128 = rw c.number.ensures.same at c.number.ensures.small in
    rw (c.set_sets.ensures, c.from.ensures, c.number.ensures.same, c.requeue.ensures, c.place-to.ensures)
    (became c.args.s.now (search rules) c.requires c.args.entry small c.args.from c.args.ready c.args.started)
