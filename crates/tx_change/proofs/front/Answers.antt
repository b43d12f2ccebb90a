use Rattle.std.proofs.Common.{◌∙◌, refl, rules}
use Rattle.tx_queue.proofs.Reading.{known}
use Rattle.tx_change.proofs.Looks.{front_is, same_entry}
use Rattle.tx_change.proofs.front.Goals as goal

pub unwrap-entry-requires : goal.unwrap-entry-requires
unwrap-entry-requires c =
    let named = front_is (search rules) c.requires c.number.ensures.same c.number.ensures.small c.from.ensures c.inner_front.ensures c.unwrap-front.ensures in
    rw (c.try_from.ensures, c.from-2.ensures, named.entry) refl

pub started-requires : goal.started-requires
started-requires c =
    let named = front_is (search rules) c.requires c.number.ensures.same c.number.ensures.small c.from.ensures c.inner_front.ensures c.unwrap-front.ensures in
    let same = same_entry named c.from-2.ensures c.try_from.ensures c.unwrap-entry.ensures in
    ((known c.args.s.now c.requires.0).long, rw same named.registered)

pub returns : goal.returns
returns c =
    let named = front_is (search rules) c.requires c.number.ensures.same c.number.ensures.small c.from.ensures c.inner_front.ensures c.unwrap-front.ensures in
    let same = same_entry named c.from-2.ensures c.try_from.ensures c.unwrap-entry.ensures in
    (refl, (same ∙ named.is, c.started.ensures))
