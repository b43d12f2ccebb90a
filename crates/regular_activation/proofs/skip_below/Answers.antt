use Rattle.std.proofs.Common.{◌≤◌, ◌<◌, rules, tests}
use Rattle.std.proofs.lemmas.Iterator.{first_from_Range}
use Rattle.entry_tree.specs.Places.{subject_at}
use Rattle.regular_activation.proofs.skip_below.Goals as goal

pub returns : goal.returns
returns c =
    let t = c.args.t.now in
    rw (← c.len.ensures.0)
    (first_from_Range _ _ _ c.find.result (λ place. c.args.x ≤ subject_at t place) (λ place. subject_at t place < c.args.x) c.find.ensures.ran
    (λ x q k. search (rules, tests)) (λ x q k. search (rules, tests)))
