use Rattle.std.proofs.Common.{rules, ◌≡◌, ◌<◌, true, false, arith, tests, ◌∙◌}
use Rattle.std.proofs.lemmas.Iterator.{serves_from_Range, first_from_Range}
use Rattle.multi_cycle_list.specs.Nodes.{classes}
use Rattle.tx_queue.specs.Bytes.{queue_part, read}
use Rattle.tx_queue.proofs.Reading.{sizes_of, queues-long}
use Rattle.tx_queue.proofs.Turns.{takes, first-is}
use Rattle.tx_queue.proofs.first_queue.Goals as goal

pub find-requires-clause-callable : goal.find-requires-clause-callable
find-requires-clause-callable c =
    let sizes : classes (queue_part c.args.s.now) ≡ 16 = (sizes_of c.args.s.now c.requires.1.0).classes in
    serves_from_Range (λ x q k. search rules) (λ x l h. let below : x < classes (queue_part c.args.s.now) = omega arith in search rules)

pub returns-clause-first : goal.returns-clause-first
returns-clause-first c =
    let m = read c.args.s.now in
    let mask = c.args.mask in
    let same : c.map.result ≡ c.find.result = search rules in
    same ∙ first-is mask m (queues-long c.args.s.now c.requires.1.0) c.find.result
    (first_from_Range _ _ _ c.find.result (λ k. takes mask m.queues k k ≡ true) (λ k. takes mask m.queues k k ≡ false) c.find.ensures.ran
    (λ x q k. search (rules, tests)) (λ x q k. search (rules, tests)))
