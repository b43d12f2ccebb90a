use Rattle.std.proofs.Common.{rules, arith, [], ◌∷◌, ap, length, length-append}
use Rattle.calls_line.proofs.WalkLaws.{names_full, names_stop, names_more, names_last, walked_more}
use Rattle.calls_line.proofs.printing.put_names.Goals as goal

pub returns-in_default-clause-text : goal.returns-in_default-clause-text
returns-in_default-clause-text c = names_stop _ _ _ _ c.loop.invariant.0 (omega arith) _ c.hub_push_next.ensures.0 (search rules)

pub returns-in_default-2-clause-text : goal.returns-in_default-2-clause-text
returns-in_default-2-clause-text c = names_stop _ _ _ _ c.loop.invariant.0 (omega arith) _ c.hub_push_next.ensures.0 (search rules)

pub returns-then-not-pushed-clause-text : goal.returns-then-not-pushed-clause-text
returns-then-not-pushed-clause-text c =
    let text = rw (c.push.ensures.ascii (omega arith)) at c.put_number.ensures.text in
    names_last _ _ _ _ c.loop.invariant.0 (omega arith) _ c.hub_push_next.ensures.0 c.in-Ok-Some.pushed (search rules) _ text (search rules)

pub loop-preserved : goal.loop-preserved
loop-preserved c =
    let blank = c.push.ensures.ascii (omega arith) in
    let text = rw blank at c.put_number.ensures.text in
    let next = c.hub_push_next.ensures in (
      names_more _ _ _ _ c.loop.invariant.0 (omega arith) _ next.0 c.in-Ok-Some.pushed (search rules) _ text (search rules) _ next.1,
      grind (arith, walked_more),
      omega (arith, ap length blank, length-append c.loop.out.bytes (32 ∷ []), c.loop.invariant.2, c.put_number.ensures.short),
    )

pub returns-clause-text : goal.returns-clause-text
returns-clause-text c = names_full _ _ _ _ c.loop.invariant.0 (omega arith)
