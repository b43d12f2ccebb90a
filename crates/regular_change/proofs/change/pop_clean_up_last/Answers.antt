use Rattle.std.proofs.Common.{arith, rules}
use Rattle.regular_change.proofs.Acts.{past-few, last_says, cleared-then}
use Rattle.regular_change.proofs.change.pop_clean_up_last.Goals as goal

pub overflow_cast-result : goal.overflow_cast-result
overflow_cast-result c = omega (arith, c.past_last-first.ensures, past-few c.args.s.now (search rules) c.requires.0 c.requires.1.1)

pub returns : goal.returns
returns c =
    let s = c.args.s.now in
    let q = c.requires.1 in
    (last_says s (search rules) c.requires.0 q.0 q.1 _ c.past_last-first.ensures, cleared-then s (search rules) c.requires.0 q.0 q.1)
