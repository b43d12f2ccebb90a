use borrow.Author.Rules.{rules}
use borrow.Author.Tests.{tests}
use mathlib.Core.Path.{sym, ap, ◌∙◌}
use lib.Dec.{leb}
use lib.ListN.{length}
use Rattle.std.proofs.lemmas.List.{length-map}
use Rattle.std.proofs.lemmas.List.Sorted.{IsPartitionPoint-from_clause}
use Rattle.entry_tree.specs.Inner.{pair_of}
use Rattle.entry_tree.proofs.Reading.{read_length}
use Rattle.entry_tree.proofs.Moves.{parted, bound-at}
use Rattle.entry_tree.proofs.upper_bound.Goals as goal

pub returns : goal.returns
returns c =
    let t = c.args.t.now in
    let x = c.args.subject in
    let places = c.pairs.result.now in
    let long = sym (length-map places pair_of) ∙ ap length (sym c.pairs.ensures) ∙ read_length t in
    bound-at t x places c.pairs.ensures long c.partition_point.result c.partition_point.ensures.bound
    (IsPartitionPoint-from_clause (λ b. leb (pair_of b).subject x) places c.partition_point.result c.partition_point.ensures.partitioned (parted t x places c.pairs.ensures long c.requires.1) (λ a r k q. search (rules, tests)))
