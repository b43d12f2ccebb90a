use Rattle.std.proofs.Common.{◌∙◌, sym, rules}
use Rattle.entry_tree.specs.Pairs.{is_entry}
use Rattle.entry_tree.proofs.Lists.{placed}
use Rattle.entry_tree.proofs.Finding.{place_in}
use Rattle.entry_tree.proofs.Reading.{bytes_of}
use Rattle.regular.specs.Bytes.{active_part, read}
use Rattle.regular_change.proofs.Looks.{known}
use Rattle.rx_msg.proofs.Walking.{next_nowhere, pointed-there, next-pushed}
use Rattle.rx_msg.proofs.regular_inner.hub_push_next.Goals as goal

pub returns-in_default : goal.returns-in_default
returns-in_default c = next_nowhere c.args.s.now (bytes_of c.args.s.now (search rules)) (sym c.whole.ensures ∙ c.if-not-whole.false) (sym c.walk_of.ensures ∙ c.in_default.is)

pub unwrap-i-requires : goal.unwrap-i-requires
unwrap-i-requires c =
    let s = c.args.s.now in
    let there = pointed-there s (bytes_of s (search rules)) (sym c.whole.ensures ∙ c.if-not-whole.false) c.in-Some.entry (sym c.walk_of.ensures ∙ c.in-Some.is) in
    placed (is_entry c.in-Some.entry) (read s).active c.position.result c.position.ensures there

pub next_on-walk-requires : goal.next_on-walk-requires
next_on-walk-requires c =
    let s = c.args.s.now in
    ((known s (sym c.whole.ensures ∙ c.if-not-whole.false)).active, place_in (active_part s) (is_entry c.in-Some.entry) c.unwrap-i.result (sym c.position.ensures ∙ c.unwrap-i.ensures))

pub returns : goal.returns
returns c =
    let h = sym c.whole.ensures ∙ c.if-not-whole.false in
    next-pushed c.args.s.now (bytes_of c.args.s.now (search rules)) h c.in-Some.entry (sym c.walk_of.ensures ∙ c.in-Some.is) _ (sym c.position.ensures ∙ c.unwrap-i.ensures)
    _ c.next_on-walk.ensures _ c.is_some.ensures _ c.set_walk.ensures
