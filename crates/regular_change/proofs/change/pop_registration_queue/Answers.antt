use Rattle.std.proofs.Common.{◌∙◌, ◌≡◌, ◌<◌, ℕ, List, length, true, sym, subst, arith, rules}
use Rattle.entry_tree.specs.Pairs.{is_entry, in_order}
use Rattle.entry_tree.specs.Places as tree
use Rattle.entry_tree.proofs.Lists.{placed}
use Rattle.regular.specs.Bytes.{read}
use Rattle.regular_change.proofs.Looks.{known}
use Rattle.regular_change.proofs.Acts.{next-inactive, first_some, next_place, next-room, next-entry, next-whole, next-joins, next-says, next-then}
use Rattle.regular_change.proofs.change.pop_registration_queue.Goals as goal

pub unwrap-i-requires : goal.unwrap-i-requires
unwrap-i-requires c =
    let s = c.args.s.now in
    let front = first_some (read s).activation c.args.entry c.requires.1.1 in
    placed (is_entry c.args.entry) (read s).inactive c.position.result c.position.ensures (next-inactive s (search rules) c.requires.0 c.args.entry _ front)

pub subject_at-x-requires : goal.subject_at-x-requires
subject_at-x-requires c =
    let s = c.args.s.now in
    let tree = (known s c.requires.0).inactive in
    let front = first_some (read s).activation c.args.entry c.requires.1.1 in
    (tree.len, omega (arith, tree.few, next_place s (search rules) c.requires.0 c.args.entry c.unwrap-i.result _ front (sym c.position.ensures ∙ c.unwrap-i.ensures)))

pub remove-requires : goal.remove-requires
remove-requires c =
    let s = c.args.s.now in
    let front = first_some (read s).activation c.args.entry c.requires.1.1 in
    ((known s c.requires.0).inactive, next_place s (search rules) c.requires.0 c.args.entry c.unwrap-i.result _ front (sym c.position.ensures ∙ c.unwrap-i.ensures))

pub inner_remove-requires : goal.inner_remove-requires
inner_remove-requires c =
    let s = c.args.s.now in
    let front = first_some (read s).activation c.args.entry c.requires.1.1 in
    let at = sym c.position.ensures ∙ c.unwrap-i.ensures in
    let w = next-whole s (search rules) c.requires.0 c.args.entry c.unwrap-i.result _ front at c.remove.new.t c.remove.ensures in
    (w.whole, omega (arith, w.entries, c.from.ensures, next-entry s (search rules) c.requires.0 c.args.entry c.unwrap-i.result _ front at))

pub insert-requires : goal.insert-requires
insert-requires c =
    let s = c.args.s.now in
    let k = known s c.requires.0 in
    let front = first_some (read s).activation c.args.entry c.requires.1.1 in
    let at = sym c.position.ensures ∙ c.unwrap-i.ensures in
    let is = next-joins s (search rules) c.requires.0 c.args.entry c.unwrap-i.result _ front at c.requires.1.0.marks _ _ c.remove.ensures (rw c.from.ensures at c.inner_remove.ensures) in
    subst (λ (t : List ℕ). (length t ≡ 385) × ((tree.size t < 128) × (in_order 0 (tree.read t) ≡ true))) (sym is)
    (k.active.len, (next-room s (search rules) c.requires.0 c.args.entry c.unwrap-i.result _ front at, k.conditions.order-a))

pub returns-then-known : goal.returns-then-known
returns-then-known c =
    let s = c.args.s.now in
    let x = c.subject_at-x.ensures in
    let front = first_some (read s).activation c.args.entry c.requires.1.1 in
    let at = sym c.position.ensures ∙ c.unwrap-i.ensures in
    let says = next-says s (search rules) c.requires.0 c.args.entry c.unwrap-i.result _ front at c.requires.1.0 _ x _ c.on_active-known.ensures in (
      rw c.if-known.true at says,
      next-then s (search rules) c.requires.0 c.args.entry c.unwrap-i.result _ front at c.requires.1.0 _ x _ _ _ c.remove.ensures (rw c.from.ensures at c.inner_remove.ensures) c.insert.ensures,
    )

pub returns-else-known : goal.returns-else-known
returns-else-known c =
    let s = c.args.s.now in
    let x = c.subject_at-x.ensures in
    let front = first_some (read s).activation c.args.entry c.requires.1.1 in
    let at = sym c.position.ensures ∙ c.unwrap-i.ensures in
    let says = next-says s (search rules) c.requires.0 c.args.entry c.unwrap-i.result _ front at c.requires.1.0 _ x _ c.on_active-known.ensures in (
      rw c.if-known.false at says,
      next-then s (search rules) c.requires.0 c.args.entry c.unwrap-i.result _ front at c.requires.1.0 _ x _ _ _ c.remove.ensures (rw c.from.ensures at c.inner_remove.ensures) c.insert.ensures,
    )
