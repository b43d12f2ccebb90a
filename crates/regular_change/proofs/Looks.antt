-- What whole bytes tell of their parts: places, marks and gaps.
use Prim.Native.Nat.{ℕ, suc, ◌+◌, ◌-◌, ◌<◌, ◌≤◌}
use mathlib.Core.Path.{◌≡◌, refl, sym, ap, ◌∙◌}
use mathlib.Core.List.{List, [], ◌∷◌}
use mathlib.Core.Logic.{◌≢◌}
use mathlib.Core.Bool.{Bool, true, false, cond, not, ◌&&◌, ◌||◌, and-false}
use native.Mathlib.Omega.{arith}
use lib.Dec.{leb, ltb}
use lib.ListN.{length, drop}
use borrow.Author.Tests.{le-leb, lt-leb, eq-eqb, ne_eqb}
use Rattle.std.specs.Prelude.{Some, position}
use Rattle.multi_cycle_list.specs.Lists as lists
use Rattle.multi_cycle_list.specs.Lists.{first}
use Rattle.multi_cycle_list.specs.Nodes as nodes
use Rattle.entry_tree.specs.Pairs.{Pair, Place, is_entry, has_entry, place_of}
use Rattle.entry_tree.specs.Places as tree
use Rattle.entry_tree.specs.Places.{size, entry_at, subject_at, pair_at}
use Rattle.entry_tree.specs.Inner.{IsTree}
use Rattle.entry_tree.proofs.Reading.{read_at, read-place-subject, read-place-first, read-place-from}
use Rattle.entry_tree.proofs.Changes.{range_at}
use Rattle.entry_tree.proofs.Finding.{place-rest-at, drop_end, drop-next, entry_place, entry-counts}
use Rattle.regular.specs.Registry.{queued}
use Rattle.regular.specs.Steps.{new_mark}
use Rattle.regular.specs.Bytes.{active_part, inactive_part, queue_part, read, whole_b}
use Rattle.regular.proofs.Grounds.{sizes_of, active-tree, inactive-tree, two-counts}
use Rattle.regular.proofs.Parts as parts
use Rattle.regular.proofs.Testing.{Conditions, conditions}
use Rattle.entry_tree.proofs.Count.{same, diff, compare_eq, any-true, true-any}
use Rattle.regular_valid.proofs.Queue.{count-first}
use Rattle.regular_valid.proofs.Facts.{Facts}
use Rattle.regular_valid.proofs.Reading as reading
use Rattle.regular_change.specs.Inner.{from_at, gap_before, gap_of}
use Rattle.regular_change.specs.declared.look.Gap.{Gap}
use Rattle.regular_change.specs.declared.look.Gap.TheVariants.{Same, Withdrawn, Marked, Last}

-- ---- the first subject past the pair before a place

module _ (t : List ℕ) where
  pub from_first : (i : ℕ) → i ≡ 0 → 0 ≡ from_at t i
  from_first i q = rw (eq-eqb i 0 q) refl

  pub from_past : (i x : ℕ) → i ≢ 0 → x ≡ subject_at t (i - 1) → x + 1 ≡ from_at t i
  from_past i x q r = rw (ne_eqb i 0 q) (omega arith)

-- ---- the place of an entry, in the bytes

place-gap : (e : ℕ) (p : Place) (marks : List ℕ) (from x : ℕ) (l : List Pair) → p.from ≡ from → p.subject ≡ x → p.rest ≡ l → gap_of e p marks ≡ cond (leb from x) (gap_before e x l marks) Same
place-gap e p marks from x l a b c = rw (a, b, c) refl

module _ (t : List ℕ) (e i : ℕ) (q : position (is_entry e) (tree.read t) ≡ Some i) where
  pub place-from-at : (place_of e (tree.read t)).from ≡ from_at t i
  place-from-at = elim (compare_eq i 0) [
    | same z b ↦ rw b (read-place-first t e i q z)
    | diff z b ↦ rw b (read-place-from t e i q (omega arith))
  ]

  gap_is : (marks : List ℕ) → gap_of e (place_of e (tree.read t)) marks ≡ cond (leb (from_at t i) (subject_at t i)) (gap_before e (subject_at t i) (drop (suc i) (tree.read t)) marks) Same
  gap_is marks = place-gap e (place_of e (tree.read t)) marks (from_at t i) (subject_at t i) (drop (suc i) (tree.read t)) place-from-at (read-place-subject t e i q) (place-rest-at t e i q)

  module _ (marks : List ℕ) (x from : ℕ) (a : x ≡ subject_at t i) (b : from ≡ from_at t i) where
    pub gap_same : x < from → Same ≡ gap_of e (place_of e (tree.read t)) marks
    gap_same l = sym (gap_is marks ∙ rw (← b, ← a, lt-leb from x l) refl)

    pub gap-next : from ≤ x → (g : Gap) → g ≡ gap_before e (subject_at t i) (drop (suc i) (tree.read t)) marks → g ≡ gap_of e (place_of e (tree.read t)) marks
    gap-next l g r = r ∙ sym (gap_is marks ∙ rw (← b, ← a, le-leb from x l) refl)

    pub gap-last : from ≤ x → size t ≤ suc i → Last ≡ gap_of e (place_of e (tree.read t)) marks
    gap-last l k = gap-next l Last (sym (ap (λ (r : List Pair). gap_before e (subject_at t i) r marks) (drop_end t i k)))

-- ---- the gap before the next

not_new : (a b c : Bool) → c ≡ true → ((a || b) && not c) ≡ false
not_new a b c q = rw q (and-false (a || b))

module _ (t marks : List ℕ) (i j : ℕ) (z : j ≡ suc i) (h : j < size t) (e q : ℕ) (here : e ≡ entry_at t i) (next : q ≡ entry_at t j) where
  abbrev new : Bool → Gap
  new b = cond b (Marked (entry_at t j)) Withdrawn

  before-is : gap_before (entry_at t i) (subject_at t i) (drop (suc i) (tree.read t)) marks ≡ new (new_mark (entry_at t i) (subject_at t i) (pair_at t j) marks)
  before-is = ap (λ (l : List Pair). gap_before (entry_at t i) (subject_at t i) l marks) (drop-next t i j z h)

  queued-here : (b : Bool) → queued e marks ≡ b → queued (entry_at t i) marks ≡ b
  queued-here b r = ap (λ (k : ℕ). queued k marks) (sym here) ∙ r

  queued-next : (b : Bool) → queued q marks ≡ b → queued (entry_at t j) marks ≡ b
  queued-next b r = ap (λ (k : ℕ). queued k marks) (sym next) ∙ r

  pub next-marked : queued q marks ≡ true → Withdrawn ≡ gap_before (entry_at t i) (subject_at t i) (drop (suc i) (tree.read t)) marks
  next-marked r = sym (before-is ∙ ap new (not_new (queued (entry_at t i) marks) (ltb (subject_at t i) (subject_at t j)) (queued (entry_at t j) marks) (queued-next true r)))

  module _ (r : queued q marks ≡ false) where
    pub gap-before : (x y : ℕ) → x ≡ subject_at t i → y ≡ subject_at t j
        → gap_before (entry_at t i) (subject_at t i) (drop (suc i) (tree.read t)) marks ≡ cond (queued e marks || ltb x y) (Marked q) Withdrawn
    gap-before x y a b = before-is ∙ rw (queued-next false r, ← here, ← next, a, b) (by (queued e marks || ltb (subject_at t i) (subject_at t j)))
      where
        by : (c : Bool) → cond (c && true) (Marked q) Withdrawn ≡ cond c (Marked q) Withdrawn
        by true = refl
        by false = refl

-- ---- whole bytes

pub record Known (s : List ℕ) : Type 0 where
  pub long : length s ≡ 1036
  pub active : IsTree (active_part s)
  pub inactive : IsTree (inactive_part s)
  pub queue_long : length (queue_part s) ≡ 262
  pub queue-whole : nodes.whole_b (queue_part s) ≡ true
  pub classes : nodes.classes (queue_part s) ≡ 2
  pub entries : nodes.entries (queue_part s) ≡ 128
  pub conditions : Conditions (read s)
  pub facts : Facts (read s)

pub known : (s : List ℕ) → whole_b s ≡ true → Known s
known s w =
    let p = reading.parts s w in
    let z = sizes_of s p.sizes in
    let j = parts.split s p.bytes in
    record {
      long = p.bytes;
      active = active-tree s p.bytes p.sizes;
      inactive = inactive-tree s p.bytes p.sizes;
      queue_long = j.long-q;
      queue-whole = p.queue;
      classes = z.classes;
      entries = z.entries;
      conditions = conditions (read s) p.means;
      facts = reading.read-facts s w;
    }

front-counts : (e : ℕ) (q : List ℕ) → first q ≡ Some e → 0 < lists.count e q
front-counts e [] h = absurd (let z : ◌≡◌ {A = ℕ} 0 1 = cc in omega arith)
front-counts e (x ∷ q) h = let r : x ≡ e = cc in rw (← r) (omega (arith, count-first x q))

module _ (s : List ℕ) (w : whole_b s ≡ true) where
  -- the active entry at a place
  pub entry-at-place : (i : ℕ) → i < size (active_part s) → position (is_entry (entry_at (active_part s) i)) (read s).active ≡ Some i
  entry-at-place i h = entry_place (active_part s) i h (omega (arith, (known s w).facts.once (entry_at (active_part s) i)))

  pub entry-active : (i : ℕ) → i < size (active_part s) → has_entry (entry_at (active_part s) i) (read s).active ≡ true
  entry-active i h = true-any (is_entry (entry_at (active_part s) i)) (read s).active (entry-counts (active_part s) i h)

  pub subject_in_range : (i : ℕ) → i < size (active_part s) → subject_at (active_part s) i ≤ 8191
  subject_in_range i h = omega (arith, ap (λ (p : Pair). p.subject) (read_at (active_part s) i h), (range_at 8191 (read s).active (known s w).conditions.range-a i).1)

  -- an active entry, and an inactive one
  pub active_in_range : (e : ℕ) → has_entry e (read s).active ≡ true → e < 128
  active_in_range e h = omega (arith, (known s w).facts.entries e (omega (arith, any-true (is_entry e) (read s).active h)))

  -- an active entry stands in no queue but the clean-up queue
  pub active-linked : (e : ℕ) → has_entry e (read s).active ≡ true → lists.counts e (nodes.lists_of (queue_part s)) ≡ lists.count e (read s).clean_up
  active-linked e h =
      two-counts (queue_part s) e (known s w).classes
      ∙ omega (arith, any-true (is_entry e) (read s).active h, (known s w).facts.once e, (known s w).facts.waits e)

  -- the fronts of the queues
  pub front-active : (e : ℕ) → first (read s).clean_up ≡ Some e → has_entry e (read s).active ≡ true
  front-active e h = true-any (is_entry e) (read s).active (omega (arith, (known s w).facts.marked e, front-counts e (read s).clean_up h))

-- what whole bytes tell, for the tests of what is asked of their parts
module _ (s : List ℕ) (w : whole_b s ≡ true) where
  pub long : length s ≡ 1036
  long = (known s w).long

  pub active-is : IsTree (active_part s)
  active-is = (known s w).active

  pub inactive-is : IsTree (inactive_part s)
  inactive-is = (known s w).inactive

  pub queue-is : nodes.whole_b (queue_part s) ≡ true
  queue-is = (known s w).queue-whole

  pub classes-are : nodes.classes (queue_part s) ≡ 2
  classes-are = (known s w).classes

  pub entries-are : nodes.entries (queue_part s) ≡ 128
  entries-are = (known s w).entries

pub ruleset known_parts = (long, active-is, inactive-is, queue-is, classes-are, entries-are)
