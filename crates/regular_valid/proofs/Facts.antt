-- The facts of a whole registry, and that they are what the test of wholeness tells.
use Prim.Native.Nat.{ℕ, suc, ◌+◌, ◌-◌, ◌≤◌, ◌<◌}
use mathlib.Core.Path.{◌≡◌, refl, sym, ◌∙◌}
use mathlib.Core.Bool.{Bool, true, false, not, ◌||◌}
use Rattle.std.specs.Prelude.{Option, None, Some}
use mathlib.Core.List.{List, [], ◌∷◌, ◌++◌}
use native.Mathlib.Omega.{arith}
use lib.Dec.{leb, ltb}
use lib.ListN.{length, length-append}
use borrow.Author.Tests.{leb-true, ltb-true, le-leb, lt-ltb}
use Rattle.state.proofs.Tests.{and_l, and_r, not-both}
use Rattle.multi_cycle_list.specs.Lists as lists
use Rattle.entry_tree.specs.Pairs.{Pair, count, is_entry, on_subject, past, in_order, in_range}
use Rattle.entry_tree.proofs.Changes.{order-parts, range-parts, range_cons}
use Rattle.entry_tree.specs.Walks.{walk_b}
use Rattle.regular.specs.Registry.{Registry, queued, marks_b, whole_b}
use Rattle.regular.proofs.Testing.{conditions, of_conditions}
use Rattle.entry_tree.proofs.Passing.{range_inside}
use Rattle.entry_tree.proofs.Count.{same, diff, below, above, compare_eq, compare_le, any-true, true-any, count-self, count-subject, count-append, few-entries}

-- Pairs in subject order, each marked one's subject above `from`, the first subject past the pair before: `marks` says how often an entry is marked.
pub data Ordered (marks : ℕ → ℕ) : ℕ → List Pair → Type 0 where
  onil : {from : ℕ} → Ordered marks from []
  ocons : {from : ℕ} {p : Pair} {l : List Pair} → from ≤ suc p.subject → (0 < marks p.entry → from < p.subject) → Ordered marks (suc p.subject) l → Ordered marks from (p ∷ l)

pub record Facts (m : Registry) : Type 0 where
  -- no entry is registered twice
  pub once : (e : ℕ) → count (is_entry e) m.inactive + count (is_entry e) m.active ≤ 1
  -- both queues
  pub waits : (e : ℕ) → lists.count e m.activation ≡ count (is_entry e) m.inactive
  pub marked : (e : ℕ) → lists.count e m.clean_up ≤ count (is_entry e) m.active
  -- entries 0 to 127, subjects 0 to 8,191
  pub entries : (e : ℕ) → 0 < count (is_entry e) m.inactive + count (is_entry e) m.active → e ≤ 127
  pub inactive-subjects : (x : ℕ) → 0 < count (on_subject x) m.inactive → x ≤ 8191
  pub active-subjects : (x : ℕ) → 0 < count (on_subject x) m.active → x ≤ 8191
  -- the order, and the marks
  pub inactive-order : Ordered (λ e. 0) 0 m.inactive
  pub active-order : Ordered (λ e. lists.count e m.clean_up) 0 m.active
  pub last-gap : m.last_gap ≡ true → past 0 m.active ≤ 8191
  pub walks : (e : ℕ) → m.walk ≡ Some e → 0 < count (is_entry e) m.active

-- the queues hold no number past 127: on bytes the queue's own wholeness says so
pub record Inside (m : Registry) : Type 0 where
  pub activation : (e : ℕ) → 128 ≤ e → lists.count e m.activation ≡ 0
  pub clean_up : (e : ℕ) → 128 ≤ e → lists.count e m.clean_up ≡ 0

-- ---- ranges

range-subject : (l : List Pair) → in_range 8191 l ≡ true → (x : ℕ) → 0 < count (on_subject x) l → x ≤ 8191
range-subject [] h x k = absurd (omega (arith, k))
range-subject (p ∷ l) h x k =
    let r = range-parts 8191 p l h in
    elim (compare_eq x p.subject) [ same q t ↦ omega (arith, r) | diff n t ↦ range-subject l r.2 x (omega (arith, rw t at k)) ]

range_of : (l : List Pair) → ((e : ℕ) → 0 < count (is_entry e) l → e ≤ 127) → ((x : ℕ) → 0 < count (on_subject x) l → x ≤ 8191) → in_range 8191 l ≡ true
range_of [] f g = refl
range_of (p ∷ l) f g =
    range_cons 8191 p l (f p.entry (count-self p l)) (g p.subject (count-subject p l)) (range_of l (λ e k. f e (omega arith)) (λ x k. g x (omega arith)))

-- ---- order and marks

mark_of : (b : Bool) (from x : ℕ) → (not b || ltb from x) ≡ true → b ≡ true → from < x
mark_of true from x h q = ltb-true from x h
mark_of false from x h q = not-both (sym q)

of_mark : (b : Bool) (from x : ℕ) → (b ≡ true → from < x) → (not b || ltb from x) ≡ true
of_mark true from x h = lt-ltb from x (h refl)
of_mark false from x h = refl

ordered_of : (marks : List ℕ) (x from : ℕ) (l : List Pair) → from ≤ suc x → in_order x l ≡ true → marks_b marks from l ≡ true → Ordered (λ e. lists.count e marks) from l
ordered_of marks x from [] b h k = onil
ordered_of marks x from (p ∷ l) b h k =
    let o = order-parts x p l h in
    let t : (not (queued p.entry marks) || ltb from p.subject) ≡ true = and_l (not (queued p.entry marks) || ltb from p.subject) (marks_b marks (suc p.subject) l) k in
    ocons {from = from} {p = p} (omega (arith, o.0)) (λ n. mark_of (queued p.entry marks) from p.subject t (lt-ltb 0 (lists.count p.entry marks) n))
    (ordered_of marks p.subject (suc p.subject) l (omega arith) o.1 (and_r (not (queued p.entry marks) || ltb from p.subject) (marks_b marks (suc p.subject) l) k))

in_order_lem : {marks : ℕ → ℕ} {from : ℕ} {l : List Pair} (x : ℕ) → x ≤ from - 1 → Ordered marks from l → in_order x l ≡ true
in_order_lem x b onil = refl
in_order_lem x b (ocons {p = p} i k o) = rw (le-leb x p.subject (omega arith), in_order_lem p.subject (omega arith) o)

marks-of : (marks : List ℕ) {from : ℕ} {l : List Pair} → Ordered (λ e. lists.count e marks) from l → marks_b marks from l ≡ true
marks-of marks onil = refl
marks-of marks (ocons {from = from} {p = p} i k o) = rw (of_mark (queued p.entry marks) from p.subject (λ q. k (ltb-true 0 (lists.count p.entry marks) q)), marks-of marks o)

-- no marks at all
bare : {marks : ℕ → ℕ} {from : ℕ} {l : List Pair} → Ordered marks from l → Ordered (λ e. 0) from l
bare onil = onil
bare (ocons {from = from} {p = p} i k o) = ocons {from = from} {p = p} i (λ n. absurd (omega (arith, n))) (bare o)

no-marks : (from : ℕ) (l : List Pair) → marks_b [] from l ≡ true
unfolding lists.count
no-marks from [] = refl
no-marks from (p ∷ l) = no-marks (suc p.subject) l

-- ---- the walk

walk_at : (l : List Pair) (w : Option ℕ) → walk_b l w ≡ true → (e : ℕ) → w ≡ Some e → 0 < count (is_entry e) l
walk_at l None h e q = absurd (let z : ◌≡◌ {A = ℕ} 0 1 = cc in omega arith)
walk_at l (Some v) h e q = let r : v ≡ e = cc in rw (← r) (any-true (is_entry v) l h)

at-walk : (l : List Pair) (w : Option ℕ) → ((e : ℕ) → w ≡ Some e → 0 < count (is_entry e) l) → walk_b l w ≡ true
at-walk l None h = refl
at-walk l (Some v) h = true-any (is_entry v) l (h v refl)

-- ---- the test and the facts

gap_of : (b : Bool) (x : ℕ) → (not b || leb x 8191) ≡ true → b ≡ true → x ≤ 8191
gap_of true x h q = leb-true x 8191 h
gap_of false x h q = not-both (sym q)

of_gap : (b : Bool) (x : ℕ) → (b ≡ true → x ≤ 8191) → (not b || leb x 8191) ≡ true
of_gap true x h = le-leb x 8191 (h refl)
of_gap false x h = refl

module _ (m : Registry) where
  none-past : (l : List Pair) → in_range 8191 l ≡ true → (e : ℕ) → 127 < e → count (is_entry e) l ≡ 0
  none-past l r e h = elim (compare_le 1 (count (is_entry e) l)) [ below i t ↦ absurd (omega (arith, range_inside 8191 l r e i)) | above i t ↦ omega arith ]

  pub facts_of : whole_b m ≡ true → Inside m → Facts m
  facts_of h k =
      let c = conditions m h in
      record {
        once = λ e. elim (compare_le e 127) [
          | below i t ↦ c.once e (omega arith)
          | above i t ↦ omega (arith, none-past m.inactive c.range-i e i, none-past m.active c.range-a e i)
        ];
        waits = λ e. elim (compare_le e 127) [
          | below i t ↦ c.waiting e (omega arith)
          | above i t ↦ k.activation e i ∙ sym (none-past m.inactive c.range-i e i)
        ];
        marked = λ e. elim (compare_le e 127) [
          | below i t ↦ c.marked e (omega arith)
          | above i t ↦ omega (arith, k.clean_up e i)
        ];
        entries = λ e i. elim (compare_le e 127) [
          | below j t ↦ j
          | above j t ↦ absurd (omega (arith, none-past m.inactive c.range-i e j, none-past m.active c.range-a e j))
        ];
        inactive-subjects = range-subject m.inactive c.range-i;
        active-subjects = range-subject m.active c.range-a;
        inactive-order = bare (ordered_of [] 0 0 m.inactive (omega arith) c.order-i (no-marks 0 m.inactive));
        active-order = ordered_of m.clean_up 0 0 m.active (omega arith) c.order-a c.marks;
        last-gap = gap_of m.last_gap (past 0 m.active) c.last;
        walks = walk_at m.active m.walk c.walk;
      }

  pub whole_of : Facts m → whole_b m ≡ true
  whole_of f = of_conditions m (record {
    range-i = range_of m.inactive (λ e i. f.entries e (omega arith)) f.inactive-subjects;
    range-a = range_of m.active (λ e i. f.entries e (omega arith)) f.active-subjects;
    once = λ e i. f.once e;
    waiting = λ e i. f.waits e;
    marked = λ e i. f.marked e;
    order-i = in_order_lem 0 (omega arith) f.inactive-order;
    order-a = in_order_lem 0 (omega arith) f.active-order;
    marks = marks-of m.clean_up f.active-order;
    last = of_gap m.last_gap (past 0 m.active) f.last-gap;
    walk = at-walk m.active m.walk f.walks;
  })

  pub inside_of : Facts m → Inside m
  inside_of f = record {
    activation = λ e i. elim (compare_le 1 (lists.count e m.activation)) [ below j t ↦ absurd (omega (arith, f.entries e (omega (arith, f.waits e)))) | above j t ↦ omega arith ];
    clean_up = λ e i. elim (compare_le 1 (lists.count e m.clean_up)) [ below j t ↦ absurd (omega (arith, f.entries e (omega (arith, f.marked e)))) | above j t ↦ omega arith ];
  }

  -- at most 128 entries are registered
  pub at_most : Facts m → length m.inactive + length m.active ≤ 128
  at_most f =
      rw (← length-append m.inactive m.active)
      (few-entries 128 (m.inactive ++ m.active) (λ e. rw (count-append (is_entry e) m.inactive m.active) (f.once e)) (λ e i. omega (arith, f.entries e (rw (count-append (is_entry e) m.inactive m.active) at i))))
