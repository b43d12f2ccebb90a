-- The code's tests come to *whole* as specs/Registry.antt has it.
use Prim.Native.Nat.{ℕ, suc, ◌+◌, ◌<◌, ◌≤◌}
use mathlib.Core.Path.{◌≡◌, refl, sym, ap, ◌∙◌}
use mathlib.Core.Logic.{◌⊎◌, inl, inr, ⊎_elim}
use mathlib.Core.List.{List, [], ◌∷◌}
use Rattle.std.specs.Prelude.{Option, None, Some}
use mathlib.Core.Bool.{Bool, true, not, ◌&&◌, ◌||◌}
use native.Mathlib.Omega.{arith}
use native.Mathlib.Decide.{ℕ_discrete}
use lib.Dec.{eqb, leb}
use lib.ListN.{length}
use borrow.Author.Tests.{ltb-true, leb-true, eqb-true, lt-ltb, le-leb, eq-eqb, ne_eqb}
use Rattle.state.specs.Seq.{all_b}
use Rattle.state.proofs.Tests.{and_l, and_r, and-true, same_test, or_split}
use Rattle.state.proofs.Seq.{all_true, all-at}
use Rattle.multi_cycle_list.specs.Lists as lists
use Rattle.entry_tree.specs.Pairs.{Pair, count, is_entry, in_range, in_order, past}
use Rattle.entry_tree.specs.Walks.{walk_b}
use Rattle.entry_tree.specs.Testing.{mark_of, pairs_b, seen_after, gaps_b}
use Rattle.entry_tree.specs.declared.whole.Check.{Check}
use Rattle.entry_tree.proofs.Passing.{Pass, count-own, range_inside, pass_of, after_in, after-out, after-length, of_pass, order_same}
use Rattle.regular.specs.Registry.{Registry, queued, once_b, queues_b, marks_b, whole_b}
use Rattle.regular.specs.Inner.{met_b}

-- what the queue's test leaves: each entry's mark names its queue
pub record Marks (clean_up activation seen : List ℕ) : Type 0 where
  pub in_clean_up : (e : ℕ) → e < 128 → 0 < lists.count e clean_up → mark_of seen e ≡ 1
  pub in_activation : (e : ℕ) → e < 128 → 0 < lists.count e activation → mark_of seen e ≡ 2
  pub of_clean_up : (e : ℕ) → e < 128 → mark_of seen e ≡ 1 → 0 < lists.count e clean_up
  pub of_activation : (e : ℕ) → e < 128 → mark_of seen e ≡ 2 → 0 < lists.count e activation
  pub most : (e : ℕ) → e < 128 → mark_of seen e ≤ 2
  pub once : (e : ℕ) → lists.count e clean_up + lists.count e activation ≤ 1

-- ---- the nine conditions, apart

pub record Conditions (m : Registry) : Type 0 where
  pub range-i : in_range 8191 m.inactive ≡ true
  pub range-a : in_range 8191 m.active ≡ true
  pub once : (e : ℕ) → e < 128 → count (is_entry e) m.inactive + count (is_entry e) m.active ≤ 1
  pub waiting : (e : ℕ) → e < 128 → lists.count e m.activation ≡ count (is_entry e) m.inactive
  pub marked : (e : ℕ) → e < 128 → lists.count e m.clean_up ≤ count (is_entry e) m.active
  pub order-i : in_order 0 m.inactive ≡ true
  pub order-a : in_order 0 m.active ≡ true
  pub marks : marks_b m.clean_up 0 m.active ≡ true
  pub last : (not m.last_gap || leb (past 0 m.active) 8191) ≡ true
  pub walk : walk_b m.active m.walk ≡ true

module _ (m : Registry) where
  abbrev w8 : Bool
  w8 = (not m.last_gap || leb (past 0 m.active) 8191) && walk_b m.active m.walk

  abbrev w7 : Bool
  w7 = marks_b m.clean_up 0 m.active && w8

  abbrev w6 : Bool
  w6 = in_order 0 m.active && w7

  abbrev w5 : Bool
  w5 = in_order 0 m.inactive && w6

  abbrev w4 : Bool
  w4 = all_b 128 (queues_b m) && w5

  abbrev w3 : Bool
  w3 = all_b 128 (once_b m) && w4

  abbrev w2 : Bool
  w2 = in_range 8191 m.active && w3

  pub conditions : whole_b m ≡ true → Conditions m
  unfolding whole_b
  conditions h =
      let r2 = and_r (in_range 8191 m.inactive) w2 h in
      let r3 = and_r (in_range 8191 m.active) w3 r2 in
      let r4 = and_r (all_b 128 (once_b m)) w4 r3 in
      let r5 = and_r (all_b 128 (queues_b m)) w5 r4 in
      let r6 = and_r (in_order 0 m.inactive) w6 r5 in
      let r7 = and_r (in_order 0 m.active) w7 r6 in
      let r8 = and_r (marks_b m.clean_up 0 m.active) w8 r7 in
      let q : (e : ℕ) → e < 128 → queues_b m e ≡ true = λ e l. all-at 128 (queues_b m) (and_l (all_b 128 (queues_b m)) w5 r4) e l in
      record {
        range-i = and_l (in_range 8191 m.inactive) w2 h;
        range-a = and_l (in_range 8191 m.active) w3 r2;
        once = λ e l. leb-true (count (is_entry e) m.inactive + count (is_entry e) m.active) 1 (all-at 128 (once_b m) (and_l (all_b 128 (once_b m)) w4 r3) e l);
        waiting = λ e l. eqb-true (lists.count e m.activation) (count (is_entry e) m.inactive) (and_l (eqb (lists.count e m.activation) (count (is_entry e) m.inactive)) (leb (lists.count e m.clean_up) (count (is_entry e) m.active)) (q e l));
        marked = λ e l. leb-true (lists.count e m.clean_up) (count (is_entry e) m.active) (and_r (eqb (lists.count e m.activation) (count (is_entry e) m.inactive)) (leb (lists.count e m.clean_up) (count (is_entry e) m.active)) (q e l));
        order-i = and_l (in_order 0 m.inactive) w6 r5;
        order-a = and_l (in_order 0 m.active) w7 r6;
        marks = and_l (marks_b m.clean_up 0 m.active) w8 r7;
        last = and_l (not m.last_gap || leb (past 0 m.active) 8191) (walk_b m.active m.walk) r8;
        walk = and_r (not m.last_gap || leb (past 0 m.active) 8191) (walk_b m.active m.walk) r8;
      }

  pub of_conditions : Conditions m → whole_b m ≡ true
  unfolding whole_b
  of_conditions c = rw (
    c.range-i,
    c.range-a,
    all_true 128 (once_b m) (λ e l. le-leb (count (is_entry e) m.inactive + count (is_entry e) m.active) 1 (c.once e l)),
    all_true 128 (queues_b m) (λ e l. and-true (eqb (lists.count e m.activation) (count (is_entry e) m.inactive)) (leb (lists.count e m.clean_up) (count (is_entry e) m.active)) (eq-eqb (lists.count e m.activation) (count (is_entry e) m.inactive) (c.waiting e l)) (le-leb (lists.count e m.clean_up) (count (is_entry e) m.active) (c.marked e l))),
    c.order-i,
    c.order-a,
    c.marks,
    c.last,
    c.walk,
  )

-- ---- the code's tests

-- what the code asks of the pairs
abbrev pub active : Check
active = record { most = 8191; same = true; low = 0; high = 1; met = 3 }

abbrev pub inactive : Check
inactive = record { most = 8191; same = true; low = 2; high = 2; met = 4 }

pub record Tested (m : Registry) (seen : List ℕ) : Type 0 where
  pub active : pairs_b active seen 0 m.active ≡ true
  pub inactive : pairs_b inactive (seen_after 3 seen m.active) 0 m.inactive ≡ true
  pub all-met : all_b 128 (met_b (seen_after 4 (seen_after 3 seen m.active) m.inactive)) ≡ true
  pub last : (not m.last_gap || leb (past 0 m.active) 8191) ≡ true
  pub walk : (e : ℕ) → m.walk ≡ Some e → mark_of (seen_after 4 (seen_after 3 seen m.active) m.inactive) e ≡ 3

-- marks that name the queued entries of a list ask for their gaps
gaps_are : (ms seen : List ℕ) (from : ℕ) (l : List Pair) → ((e : ℕ) → 0 < count (is_entry e) l → eqb (mark_of seen e) 1 ≡ queued e ms) → gaps_b seen from l ≡ marks_b ms from l
gaps_are ms seen from [] f = refl
gaps_are ms seen from (p ∷ l) f =
    rw (f p.entry (omega (arith, count-own p.entry p l refl)), gaps_are ms seen (suc p.subject) l (λ e i. f e (omega (arith, i)))) refl

no-marks : (from : ℕ) (l : List Pair) → marks_b [] from l ≡ true
unfolding lists.count
no-marks from [] = refl
no-marks from (p ∷ l) = no-marks (suc p.subject) l

module _ (m : Registry) (seen : List ℕ) (n : length seen ≡ 256) (k : Marks m.clean_up m.activation seen) (pointed : (e : ℕ) → m.walk ≡ Some e → e < 128) where
  -- the marks after the first tree, and after both
  abbrev one : List ℕ
  one = seen_after 3 seen m.active

  abbrev two : List ℕ
  two = seen_after 4 one m.inactive

  one-long : length one ≡ 256
  one-long = after-length 3 seen m.active ∙ n

  marked_by : (e : ℕ) → e ≤ 127 → eqb (mark_of seen e) 1 ≡ queued e m.clean_up
  marked_by e l = same_test (eqb (mark_of seen e) 1) (queued e m.clean_up)
      (λ q. lt-ltb 0 (lists.count e m.clean_up) (k.of_clean_up e (omega arith) (eqb-true (mark_of seen e) 1 q)))
      (λ q. eq-eqb (mark_of seen e) 1 (k.in_clean_up e (omega arith) (ltb-true 0 (lists.count e m.clean_up) q)))

  module _ (t : Tested m seen) where
    A : Pass active seen 0 m.active
    A = pass_of active (omega arith) seen 0 m.active n t.active

    I : Pass inactive one 0 m.inactive
    I = pass_of inactive (omega arith) one 0 m.inactive one-long t.inactive

    -- an entry's counts and marks
    out : (e : ℕ) → count (is_entry e) m.active ≡ 0 → mark_of one e ≡ mark_of seen e
    out e z = after-out 3 seen m.active e z

    in1 : (e : ℕ) → 0 < count (is_entry e) m.active → mark_of one e ≡ 3
    in1 e i = after_in 8191 3 seen m.active e n A.range i

    out2 : (e : ℕ) → count (is_entry e) m.inactive ≡ 0 → mark_of two e ≡ mark_of one e
    out2 e z = after-out 4 one m.inactive e z

    in2 : (e : ℕ) → 0 < count (is_entry e) m.inactive → mark_of two e ≡ 4
    in2 e i = after_in 8191 4 one m.inactive e one-long I.range i

    all-met-at : (e : ℕ) → e < 128 → (mark_of two e ≡ 0) ⊎ (3 ≤ mark_of two e)
    all-met-at e l = ⊎_elim (λ h. inl (eqb-true (mark_of two e) 0 h)) (λ h. inr (leb-true 3 (mark_of two e) h)) (or_split (eqb (mark_of two e) 0) (leb 3 (mark_of two e)) (all-at 128 (met_b two) t.all-met e l))

    apart : (e : ℕ) → 0 < count (is_entry e) m.inactive → count (is_entry e) m.active ≡ 0
    apart e i = elim (ℕ_discrete (count (is_entry e) m.active) 0) [ yes z ↦ z | no z ↦ absurd (omega (arith, in1 e (omega arith), (I.marks e i).1)) ]

    once-both : (e : ℕ) → count (is_entry e) m.inactive + count (is_entry e) m.active ≤ 1
    once-both e = elim (ℕ_discrete (count (is_entry e) m.inactive) 0) [
      | yes z ↦ omega (arith, A.once e)
      | no z ↦ omega (arith, I.once e, apart e (omega arith))
    ]

    waiting-is : (e : ℕ) → e < 128 → lists.count e m.activation ≡ count (is_entry e) m.inactive
    waiting-is e l = elim (ℕ_discrete (count (is_entry e) m.inactive) 0) [
      | no z ↦
          let i : 0 < count (is_entry e) m.inactive = omega arith in
          let v : mark_of seen e ≡ 2 = omega (arith, (I.marks e i).0, (I.marks e i).1, out e (apart e i)) in
          omega (arith, k.of_activation e l v, k.once e, I.once e)
      | yes z ↦ elim (ℕ_discrete (lists.count e m.activation) 0) [
        | yes y ↦ omega arith
        | no y ↦
            let v : mark_of seen e ≡ 2 = k.in_activation e l (omega arith) in
            elim (ℕ_discrete (count (is_entry e) m.active) 0) [
              | yes x ↦ absurd (⊎_elim (λ s. omega (arith, out2 e z, out e x)) (λ s. omega (arith, out2 e z, out e x)) (all-met-at e l))
              | no x ↦ absurd (omega (arith, (A.marks e (omega arith)).1))
            ]
      ]
    ]

    marked-is : (e : ℕ) → e < 128 → lists.count e m.clean_up ≤ count (is_entry e) m.active
    marked-is e l = elim (ℕ_discrete (lists.count e m.clean_up) 0) [
      | yes y ↦ omega arith
      | no y ↦
          let v : mark_of seen e ≡ 1 = k.in_clean_up e l (omega arith) in
          elim (ℕ_discrete (count (is_entry e) m.active) 0) [
            | no x ↦ omega (arith, k.once e)
            | yes x ↦ elim (ℕ_discrete (count (is_entry e) m.inactive) 0) [
              | yes z ↦ absurd (⊎_elim (λ s. omega (arith, out2 e z, out e x)) (λ s. omega (arith, out2 e z, out e x)) (all-met-at e l))
              | no z ↦ absurd (omega (arith, (I.marks e (omega arith)).0, out e x))
            ]
          ]
    ]

    walks : (o : Option ℕ) → m.walk ≡ o → walk_b m.active o ≡ true
    walks None q = refl
    walks (Some e) q = lt-ltb 0 (count (is_entry e) m.active) (elim (ℕ_discrete (count (is_entry e) m.active) 0) [
      | no x ↦ omega arith
      | yes x ↦ elim (ℕ_discrete (count (is_entry e) m.inactive) 0) [
        | yes z ↦ absurd (omega (arith, t.walk e q, out2 e z, out e x, k.most e (pointed e q)))
        | no z ↦ absurd (omega (arith, t.walk e q, in2 e (omega arith)))
      ]
    ])

    pub sound : whole_b m ≡ true
    sound = of_conditions m (record {
      range-i = I.range;
      range-a = A.range;
      once = λ e l. once-both e;
      waiting = waiting-is;
      marked = marked-is;
      order-i = sym (order_same 0 m.inactive) ∙ I.order;
      order-a = sym (order_same 0 m.active) ∙ A.order;
      marks = sym (gaps_are m.clean_up seen 0 m.active (λ e i. marked_by e (range_inside 8191 m.active A.range e i))) ∙ A.gaps;
      last = t.last;
      walk = walks m.walk refl;
    })

  module _ (h : whole_b m ≡ true) where
    C : Conditions m
    C = conditions m h

    inside-a : (e : ℕ) → 0 < count (is_entry e) m.active → e < 128
    inside-a e i = omega (arith, range_inside 8191 m.active C.range-a e i)

    inside-i : (e : ℕ) → 0 < count (is_entry e) m.inactive → e < 128
    inside-i e i = omega (arith, range_inside 8191 m.inactive C.range-i e i)

    -- no entry is registered twice, nor beyond 127
    once-all : (e : ℕ) → count (is_entry e) m.inactive + count (is_entry e) m.active ≤ 1
    once-all e = elim (ℕ_discrete (count (is_entry e) m.inactive) 0) [
      | no z ↦ C.once e (inside-i e (omega arith))
      | yes z ↦ elim (ℕ_discrete (count (is_entry e) m.active) 0) [ yes x ↦ omega arith | no x ↦ C.once e (inside-a e (omega arith)) ]
    ]

    -- an active entry's mark is 0 or 1, an inactive one's is 2
    active-mark : (e : ℕ) → 0 < count (is_entry e) m.active → mark_of seen e ≤ 1
    active-mark e i =
        let l = inside-a e i in
        elim (ℕ_discrete (mark_of seen e) 2) [
          | yes v ↦ absurd (omega (arith, k.of_activation e l v, C.waiting e l, C.once e l))
          | no v ↦ omega (arith, k.most e l)
        ]

    inactive-mark : (e : ℕ) → 0 < count (is_entry e) m.inactive → mark_of one e ≡ 2
    inactive-mark e i =
        let l = inside-i e i in
        after-out 3 seen m.active e (omega (arith, once-all e)) ∙ k.in_activation e l (omega (arith, C.waiting e l))

    unqueued : (e : ℕ) → mark_of one e ≡ 2 → eqb (mark_of one e) 1 ≡ queued e []
    unfolding lists.count
    unqueued e q = ne_eqb (mark_of one e) 1 (λ z. omega arith)

    settles : (e : ℕ) → e < 128 → met_b two e ≡ true
    settles e l = elim (ℕ_discrete (count (is_entry e) m.inactive) 0) [
      | no z ↦ met (mark_of two e) (omega (arith, after_in 8191 4 one m.inactive e one-long C.range-i (omega arith)))
      | yes z ↦ elim (ℕ_discrete (count (is_entry e) m.active) 0) [
        | no x ↦ met (mark_of two e) (omega (arith, after-out 4 one m.inactive e z, after_in 8191 3 seen m.active e n C.range-a (omega arith)))
        | yes x ↦ unmet (mark_of two e) (elim (ℕ_discrete (mark_of seen e) 0) [
          | yes v ↦ omega (arith, after-out 4 one m.inactive e z, after-out 3 seen m.active e x)
          | no v ↦ elim (ℕ_discrete (mark_of seen e) 1) [
            | yes u ↦ absurd (omega (arith, k.of_clean_up e l u, C.marked e l))
            | no u ↦ absurd (omega (arith, k.of_activation e l (omega (arith, k.most e l)), C.waiting e l))
          ]
        ])
      ]
    ]
      where
        met : (v : ℕ) → 3 ≤ v → (eqb v 0 || leb 3 v) ≡ true
        met v l = rw (ne_eqb v 0 (omega arith), le-leb 3 v l)

        unmet : (v : ℕ) → v ≡ 0 → (eqb v 0 || leb 3 v) ≡ true
        unmet v q = rw (eq-eqb v 0 q)

    pub complete : Tested m seen
    complete = record {
      active = of_pass active (omega arith) seen 0 m.active n (record {
        range = C.range-a;
        order = order_same 0 m.active ∙ C.order-a;
        once = λ e. omega (arith, once-all e);
        marks = λ e i. (omega arith, active-mark e i);
        gaps = gaps_are m.clean_up seen 0 m.active (λ e i. marked_by e (omega (arith, inside-a e i))) ∙ C.marks;
      });
      inactive = of_pass inactive (omega arith) one 0 m.inactive one-long (record {
        range = C.range-i;
        order = order_same 0 m.inactive ∙ C.order-i;
        once = λ e. omega (arith, once-all e);
        marks = λ e i. (omega (arith, inactive-mark e i), omega (arith, inactive-mark e i));
        gaps = gaps_are [] one 0 m.inactive (λ e i. unqueued e (inactive-mark e i)) ∙ no-marks 0 m.inactive;
      });
      all-met = all_true 128 (met_b two) settles;
      last = C.last;
      walk = λ e q.
          let i : 0 < count (is_entry e) m.active = ltb-true 0 (count (is_entry e) m.active) (ap (walk_b m.active) (sym q) ∙ C.walk) in
          after-out 4 one m.inactive e (omega (arith, once-all e)) ∙ after_in 8191 3 seen m.active e n C.range-a i;
    }
