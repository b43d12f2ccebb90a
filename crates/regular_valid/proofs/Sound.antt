-- A whole registry with a filter, and what each change of it keeps.
use Prim.Native.Nat.{ℕ, ◌-◌, ◌≤◌, ◌<◌}
use mathlib.Core.Path.{◌≡◌, refl, sym, ◌∙◌}
use mathlib.Core.Logic.{◌≢◌, ◌⊎◌, inl, inr}
use mathlib.Core.Bool.{Bool, true, false, cond}
use Rattle.std.specs.Prelude.{Option, Some}
use mathlib.Core.List.{List, [], ◌∷◌}
use native.Mathlib.Omega.{arith}
use lib.Dec.{T}
use Rattle.state.specs.Seq.{to_nat}
use Rattle.state.proofs.Tests.{not-both}
use Rattle.multi_cycle_list.specs.Lists as lists
use Rattle.multi_cycle_list.proofs.Lists.{count-other, count-append, count-gone, count_kept}
use Rattle.entry_tree.specs.Pairs.{Pair, pair, Place, count, any, is_entry, on_subject, without, inserted, place_of, past}
use Rattle.entry_tree.proofs.Changes.{inserted-count, without-count, without-count-other, without-count-same}
use Rattle.entry_tree.specs.Walks.{moved_past}
use Rattle.entry_tree.proofs.Walking.{find-after, find-rest, next_in, none-some, past_in}
use Rattle.regular.specs.Registry.{Registry, fresh}
use Rattle.regular.specs.Steps.{new_mark, head_gaps, is_head, gaps, goes_on, waits, joins, leaves, leaves_inactive, with_clean_up, becomes_active, with_walk}
use Rattle.regular.specs.declared.FilterUpdate.TheVariants.{AddSubject, RemoveSubjectRange}
use Rattle.regular_valid.specs.Inner.{into}
use Rattle.entry_tree.proofs.Count.{same, diff, below, above, compare_eq, compare_le, T_true, any-true, true-any, count-self, not_there}
use Rattle.regular_valid.proofs.Queue.{count-first, count-le, count-back, count-joined, count_maybe, count_maybe_other, count-nil}
use Rattle.regular_valid.proofs.Facts.{Facts, onil}
use Rattle.regular_valid.proofs.Good.{Good, gnil, mark, into-sub, front-good, past-clear, last-good, without-good, inserted_same, inserted_new, added_out, held_all, order_of, exact-good}
use Rattle.regular_valid.proofs.Places.{find-on, find-low, last_head, inserted-order, without-order, past-le}

pub record Sound (m : Registry) (F : ℕ → Bool) : Type 0 where
  pub facts : Facts m
  pub top : (x : ℕ) → T (F x) → x ≤ 8191
  pub good : Good (λ e. lists.count e m.clean_up) m.last_gap F 0 m.active

-- the last subject is not active where the flag is set
edge : (m : Registry) (F : ℕ → Bool) → Sound m F → m.last_gap ≡ true → count (on_subject 8191) m.active ≡ 0
edge m F s h = (past-clear s.good 8191 (s.facts.last-gap h)).1

-- ---- registering

module _ (m : Registry) (F : ℕ → Bool) (s : Sound m F) (e x : ℕ) (he : e ≤ 127) (zi : count (is_entry e) m.inactive ≡ 0) (za : count (is_entry e) m.active ≡ 0) where
  pub waits-sound : x ≤ 8191 → (n : ℕ) → Sound (waits e x n m) F
  waits-sound hx n = record {
    facts = record {
      once = λ y. rw (inserted-count (pair e x) (is_entry y) m.inactive) (elim (compare_eq y e) [ same r t ↦ rw (t, r) (omega (arith, zi, za)) | diff d t ↦ rw t (omega (arith, s.facts.once y)) ]);
      waits = λ y. rw (inserted-count (pair e x) (is_entry y) m.inactive) (elim (compare_eq y e) [
        | same r t ↦ rw (t, r) (omega (arith, count-joined e m.activation, s.facts.waits e))
        | diff d t ↦ rw t (omega (arith, count-back y e m.activation d, s.facts.waits y))
      ]);
      marked = s.facts.marked;
      entries = λ y h. elim (compare_eq y e) [ same r t ↦ omega arith | diff d t ↦ s.facts.entries y (omega (arith, rw (inserted-count (pair e x) (is_entry y) m.inactive, t) at h)) ];
      inactive-subjects = λ y h. elim (compare_eq y x) [ same r t ↦ omega arith | diff d t ↦ s.facts.inactive-subjects y (omega (arith, rw (inserted-count (pair e x) (on_subject y) m.inactive, t) at h)) ];
      active-subjects = s.facts.active-subjects;
      inactive-order = inserted-order (pair e x) (omega arith) s.facts.inactive-order;
      active-order = s.facts.active-order;
      last-gap = s.facts.last-gap;
      walks = s.facts.walks;
    };
    top = s.top;
    good = s.good;
  }

  pub joins-sound : 0 < count (on_subject x) m.active → Sound (joins e x m) F
  joins-sound k =
      let g = inserted_same e x s.good (omega (arith, s.facts.marked e)) (held_all s.good x k) (inr k) in
      let top : (y : ℕ) → 0 < count (on_subject y) (inserted (pair e x) m.active) → y ≤ 8191
      = λ y h. elim (compare_eq y x) [ same r t ↦ s.facts.active-subjects y (rw r k) | diff d t ↦ s.facts.active-subjects y (omega (arith, rw (inserted-count (pair e x) (on_subject y) m.active, t) at h)) ] in
      record {
        facts = record {
          once = λ y. rw (inserted-count (pair e x) (is_entry y) m.active) (elim (compare_eq y e) [ same r t ↦ rw (t, r) (omega (arith, zi, za)) | diff d t ↦ rw t (omega (arith, s.facts.once y)) ]);
          waits = s.facts.waits;
          marked = λ y. rw (inserted-count (pair e x) (is_entry y) m.active) (omega (arith, s.facts.marked y));
          entries = λ y h. elim (compare_eq y e) [ same r t ↦ omega arith | diff d t ↦ s.facts.entries y (omega (arith, rw (inserted-count (pair e x) (is_entry y) m.active, t) at h)) ];
          inactive-subjects = s.facts.inactive-subjects;
          active-subjects = top;
          inactive-order = s.facts.inactive-order;
          active-order = order_of g;
          last-gap = λ h. past-le 0 8191 (inserted (pair e x) m.active) (omega arith) top (rw (inserted-count (pair e x) (on_subject 8191) m.active) (elim (compare_eq 8191 x) [
            | same r t ↦ absurd (omega (arith, edge m F s h, rw (← r) at k))
            | diff d t ↦ rw t (omega (arith, edge m F s h))
          ]));
          walks = λ y h. rw (inserted-count (pair e x) (is_entry y) m.active) (omega (arith, s.facts.walks y h));
        };
        top = s.top;
        good = g;
      }

-- ---- removing

pub inactive-sound : (m : Registry) (F : ℕ → Bool) → Sound m F → (e : ℕ) → Sound (leaves_inactive e m) F
inactive-sound m F s e = record {
  facts = record {
    once = λ y. omega (arith, s.facts.once y, without-count e (is_entry y) m.inactive);
    waits = λ y. elim (compare_eq y e) [
      | same r t ↦ rw (r, count-gone e m.activation, without-count-same e m.inactive) refl
      | diff d t ↦ rw (count_kept y e m.activation d, without-count-other e y d m.inactive) (s.facts.waits y)
    ];
    marked = s.facts.marked;
    entries = λ y h. s.facts.entries y (omega (arith, without-count e (is_entry y) m.inactive));
    inactive-subjects = λ y h. s.facts.inactive-subjects y (omega (arith, without-count e (on_subject y) m.inactive));
    active-subjects = s.facts.active-subjects;
    inactive-order = without-order e s.facts.inactive-order;
    active-order = s.facts.active-order;
    last-gap = s.facts.last-gap;
    walks = s.facts.walks;
  };
  top = s.top;
  good = s.good;
}

-- the new clean-up queue holds no entry more often than the list does
gaps-most : (x e : ℕ) (d : Place) (ms : List ℕ) (f : Bool) (c : ℕ) → x ≢ e → lists.count x ms ≤ c → count (is_entry x) d.rest ≤ c → lists.count x (gaps e d ms f).clean_up ≤ c
gaps-most x e d ms f c n h k = go (is_head d) d.rest k
  where
    go : (t : Bool) (l : List Pair) → count (is_entry x) l ≤ c → lists.count x (cond t (head_gaps e d.subject l ms f) (record { clean_up = ms; last_gap = f; more = 0 })).clean_up ≤ c
    go true [] k = omega (arith, count_kept x e ms n)
    go true (q ∷ l) k = rw (count-append, count_kept x e ms n) (elim (compare_eq x q.entry) [
      | same r t ↦
          let mk = mark e d.subject q ms in
          let own : lists.count x (cond (new_mark e d.subject q ms) (q.entry ∷ []) []) ≡ to_nat (new_mark e d.subject q ms) = rw r (count_maybe q.entry (new_mark e d.subject q ms)) in
          elim (compare_le 1 (lists.count x ms)) [
            | below j v ↦ omega (arith, own, mk.once (rw r at j))
            | above j v ↦ omega (arith, own, mk.most, rw t at k)
          ]
      | diff y t ↦ omega (arith, count_maybe_other x q.entry (new_mark e d.subject q ms) y)
    ])
    go false l k = h

gaps-gone : (e : ℕ) (d : Place) (ms : List ℕ) (f : Bool) → (0 < lists.count e ms → d.from < d.subject) → count (is_entry e) d.rest ≡ 0 → lists.count e (gaps e d ms f).clean_up ≡ 0
gaps-gone e d ms f low z = elim (compare_le d.from d.subject) [
  | below h t ↦ rw t (go d.rest z)
  | above h t ↦ rw t (elim (compare_le 1 (lists.count e ms)) [ below j v ↦ absurd (omega (arith, low j)) | above j v ↦ omega arith ])
]
  where
    go : (l : List Pair) → count (is_entry e) l ≡ 0 → lists.count e (head_gaps e d.subject l ms f).clean_up ≡ 0
    go [] z = count-gone e ms
    go (q ∷ l) z = rw (count-append, count-gone e ms, count_maybe_other e q.entry (new_mark e d.subject q ms) (λ w. not_there e q.entry (q ∷ l) z (count-self q l) (sym w))) refl

-- the flag is set by the removal of the last pair alone
flag-after : (e : ℕ) (d : Place) (ms : List ℕ) (f : Bool) → (gaps e d ms f).last_gap ≡ true → (f ≡ true) ⊎ ((d.rest ≡ []) × (d.from ≤ d.subject))
flag-after e d ms f = elim (compare_le d.from d.subject) [ below i t ↦ rw t (go d.rest i) | above i t ↦ rw t (λ y. inl y) ]
  where
    go : (l : List Pair) → d.from ≤ d.subject → (head_gaps e d.subject l ms f).last_gap ≡ true → (f ≡ true) ⊎ ((l ≡ []) × (d.from ≤ d.subject))
    go [] i y = inr (refl, i)
    go (q ∷ l) i y = inl y

module _ (m : Registry) (F : ℕ → Bool) (s : Sound m F) (e : ℕ) (k : 0 < count (is_entry e) m.active) where
  walk-out : (y : ℕ) → moved_past e (goes_on (place_of e m.active)) m.walk ≡ Some y → 0 < count (is_entry y) (without e m.active)
  walk-out =
      past_in e (goes_on (place_of e m.active)) m.active (omega (arith, s.facts.once e))
      (λ y. next_in (place_of e m.active).subject y (place_of e m.active).rest) m.walk s.facts.walks

  edge-out : (gaps e (place_of e m.active) m.clean_up m.last_gap).last_gap ≡ true → count (on_subject 8191) (without e m.active) ≡ 0
  edge-out t =
      elim (flag-after e (place_of e m.active) m.clean_up m.last_gap t) [
        | inl y ↦ omega (arith, edge m F s y, without-count e (on_subject 8191) m.active)
        | inr y ↦ last_head e s.good k y.0 y.1 8191 (s.facts.active-subjects (place_of e m.active).subject (find-on e 0 m.active k))
      ]

  pub leaves-sound : Sound (leaves e (place_of e m.active) (gaps e (place_of e m.active) m.clean_up m.last_gap) m) F
  leaves-sound =
      let g = without-good e m.clean_up s.good (λ y. omega (arith, s.facts.once y)) k in
      let top : (y : ℕ) → 0 < count (on_subject y) (without e m.active) → y ≤ 8191 = λ y h. s.facts.active-subjects y (omega (arith, without-count e (on_subject y) m.active)) in
      record {
        facts = record {
          once = λ y. omega (arith, s.facts.once y, without-count e (is_entry y) m.active);
          waits = s.facts.waits;
          marked = λ y. elim (compare_eq y e) [
            | same r t ↦ rw (r, gaps-gone e (place_of e m.active) m.clean_up m.last_gap (find-low e s.facts.active-order k) (find-after e 0 m.active (omega (arith, s.facts.once e)))) (omega arith)
            | diff n t ↦ rw (without-count-other e y n m.active) (gaps-most y e (place_of e m.active) m.clean_up m.last_gap (count (is_entry y) m.active) n (s.facts.marked y) (find-rest y e 0 m.active))
          ];
          entries = λ y h. s.facts.entries y (omega (arith, without-count e (is_entry y) m.active));
          inactive-subjects = s.facts.inactive-subjects;
          active-subjects = top;
          inactive-order = s.facts.inactive-order;
          active-order = order_of g;
          last-gap = λ h. past-le 0 8191 (without e m.active) (omega arith) top (edge-out h);
          walks = walk-out;
        };
        top = s.top;
        good = g;
      }

-- ---- polling

module _ (m : Registry) (F : ℕ → Bool) (s : Sound m F) where
  -- the front mark is handed out
  pub front-sound : (e : ℕ) (marks : List ℕ) (f : Bool) → m.clean_up ≡ e ∷ marks → m.last_gap ≡ f
      → Sound (with_clean_up marks f m) (into (RemoveSubjectRange (place_of e m.active).from ((place_of e m.active).subject - 1)) F)
  front-sound e marks f q r =
      let k : lists.count e (e ∷ marks) ≤ count (is_entry e) m.active = rw q at (s.facts.marked e) in
      let c = count-first e marks in
      let g = front-good e {M' = λ x. lists.count x marks} (rw (q, r) at s.good) (omega (arith, s.facts.once e)) (omega arith) (omega arith) (λ x. count-le x e marks) (λ x d. omega (arith, count-other x e marks (λ z. d (sym z)))) in
      record {
        facts = record {
          once = s.facts.once;
          waits = s.facts.waits;
          marked = λ y. omega (arith, count-le y e marks, rw q at (s.facts.marked y));
          entries = s.facts.entries;
          inactive-subjects = s.facts.inactive-subjects;
          active-subjects = s.facts.active-subjects;
          inactive-order = s.facts.inactive-order;
          active-order = order_of g;
          last-gap = λ h. s.facts.last-gap (r ∙ h);
          walks = s.facts.walks;
        };
        top = λ x h. s.top x (into-sub (place_of e m.active).from ((place_of e m.active).subject - 1) F x h);
        good = g;
      }

  -- the last gap is handed out
  pub last-sound : m.clean_up ≡ [] → Sound (with_clean_up [] false m) (into (RemoveSubjectRange (past 0 m.active) 8191) F)
  last-sound q =
      let g = last-good {f' = false} 8191 s.top (rw q at s.good) in
      record {
        facts = record {
          once = s.facts.once;
          waits = s.facts.waits;
          marked = λ y. omega (arith, count-nil y);
          entries = s.facts.entries;
          inactive-subjects = s.facts.inactive-subjects;
          active-subjects = s.facts.active-subjects;
          inactive-order = s.facts.inactive-order;
          active-order = order_of g;
          last-gap = λ h. not-both (sym h);
          walks = s.facts.walks;
        };
        top = λ x h. s.top x (into-sub (past 0 m.active) 8191 F x h);
        good = g;
      }

  -- the front of the activation queue becomes active on the subject x
  module _ (e x : ℕ) (q : List ℕ) (a : m.activation ≡ e ∷ q) (c : m.clean_up ≡ []) (l : m.last_gap ≡ false) (k : 0 < count (on_subject x) m.inactive) where
    quiet : (y : ℕ) → lists.count y m.clean_up ≡ 0
    quiet y = rw c (count-nil y)

    active-then : (F' : ℕ → Bool) → ((y : ℕ) → T (F' y) → y ≤ 8191) → Good (λ y. lists.count y m.clean_up) m.last_gap F' 0 (inserted (pair e x) m.active) → Sound (becomes_active e x q m) F'
    active-then F' top g =
        let w : (y : ℕ) → lists.count y (e ∷ q) ≡ count (is_entry y) m.inactive = rw a at s.facts.waits in
        record {
          facts = record {
            once = λ y. rw (inserted-count (pair e x) (is_entry y) m.active) (elim (compare_eq y e) [
              | same r t ↦ rw (t, r) (omega (arith, without-count-same e m.inactive, s.facts.once e, w e, count-first e q))
              | diff d t ↦ rw t (omega (arith, without-count e (is_entry y) m.inactive, s.facts.once y))
            ]);
            waits = λ y. elim (compare_eq y e) [
              | same r t ↦ rw r (omega (arith, without-count-same e m.inactive, s.facts.once e, w e, count-first e q))
              | diff d t ↦ omega (arith, without-count-other e y d m.inactive, w y, count-other y e q (λ z. d (sym z)))
            ];
            marked = λ y. omega (arith, quiet y);
            entries = λ y h. elim (compare_eq y e) [
              | same r t ↦ s.facts.entries y (rw r (omega (arith, w e, count-first e q)))
              | diff d t ↦ s.facts.entries y (omega (arith, without-count e (is_entry y) m.inactive, rw (inserted-count (pair e x) (is_entry y) m.active, t) at h))
            ];
            inactive-subjects = λ y h. s.facts.inactive-subjects y (omega (arith, without-count e (on_subject y) m.inactive));
            active-subjects = λ y h. elim (compare_eq y x) [
              | same r t ↦ s.facts.inactive-subjects y (rw r k)
              | diff d t ↦ s.facts.active-subjects y (omega (arith, rw (inserted-count (pair e x) (on_subject y) m.active, t) at h))
            ];
            inactive-order = without-order e s.facts.inactive-order;
            active-order = order_of g;
            last-gap = λ h. not-both (sym h ∙ l);
            walks = λ y h. rw (inserted-count (pair e x) (is_entry y) m.active) (omega (arith, s.facts.walks y h));
          };
          top = top;
          good = g;
        }

    pub again-sound : 0 < count (on_subject x) m.active → Sound (becomes_active e x q m) F
    again-sound i = active-then F s.top (inserted_same e x s.good (quiet e) (held_all s.good x i) (inr i))

    pub add-sound : count (on_subject x) m.active ≡ 0 → Sound (becomes_active e x q m) (into (AddSubject x) F)
    add-sound z =
        active-then (into (AddSubject x) F)
        (λ y h. elim (compare_eq y x) [ same r t ↦ s.facts.inactive-subjects y (rw r k) | diff n t ↦ s.top y (added_out x F y n h) ])
        (rw l (inserted_new e x quiet (rw l at s.good) (omega arith) z))

-- ---- walking

pub walk-sound : (m : Registry) (F : ℕ → Bool) → Sound m F → (o : Option ℕ) → ((y : ℕ) → o ≡ Some y → 0 < count (is_entry y) m.active) → Sound (with_walk o m) F
walk-sound m F s o h = record {
  facts = record {
    once = s.facts.once;
    waits = s.facts.waits;
    marked = s.facts.marked;
    entries = s.facts.entries;
    inactive-subjects = s.facts.inactive-subjects;
    active-subjects = s.facts.active-subjects;
    inactive-order = s.facts.inactive-order;
    active-order = s.facts.active-order;
    last-gap = s.facts.last-gap;
    walks = h;
  };
  top = s.top;
  good = s.good;
}

-- ---- the filter that holds just the active subjects

unfoldable pub exactly : Registry → ℕ → Bool
exactly m x = any (on_subject x) m.active

pub exact-sound : (m : Registry) → Facts m → Sound m (exactly m)
unfolding exactly
exact-sound m f = record {
  facts = f;
  top = λ x t. f.active-subjects x (any-true (on_subject x) m.active (T_true (any (on_subject x) m.active) t));
  good = exact-good m.last_gap (λ x. any (on_subject x) m.active) f.active-order (λ x i t. any-true (on_subject x) m.active (T_true (any (on_subject x) m.active) t)) (λ x i. rw (true-any (on_subject x) m.active i) tt);
}

pub fresh-facts : (n : ℕ) → Facts (fresh n)
fresh-facts n = record {
  once = λ e. omega arith;
  waits = λ e. count-nil e;
  marked = λ e. omega (arith, count-nil e);
  entries = λ e h. absurd (omega (arith, h));
  inactive-subjects = λ x h. absurd (omega (arith, h));
  active-subjects = λ x h. absurd (omega (arith, h));
  inactive-order = onil;
  active-order = onil;
  last-gap = λ h. not-both (sym h);
  walks = λ e h. absurd (none-some e h);
}

pub fresh-sound : (n : ℕ) → Sound (fresh n) (λ x. false)
fresh-sound n = record { facts = fresh-facts n; top = λ x t. absurd t; good = gnil (λ x i t. absurd t) }
