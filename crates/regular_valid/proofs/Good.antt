-- The active list with its marks, the last-gap flag and the filter: what holds of them between calls, and what each change does to it.
use Prim.Native.Nat.{ℕ, suc, ◌+◌, ◌-◌, ◌≤◌, ◌<◌}
use mathlib.Core.Path.{◌≡◌, refl, sym, ap}
use mathlib.Core.Logic.{◌≢◌, ◌⊎◌, inl, inr}
use mathlib.Core.Bool.{Bool, true, false, cond, not, ◌&&◌}
use mathlib.Core.List.{List, [], ◌∷◌, ◌++◌}
use native.Mathlib.Omega.{arith}
use lib.Dec.{T, leb}
use borrow.Author.Tests.{le-leb}
use Rattle.state.specs.Seq.{to_nat}
use Rattle.multi_cycle_list.specs.Lists as lists
use Rattle.entry_tree.specs.Pairs.{Pair, pair, Place, count, is_entry, on_subject, without, inserted, find, past}
use Rattle.entry_tree.proofs.Changes.{without-none}
use Rattle.entry_tree.proofs.Walking.{find-rest}
use Rattle.regular.specs.Steps.{new_mark, head_gaps, is_head, gaps}
use Rattle.regular.specs.declared.FilterUpdate.TheVariants.{AddSubject, RemoveSubjectRange}
use Rattle.regular_valid.specs.Inner.{into}
use Rattle.entry_tree.proofs.Count.{same, diff, below, above, compare_eq, compare_le, eqb-self, count-self, count-subject, first-only, count-off, not_there}
use Rattle.multi_cycle_list.proofs.Lists.{count-append, count_kept}
use Rattle.regular_valid.proofs.Queue.{count_maybe, count_maybe_other}
use Rattle.regular_valid.proofs.Facts.{Ordered, onil, ocons}

-- `M` says how often an entry is marked, `f` is the last-gap flag, `F` the filter, and `from` the first subject past the pair before.
-- A subject in the filter that is not active is due: it lies in a marked head's gap, or in the last gap with the flag set.
pub record Here (M : ℕ → ℕ) (F : ℕ → Bool) (from : ℕ) (p : Pair) : Type 0 where
  pub order : from ≤ suc p.subject
  pub gap : (x : ℕ) → from ≤ x → x < p.subject → T (F x) → 0 < M p.entry
  pub low : 0 < M p.entry → from < p.subject
  pub held : T (F p.subject)

pub data Good (M : ℕ → ℕ) (f : Bool) (F : ℕ → Bool) : ℕ → List Pair → Type 0 where
  gnil : {from : ℕ} → ((x : ℕ) → from ≤ x → T (F x) → T f) → Good M f F from []
  gcons : {from : ℕ} {p : Pair} {l : List Pair} → Here M F from p → Good M f F (suc p.subject) l → Good M f F from (p ∷ l)

-- what carries the invariant of a list over to other marks, another flag, another filter
pub carry : {M M' : ℕ → ℕ} {f f' : Bool} {F F' : ℕ → Bool} {from : ℕ} {l : List Pair} → Good M f F from l
    → ((x : ℕ) → from ≤ x → T (F' x) → T (F x)) → ((s : ℕ) → from ≤ suc s → T (F s) → T (F' s)) → (T f → T f')
    → ((x : ℕ) → 0 < count (is_entry x) l → 0 < M x → 0 < M' x) → ((x : ℕ) → 0 < count (is_entry x) l → 0 < M' x → 0 < M x)
    → Good M' f' F' from l
carry (gnil g) sub keep flag up dn = gnil (λ x a t. flag (g x a (sub x a t)))
carry (gcons {p = p} {l = l} h g) sub keep flag up dn = gcons
    (record {
      order = h.order;
      gap = λ x a b t. up p.entry (count-self p l) (h.gap x a b (sub x a t));
      low = λ m. h.low (dn p.entry (count-self p l) m);
      held = keep p.subject h.order h.held;
    })
    (carry g (λ x k. sub x (omega (arith, h.order))) (λ s k. keep s (omega (arith, h.order))) flag (λ x k. up x (omega arith)) (λ x k. dn x (omega arith)))

-- ---- the front of the clean-up queue is handed out
pub and_right : (a b : Bool) → T (a && b) → T b
and_right true b t = t
and_right false b t = absurd t

pub into-sub : (a b : ℕ) (F : ℕ → Bool) (x : ℕ) → T (into (RemoveSubjectRange a b) F x) → T (F x)
into-sub a b F x t = and_right (not (leb a x && leb x b)) (F x) t

pub into-out : (a b : ℕ) (F : ℕ → Bool) (x : ℕ) → a ≤ x → x ≤ b → T (into (RemoveSubjectRange a b) F x) → ⊥
into-out a b F x h k t = rw (le-leb a x h, le-leb x b k) at t

pub into-keep : (a b : ℕ) (F : ℕ → Bool) (x : ℕ) → (a ≤ x → x ≤ b → ⊥) → T (F x) → T (into (RemoveSubjectRange a b) F x)
into-keep a b F x h t = elim (compare_le a x) [
  | above k q ↦ rw q t
  | below k q ↦ elim (compare_le x b) [ above j r ↦ rw (q, r) t | below j r ↦ absurd (h k j) ]
]

pub find-from : (e : ℕ) {M : ℕ → ℕ} {f : Bool} {F : ℕ → Bool} {from : ℕ} {l : List Pair} → Good M f F from l → from ≤ (find e from l).from
find-from e (gnil g) = omega arith
find-from e (gcons {p = p} {l = l} h g) = elim (compare_eq e p.entry) [
  | same q t ↦ rw t (omega arith)
  | diff n t ↦ rw t (omega (arith, h.order, find-from e g))
]

pub front-good : (e : ℕ) {M M' : ℕ → ℕ} {f : Bool} {F : ℕ → Bool} {from : ℕ} {l : List Pair} → Good M f F from l → count (is_entry e) l ≤ 1 → 0 < count (is_entry e) l → 0 < M e
    → ((x : ℕ) → M' x ≤ M x) → ((x : ℕ) → x ≢ e → M x ≤ M' x)
    → Good M' f (into (RemoveSubjectRange (find e from l).from ((find e from l).subject - 1)) F) from l
front-good e (gnil g) u m k dn up = absurd (omega (arith, m))
front-good e {M} {M'} {F = F} (gcons {from = from} {p = p} {l = l} h g) u m k dn up = elim (compare_eq e p.entry) [
  | same q t ↦ rw t (
      let b : from < p.subject = h.low (rw q at k) in
      let z : count (is_entry e) l ≡ 0 = omega (arith, rw t at u) in gcons {from = from} {p = p}
      (record {
        order = h.order;
        gap = λ x i j y. absurd (into-out from (p.subject - 1) F x i (omega arith) y);
        low = λ y. b;
        held = into-keep from (p.subject - 1) F p.subject (λ i j. omega arith) h.held;
      })
      (carry g (λ x y. into-sub from (p.subject - 1) F x) (λ s i. into-keep from (p.subject - 1) F s (λ i' j. omega arith)) (λ y. y)
      (λ x i y. omega (arith, up x (λ r. omega (arith, rw r at i)))) (λ x i y. omega (arith, dn x))))
  | diff n t ↦ rw t (
      let a = (find e (suc p.subject) l).from in
      let b = (find e (suc p.subject) l).subject - 1 in
      let later : suc p.subject ≤ a = find-from e g in gcons {from = from} {p = p}
      (record {
        order = h.order;
        gap = λ x i j y. omega (arith, h.gap x i j (into-sub a b F x y), up p.entry (λ r. n (sym r)));
        low = λ y. h.low (omega (arith, dn p.entry));
        held = into-keep a b F p.subject (λ i j. omega arith) h.held;
      })
      (front-good e g (omega (arith, rw t at u)) (omega (arith, rw t at m)) k dn up))
]

-- no active subject is covered
-- every subject is at or above where the list starts
pub above-all : {M : ℕ → ℕ} {f : Bool} {F : ℕ → Bool} {from : ℕ} {l : List Pair} → Good M f F from l → (x : ℕ) → suc x < from → count (on_subject x) l ≡ 0
above-all (gnil g) x a = refl
above-all (gcons {p = p} {l = l} h g) x a = count-off x p l (omega (arith, h.order)) (above-all g x (omega (arith, h.order)))

pub front-clear : (e : ℕ) {M : ℕ → ℕ} {f : Bool} {F : ℕ → Bool} {from : ℕ} {l : List Pair} → Good M f F from l → 0 < M e
    → (x : ℕ) → (find e from l).from ≤ x → x ≤ (find e from l).subject - 1 → count (on_subject x) l ≡ 0
front-clear e (gnil g) k x = λ a b. refl
front-clear e (gcons {from = from} {p = p} {l = l} h g) k x = elim (compare_eq e p.entry) [
  | same q t ↦ rw t (λ a b.
      let i : from < p.subject = h.low (rw q at k) in
      count-off x p l (omega arith) (above-all g x (omega arith)))
  | diff n t ↦ rw t (λ a b.
      count-off x p l (omega (arith, find-from e g)) (front-clear e g k x a b))
]

-- the last gap
pub past-clear : {M : ℕ → ℕ} {f : Bool} {F : ℕ → Bool} {from : ℕ} {l : List Pair} → Good M f F from l → (x : ℕ) → past from l ≤ x → (from ≤ x) × (count (on_subject x) l ≡ 0)
past-clear (gnil g) x a = (a, refl)
past-clear (gcons {p = p} {l = l} h g) x a = let r = past-clear g x a in (omega (arith, h.order, r.0), count-off x p l (omega (arith, r.0)) r.1)

pub last-good : {M : ℕ → ℕ} {f f' : Bool} {F : ℕ → Bool} {from : ℕ} {l : List Pair} (b : ℕ) → ((x : ℕ) → T (F x) → x ≤ b) → Good M f F from l
    → Good M f' (into (RemoveSubjectRange (past from l) b) F) from l
last-good {F = F} b top (gnil {from = from} g) = gnil (λ x a t. absurd (into-out from b F x a (top x (into-sub from b F x t)) t))
last-good {F = F} b top (gcons {from = from} {p = p} {l = l} h g) =
    let a = past (suc p.subject) l in gcons {from = from} {p = p}
    (record {
      order = h.order;
      gap = λ x i j t. h.gap x i j (into-sub a b F x t);
      low = h.low;
      held = into-keep a b F p.subject (λ i j. omega (arith, (past-clear g p.subject i).0)) h.held;
    })
    (last-good b top g)

-- ---- an active entry is removed

pub record Mark (b : Bool) (oe s t oq : ℕ) : Type 0 where
  pub by-mark : 0 < oe → 0 < oq + to_nat b
  pub by_head : s < t → 0 < oq + to_nat b
  pub only : 0 < to_nat b → oe ≡ 0 → s < t
  pub once : 0 < oq → to_nat b ≡ 0
  pub most : to_nat b ≤ 1

pub mark : (e s : ℕ) (q : Pair) (ms : List ℕ) → Mark (new_mark e s q ms) (lists.count e ms) s q.subject (lists.count q.entry ms)
mark e s q ms = elim (compare_le 1 (lists.count e ms)) [
  | below i1 t1 ↦ elim (compare_le 1 (lists.count q.entry ms)) [ below i2 t2 ↦ rw (t1, t2) (omega arith) | above i2 t2 ↦ rw (t1, t2) (omega arith) ]
  | above i1 t1 ↦ elim (compare_le (suc s) q.subject) [
    | below i3 t3 ↦ elim (compare_le 1 (lists.count q.entry ms)) [ below i2 t2 ↦ rw (t1, t3, t2) (omega arith) | above i2 t2 ↦ rw (t1, t3, t2) (omega arith) ]
    | above i3 t3 ↦ rw (t1, t3) (omega arith)
  ]
]

abbrev place : ℕ → ℕ → List Pair → Place
place from x l = record { from = from; subject = x; rest = l }

-- marks elsewhere stay
gaps-keep : (x e : ℕ) (d : Place) (ms : List ℕ) (f : Bool) → x ≢ e → count (is_entry x) d.rest ≡ 0 → lists.count x (gaps e d ms f).clean_up ≡ lists.count x ms
gaps-keep x e d ms f n z = go (is_head d) d.rest z
  where
    go : (t : Bool) (l : List Pair) → count (is_entry x) l ≡ 0 → lists.count x (cond t (head_gaps e d.subject l ms f) (record { clean_up = ms; last_gap = f; more = 0 })).clean_up ≡ lists.count x ms
    go true [] z = count_kept x e ms n
    go true (q ∷ l) z =
        let ne : x ≢ q.entry = λ w. not_there x q.entry (q ∷ l) z (count-self q l) (sym w) in
        rw (count-append, count_kept x e ms n, count_maybe_other x q.entry (new_mark e d.subject q ms) ne) (omega arith)
    go false l z = refl

without_at : (e : ℕ) (ms : List ℕ) {f : Bool} {F : ℕ → Bool} {from : ℕ} {p : Pair} {l : List Pair} → Here (λ x. lists.count x ms) F from p → Good (λ x. lists.count x ms) f F (suc p.subject) l
    → e ≡ p.entry → count (is_entry e) l ≡ 0 → ((x : ℕ) → count (is_entry x) l ≤ 1)
    → Good (λ x. lists.count x (gaps e (place from p.subject l) ms f).clean_up) (gaps e (place from p.subject l) ms f).last_gap F from l
without_at e ms {from = from} {p = p} h (gnil g) q z u = elim (compare_le from p.subject) [
  | below i t ↦ rw t (gnil (λ x a y. tt))
  | above i t ↦ rw t (gnil {from = from} (λ x a y. g x (omega arith) y))
]
without_at e ms {from = from} {p = p} h (gcons {p = n} {l = r} k g) q z u = elim (compare_le from p.subject) [
  | above i t ↦ rw t (gcons {from = from} {p = n} (record { order = omega (arith, h.order, k.order); gap = λ x a b y. k.gap x (omega arith) b y; low = λ y. omega (arith, h.order, k.low y); held = k.held }) g)
  | below i t ↦ rw t (
      let b = new_mark e p.subject n ms in
      let mk = mark e p.subject n ms in
      let ne : n.entry ≢ e = not_there e n.entry (n ∷ r) z (count-self n r) in
      let at_n : lists.count n.entry (lists.without e ms ++ cond b (n.entry ∷ []) []) ≡ lists.count n.entry ms + to_nat b = rw (count-append, count_kept n.entry e ms ne, count_maybe) in
      let others : (x : ℕ) → 0 < count (is_entry x) r → lists.count x (lists.without e ms ++ cond b (n.entry ∷ []) []) ≡ lists.count x ms
      = λ x a. rw (count-append, count_kept x e ms (not_there e x (n ∷ r) z (omega arith)), count_maybe_other x n.entry b (not_there n.entry x r (first-only n r (u n.entry)) a)) (omega arith) in
      gcons {from = from} {p = n}
      (record {
        order = omega (arith, h.order, k.order);
        gap = λ x a c y. elim (compare_le (suc p.subject) n.subject) [
          | below j v ↦ omega (arith, at_n, mk.by_head j)
          | above j v ↦ omega (arith, at_n, mk.by-mark (rw q (h.gap x a (omega arith) y)))
        ];
        low = λ y. elim (compare_le 1 (lists.count n.entry ms)) [
          | below j v ↦ omega (arith, h.order, k.low j)
          | above j v ↦ elim (compare_le 1 (lists.count e ms)) [
            | below j' v' ↦ omega (arith, k.order, h.low (rw q at j'))
            | above j' v' ↦ omega (arith, mk.only (omega (arith, at_n, y)) (omega arith))
          ]
        ];
        held = k.held;
      })
      (carry g (λ x y w. w) (λ x y w. w) (λ y. y) (λ x a y. omega (arith, others x a)) (λ x a y. omega (arith, others x a))))
]

pub without-good : (e : ℕ) (ms : List ℕ) {f : Bool} {F : ℕ → Bool} {from : ℕ} {l : List Pair} → Good (λ x. lists.count x ms) f F from l
    → ((x : ℕ) → count (is_entry x) l ≤ 1) → 0 < count (is_entry e) l
    → Good (λ x. lists.count x (gaps e (find e from l) ms f).clean_up) (gaps e (find e from l) ms f).last_gap F from (without e l)
without-good e ms (gnil g) u m = absurd (omega (arith, m))
without-good e ms {f} {F} (gcons {from = from} {p = p} {l = l} h g) u m = elim (compare_eq e p.entry) [
  | same q t ↦ rw t (
      let z : count (is_entry e) l ≡ 0 = omega (arith, rw t at (u e)) in
      rw (without-none e l z) (without_at e ms {p = p} h g q z (λ x. omega (arith, u x))))
  | diff n t ↦ rw t (
      let keep : lists.count p.entry (gaps e (find e (suc p.subject) l) ms f).clean_up ≡ lists.count p.entry ms
      = gaps-keep p.entry e (find e (suc p.subject) l) ms f (λ w. n (sym w)) (omega (arith, find-rest p.entry e (suc p.subject) l, first-only p l (u p.entry))) in
      gcons {from = from} {p = p}
      (record { order = h.order; gap = λ x a b y. omega (arith, h.gap x a b y, keep); low = λ y. h.low (omega (arith, keep)); held = h.held })
      (without-good e ms g (λ x. omega (arith, u x)) (omega (arith, rw t at m))))
]

-- ---- joining the active list

-- a subject that is there
pub inserted_same : (e s : ℕ) {M : ℕ → ℕ} {f : Bool} {F : ℕ → Bool} {from : ℕ} {l : List Pair} → Good M f F from l → M e ≡ 0 → T (F s)
    → (from ≡ suc s) ⊎ (0 < count (on_subject s) l) → Good M f F from (inserted (pair e s) l)
inserted_same e s (gnil {from = from} g) z v (inl r) = gcons {from = from} {p = (pair e s)}
    (record { order = omega arith; gap = λ x a b y. absurd (omega arith); low = λ y. absurd (omega arith); held = v })
    (gnil {from = suc s} (λ x a y. g x (omega arith) y))
inserted_same e s (gnil g) z v (inr r) = absurd (omega (arith, r))
inserted_same e s (gcons {from = from} {p = q} {l = l} h g) z v c = elim (compare_le q.subject s) [
  | below i t ↦ rw t (gcons {from = from} {p = q} h (inserted_same e s g z v (next i c)))
  | above i t ↦ rw t (
      let r : from ≡ suc s = here i c in gcons {from = from} {p = (pair e s)}
      (record { order = omega arith; gap = λ x a b y. absurd (omega arith); low = λ y. absurd (omega arith); held = v })
      (gcons {from = suc s} {p = q} (record { order = omega (arith, h.order); gap = λ x a b y. h.gap x (omega arith) b y; low = λ y. omega (arith, h.low y); held = h.held }) g))
]
  where
    next : q.subject ≤ s → (from ≡ suc s) ⊎ (0 < count (on_subject s) (q ∷ l)) → (suc q.subject ≡ suc s) ⊎ (0 < count (on_subject s) l)
    next i c = elim (compare_eq s q.subject) [ same w t ↦ inl (ap suc (sym w)) | diff n t ↦ elim c [ inl r ↦ absurd (n (omega (arith, h.order))) | inr r ↦ inr (omega (arith, rw t at r)) ] ]

    here : s < q.subject → (from ≡ suc s) ⊎ (0 < count (on_subject s) (q ∷ l)) → from ≡ suc s
    here i (inl r) = r
    here i (inr r) = absurd (omega (arith, r, count-off s q l (omega arith) (above-all g s (omega arith))))

added_in : (s : ℕ) (F : ℕ → Bool) → T (into (AddSubject s) F s)
added_in s F = rw (eqb-self s) tt

added-keep : (s : ℕ) (F : ℕ → Bool) (x : ℕ) → T (F x) → T (into (AddSubject s) F x)
added-keep s F x t = elim (compare_eq x s) [ same q r ↦ rw r tt | diff n r ↦ rw r t ]

pub added_out : (s : ℕ) (F : ℕ → Bool) (x : ℕ) → x ≢ s → T (into (AddSubject s) F x) → T (F x)
added_out s F x d t = elim (compare_eq x s) [ same q r ↦ absurd (d q) | diff n r ↦ rw r at t ]

-- a new one, with nothing to clean up
pub inserted_new : (e s : ℕ) {M : ℕ → ℕ} {F : ℕ → Bool} {from : ℕ} {l : List Pair} → ((x : ℕ) → M x ≡ 0) → Good M false F from l → from ≤ suc s → count (on_subject s) l ≡ 0
    → Good M false (into (AddSubject s) F) from (inserted (pair e s) l)
inserted_new e s {F = F} quiet (gnil {from = from} g) i z = gcons {from = from} {p = (pair e s)}
    (record { order = i; gap = λ x a b y. absurd (g x a (added_out s F x (omega arith) y)); low = λ y. absurd (omega (arith, quiet e)); held = added_in s F })
    (gnil {from = suc s} (λ x a y. g x (omega arith) (added_out s F x (omega arith) y)))
inserted_new e s {F = F} quiet (gcons {from = from} {p = q} {l = l} h g) i z = elim (compare_le q.subject s) [
  | below j t ↦ rw t (gcons {from = from} {p = q}
      (record { order = h.order; gap = λ x a b y. h.gap x a b (added_out s F x (omega arith) y); low = h.low; held = added-keep s F q.subject h.held })
      (inserted_new e s quiet g (omega arith) (omega (arith, z))))
  | above j t ↦ rw t (gcons {from = from} {p = (pair e s)}
      (record { order = i; gap = λ x a b y. absurd (omega (arith, quiet q.entry, h.gap x a (omega arith) (added_out s F x (omega arith) y))); low = λ y. absurd (omega (arith, quiet e)); held = added_in s F })
      (gcons {from = suc s} {p = q}
      (record { order = omega arith; gap = λ x a b y. h.gap x (omega arith) b (added_out s F x (omega arith) y); low = λ y. absurd (omega (arith, quiet q.entry)); held = added-keep s F q.subject h.held })
      (carry g (λ x a y. added_out s F x (omega arith) y) (λ x a y. added-keep s F x y) (λ y. y) (λ x a y. y) (λ x a y. y))))
]

-- ---- the filter and the active subjects
pub held_all : {M : ℕ → ℕ} {f : Bool} {F : ℕ → Bool} {from : ℕ} {l : List Pair} → Good M f F from l → (x : ℕ) → 0 < count (on_subject x) l → T (F x)
held_all (gnil g) x m = absurd (omega (arith, m))
held_all {F = F} (gcons {p = p} h g) x m = elim (compare_eq x p.subject) [ same q t ↦ rw q h.held | diff n t ↦ held_all g x (omega (arith, rw t at m)) ]

pub only-held : {M : ℕ → ℕ} {F : ℕ → Bool} {from : ℕ} {l : List Pair} → ((x : ℕ) → M x ≡ 0) → Good M false F from l → (x : ℕ) → from ≤ x → T (F x) → 0 < count (on_subject x) l
only-held quiet (gnil g) x a t = absurd (g x a t)
only-held quiet (gcons {p = p} h g) x a y = elim (compare_eq x p.subject) [
  | same q t ↦ rw t (omega arith)
  | diff n t ↦ rw t (elim (compare_le x p.subject) [ below j v ↦ absurd (omega (arith, quiet p.entry, h.gap x a (omega arith) y)) | above j v ↦ omega (arith, only-held quiet g x (omega arith) y) ])
]

-- ---- order, and the exact filter

pub order_of : {M : ℕ → ℕ} {f : Bool} {F : ℕ → Bool} {from : ℕ} {l : List Pair} → Good M f F from l → Ordered M from l
order_of (gnil g) = onil
order_of (gcons {from = from} {p = p} h g) = ocons {from = from} {p = p} h.order h.low (order_of g)

pub from_on : {M : ℕ → ℕ} {from : ℕ} {l : List Pair} → Ordered M from l → (x : ℕ) → suc x < from → count (on_subject x) l ≡ 0
from_on onil x a = refl
from_on (ocons {p = p} {l = l} i k o) x a = count-off x p l (omega arith) (from_on o x (omega arith))

-- a filter that holds just the active subjects
pub exact-good : {M : ℕ → ℕ} (f : Bool) (F : ℕ → Bool) {from : ℕ} {l : List Pair} → Ordered M from l
    → ((x : ℕ) → from ≤ x → T (F x) → 0 < count (on_subject x) l) → ((x : ℕ) → 0 < count (on_subject x) l → T (F x)) → Good M f F from l
exact-good f F (onil {from = from}) only all = gnil {from = from} (λ x a t. absurd (omega (arith, only x a t)))
exact-good f F (ocons {from = from} {p = p} {l = l} i k o) only all = gcons {from = from} {p = p}
    (record {
      order = i;
      gap = λ x a b t. absurd (omega (arith, only x a t, count-off x p l (omega arith) (from_on o x (omega arith))));
      low = k;
      held = all p.subject (count-subject p l);
    })
    (exact-good f F {from = suc p.subject} {l = l} o
    (λ x a t. elim (compare_eq x p.subject) [ same q r ↦ absurd (omega arith) | diff n r ↦ omega (arith, rw r at (only x (omega arith) t)) ])
    (λ x m. all x (omega arith)))
