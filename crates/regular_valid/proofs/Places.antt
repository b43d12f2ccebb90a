-- The place of an entry, the order of pairs, and the walk.
use Prim.Native.Nat.{ℕ, suc, ◌≤◌, ◌<◌}
use mathlib.Core.Path.{◌≡◌, refl, sym, subst}
use mathlib.Core.Bool.{Bool, true, false, cond, ◌&&◌}
use mathlib.Core.List.{List, [], ◌∷◌}
use native.Mathlib.Omega.{arith}
use Rattle.multi_cycle_list.specs.Lists as lists
use Rattle.entry_tree.specs.Pairs.{Pair, count, is_entry, on_subject, without, inserted, find, place_of, past}
use Rattle.regular.specs.Registry.{Registry}
use Rattle.entry_tree.proofs.Count.{same, diff, below, above, compare_eq, compare_le, eqb-self, both-le, count-subject, count-off}
use Rattle.regular_valid.proofs.Facts.{Facts, Ordered, onil, ocons}
use Rattle.regular_valid.proofs.Queue.{count-first}
use Rattle.regular_valid.proofs.Good.{Good, gnil, gcons, find-from}

-- ---- a place

-- the place's subject is one of the list, where b says whether the first pair is the entry's
abbrev place_on : ℕ → ℕ → Pair → List Pair → Bool → Type 0
place_on e from p l b = 0 < count (on_subject (cond b (record { from = from; subject = p.subject; rest = l }) (find e (suc p.subject) l)).subject) (p ∷ l)

-- its subject is one of the list
pub find-on : (e from : ℕ) (l : List Pair) → 0 < count (is_entry e) l → 0 < count (on_subject (find e from l).subject) l
find-on e from [] m = absurd (omega (arith, m))
find-on e from (p ∷ l) m =
    elim (compare_eq e p.entry) [
      | same q t ↦ let z : place_on e from p l true = rw (eqb-self p.subject) (omega arith) in subst (place_on e from p l) (sym t) z
      | diff n t ↦
          let z : place_on e from p l false = omega (arith, find-on e (suc p.subject) l (omega (arith, rw t at m))) in
          subst (place_on e from p l) (sym t) z
    ]

-- it is that of the pair that is there
pub find-is : (p : Pair) (from : ℕ) (l : List Pair) → count (is_entry p.entry) l ≤ 1 → 0 < count (λ q. is_entry p.entry q && on_subject p.subject q) l → (find p.entry from l).subject ≡ p.subject
find-is p from [] u m = absurd (omega (arith, m))
find-is p from (q ∷ l) u m =
    elim (compare_eq p.entry q.entry) [
      | same r t ↦ elim (compare_eq p.subject q.subject) [
        | same w y ↦ rw t (sym w)
        | diff d y ↦ absurd (omega (arith, rw (t, y) at m, rw t at u, both-le (is_entry p.entry) (on_subject p.subject) l))
      ]
      | diff n t ↦ rw t (find-is p (suc q.subject) l (omega (arith, rw t at u)) (omega (arith, rw t at m)))
    ]

-- a marked entry's subject is above the first past the pair before
pub find-low : (e : ℕ) {M : ℕ → ℕ} {from : ℕ} {l : List Pair} → Ordered M from l → 0 < count (is_entry e) l → 0 < M e → (find e from l).from < (find e from l).subject
find-low e onil h k = absurd (omega (arith, h))
find-low e (ocons {p = p} i low o) h k =
    elim (compare_eq e p.entry) [
      | same q t ↦ rw t (low (rw q at k))
      | diff n t ↦ rw t (find-low e o (omega (arith, rw t at h)) k)
    ]

-- a head that is the last of the list
pub last_head : (e : ℕ) {M : ℕ → ℕ} {f : Bool} {F : ℕ → Bool} {from : ℕ} {l : List Pair} → Good M f F from l → 0 < count (is_entry e) l → (find e from l).rest ≡ [] → (find e from l).from ≤ (find e from l).subject
    → (x : ℕ) → (find e from l).subject ≤ x → count (on_subject x) (without e l) ≡ 0
last_head e (gnil g) m = λ q h x i. refl
last_head e (gcons {p = p} {l = l} k g) m = elim (compare_eq e p.entry) [
  | same y t ↦ rw t (λ q h x i. rw q refl)
  | diff n t ↦ rw t (λ q h x i. count-off x p (without e l) (omega (arith, find-from e g)) (last_head e g (omega (arith, rw t at m)) q h x i))
]

-- ---- pairs in order

from_less : {from : ℕ} {l : List Pair} (x : ℕ) → x ≤ from → Ordered (λ e. 0) from l → Ordered (λ e. 0) x l
from_less x h onil = onil
from_less x h (ocons {p = p} i k o) = ocons {from = x} {p = p} (omega arith) (λ n. absurd (omega (arith, n))) o

pub inserted-order : (p : Pair) {from : ℕ} {l : List Pair} → from ≤ suc p.subject → Ordered (λ e. 0) from l → Ordered (λ e. 0) from (inserted p l)
inserted-order p h (onil {from = from}) = ocons {from = from} {p = p} h (λ n. absurd (omega (arith, n))) onil
inserted-order p h (ocons {from = from} {p = q} i k o) = elim (compare_le q.subject p.subject) [
  | below j t ↦ rw t (ocons {from = from} {p = q} i k (inserted-order p (omega arith) o))
  | above j t ↦ rw t (ocons {from = from} {p = p} h (λ n. absurd (omega (arith, n))) (ocons {from = suc p.subject} {p = q} (omega arith) (λ n. absurd (omega (arith, n))) o))
]

pub without-order : (e : ℕ) {from : ℕ} {l : List Pair} → Ordered (λ e. 0) from l → Ordered (λ e. 0) from (without e l)
without-order e onil = onil
without-order e (ocons {from = from} {p = p} i k o) = elim (compare_eq e p.entry) [
  | same q t ↦ rw t (from_less from i (without-order e o))
  | diff n t ↦ rw t (ocons {from = from} {p = p} i k (without-order e o))
]

pub past-le : (from n : ℕ) (l : List Pair) → from ≤ n → ((x : ℕ) → 0 < count (on_subject x) l → x ≤ n) → count (on_subject n) l ≡ 0 → past from l ≤ n
past-le from n [] h top z = h
past-le from n (p ∷ l) h top z =
    let i : p.subject ≤ n = top p.subject (count-subject p l) in
    elim (compare_eq n p.subject) [
      | same q t ↦ absurd (omega (arith, rw t at z))
      | diff d t ↦ past-le (suc p.subject) n l (omega arith) (λ x k. top x (omega arith)) (omega arith)
    ]

-- ---- the ranges of what a poll hands out

module _ (m : Registry) (f : Facts m) (e : ℕ) (q : List ℕ) where
  pub mark-range : m.clean_up ≡ e ∷ q → ((place_of e m.active).from < (place_of e m.active).subject) × ((place_of e m.active).subject ≤ 8191)
  mark-range c =
      let k : lists.count e (e ∷ q) ≤ count (is_entry e) m.active = rw c at (f.marked e) in
      let n = count-first e q in
      (find-low e f.active-order (omega arith) (rw c (omega arith)), f.active-subjects (place_of e m.active).subject (find-on e 0 m.active (omega arith)))

  pub next-on : m.activation ≡ e ∷ q → 0 < count (on_subject (place_of e m.inactive).subject) m.inactive
  next-on a =
      let w : lists.count e (e ∷ q) ≡ count (is_entry e) m.inactive = rw a at (f.waits e) in
      find-on e 0 m.inactive (omega (arith, count-first e q))
