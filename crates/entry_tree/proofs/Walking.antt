-- A walk over a tree: where it starts, where it goes on, and the byte that holds it.
use Prim.Native.Nat.{ℕ, zero, suc, ◌<◌, ◌≤◌}
use mathlib.Core.Path.{◌≡◌, refl, sym, ap, ◌∙◌, subst}
use mathlib.Core.Logic.{◌≢◌}
use mathlib.Core.List.{List, [], ◌∷◌}
use Rattle.std.specs.Prelude.{Option, None, Some, position}
use mathlib.Core.Bool.{Bool, cond}
use native.Mathlib.Omega.{arith}
use native.Mathlib.Nat.{not-suc-le-zero}
use native.Mathlib.Decide.{dec_lt}
use lib.Dec.{eqb, ltb}
use lib.ListN.{get_or}
use borrow.Author.Tests.{lt-ltb, le-ltb, eqb-true, eqb-false, eq-eqb, ne_eqb}
use Rattle.state.proofs.Tests.{by_cond}
use Rattle.entry_tree.specs.Pairs.{Pair, count, is_entry, on_subject, find, place_of, without}
use Rattle.entry_tree.specs.Places.{entry_at, read}
use Rattle.entry_tree.specs.Walks.{first, first_on, next_on, moved_past, walk_of, walk_over}
use Rattle.entry_tree.specs.Inner.{with_walk, with_walk_past}
use Rattle.entry_tree.proofs.Lists.{none as no-pair, First, first_of, not-placed}
use Rattle.entry_tree.proofs.Reading.{read_length, read_at}
use Rattle.entry_tree.proofs.Changes.{without-count-other}
use Rattle.entry_tree.proofs.Finding.{place_in}
use Rattle.entry_tree.proofs.Count.{same, diff, compare_eq, any_false, count-self, not_there}

-- ---- starting

-- the first entry on a subject, by its place
first-at : (x : ℕ) (l : List Pair) (i : ℕ) → First (on_subject x) l i → first_on x l ≡ Some (get_or l i no-pair).entry
first-at x [] i f = absurd (not-suc-le-zero f.within)
first-at x (p ∷ l) zero f = rw f.here
first-at x (p ∷ l) (suc i) f =
    rw (f.before 0 (omega arith)) (first-at x l i (record { within = omega (arith, f.within); here = f.here; before = λ k h. f.before (suc k) (omega arith) }))

first-none : (x : ℕ) (l : List Pair) → count (on_subject x) l ≡ 0 → first_on x l ≡ None
first-none x [] z = refl
first-none x (p ∷ l) z = elim (compare_eq x p.subject) [ same q t ↦ absurd (omega (arith, rw t at z)) | diff n t ↦ rw t (first-none x l (omega (arith, rw t at z))) ]

module _ (t : List ℕ) (x : ℕ) where
  pub start-at : (i : ℕ) → position (on_subject x) (read t) ≡ Some i → Some (entry_at t i) ≡ first_on x (read t)
  start-at i q =
      let f = first_of (on_subject x) (read t) i q in
      sym (first-at x (read t) i f ∙ ap (λ (p : Pair). Some p.entry) (read_at t i (omega (arith, f.within, read_length t))))

  pub start_none : position (on_subject x) (read t) ≡ None → None ≡ first_on x (read t)
  start_none q = sym (first-none x (read t) (any_false (on_subject x) (read t) (not-placed (on_subject x) (read t) q)))

pub ruleset starts = (start-at, start_none, place_in)

-- ---- going on

-- whom it points at then
pub some_is : (a b : ℕ) → ◌≡◌ {A = Option ℕ} (Some a) (Some b) → a ≡ b
some_is a b q = cc

pub none-some : (a : ℕ) → ◌≡◌ {A = Option ℕ} None (Some a) → ⊥
none-some a q = let z : ◌≡◌ {A = ℕ} 0 1 = cc in omega arith

pub first_entry : (x : ℕ) (l : List Pair) → first l ≡ Some x → 0 < count (is_entry x) l
first_entry x [] q = absurd (none-some x q)
first_entry x (p ∷ l) q = subst (λ (z : ℕ). 0 < count (is_entry z) (p ∷ l)) (some_is p.entry x q) (count-self p l)

pub next_in : (s x : ℕ) (r : List Pair) → next_on s r ≡ Some x → 0 < count (is_entry x) r
next_in s x [] = λ q. absurd (none-some x q)
next_in s x (p ∷ r) =
    by_cond (λ (o : Option ℕ). o ≡ Some x → 0 < count (is_entry x) (p ∷ r)) (ltb s p.subject) (λ t q. absurd (none-some x q))
    (λ t q. subst (λ (z : ℕ). 0 < count (is_entry z) (p ∷ r)) (some_is p.entry x q) (count-self p r))

pub first-in : (s x : ℕ) (l : List Pair) → first_on s l ≡ Some x → 0 < count (is_entry x) l
first-in s x [] = λ q. absurd (none-some x q)
first-in s x (p ∷ l) =
    by_cond (λ (o : Option ℕ). o ≡ Some x → 0 < count (is_entry x) (p ∷ l)) (eqb s p.subject)
    (λ t q. subst (λ (z : ℕ). 0 < count (is_entry z) (p ∷ l)) (some_is p.entry x q) (count-self p l))
    (λ t q. omega (arith, first-in s x l q))

-- ---- the pairs after an entry's place

pub find-after : (e from : ℕ) (l : List Pair) → count (is_entry e) l ≤ 1 → count (is_entry e) (find e from l).rest ≡ 0
find-after e from [] u = refl
find-after e from (p ∷ l) u =
    elim (compare_eq e p.entry) [
      | same q t ↦ rw t (omega (arith, rw t at u))
      | diff n t ↦ rw t (find-after e (suc p.subject) l (omega (arith, rw t at u)))
    ]

pub find-rest : (x e from : ℕ) (l : List Pair) → count (is_entry x) (find e from l).rest ≤ count (is_entry x) l
find-rest x e from [] = omega arith
find-rest x e from (p ∷ l) = elim (compare_eq e p.entry) [ same q t ↦ rw t (omega arith) | diff n t ↦ rw t (omega (arith, find-rest x e (suc p.subject) l)) ]

-- the entry e leaves, and a walk that points at it goes on to a later one: it points at one that stays
pub past_in : (e : ℕ) (next : Option ℕ) (l : List Pair) → count (is_entry e) l ≤ 1 → ((y : ℕ) → next ≡ Some y → 0 < count (is_entry y) (place_of e l).rest)
    → (o : Option ℕ) → ((y : ℕ) → o ≡ Some y → 0 < count (is_entry y) l) → (y : ℕ) → moved_past e next o ≡ Some y → 0 < count (is_entry y) (without e l)
past_in e next l u n None w y = λ h. absurd (none-some y h)
past_in e next l u n (Some v) w y =
    elim (compare_eq v e) [
      | same r t ↦ rw t (λ h.
          let j = n y h in
          rw (without-count-other e y (not_there e y (place_of e l).rest (find-after e 0 l u) j) l) (omega (arith, j, find-rest y e 0 l)))
      | diff d t ↦ rw t (λ h.
          let r = some_is v y h in
          rw (without-count-other e y (λ z. d (r ∙ z)) l) (w y h))
    ]

-- ---- the walk's byte

pub walk_at_lem : (v e : ℕ) → v ≡ e → e < 128 → walk_of v ≡ Some e
walk_at_lem v e q l = ap (λ (b : Bool). cond b (Some v) None) (lt-ltb v 128 (omega arith)) ∙ ap Some q

pub walk_nowhere : (v : ℕ) → 127 < v → walk_of v ≡ None
walk_nowhere v l = ap (λ (b : Bool). cond b (Some v) None) (le-ltb v 128 l)

pub walk-back : (w : Option ℕ) (v : ℕ) → ((e : ℕ) → w ≡ Some e → e < 128) → walk_of (walk_over w v) ≡ w
walk-back None v h = elim (dec_lt v 128) [ yes l ↦ rw (lt-ltb v 128 l) refl | no l ↦ rw (le-ltb v 128 (omega arith)) (walk_nowhere v (omega arith)) ]
walk-back (Some e) v h = walk_at_lem e e refl (h e refl)

pub walk-byte : (w : Option ℕ) (v : ℕ) → ((e : ℕ) → w ≡ Some e → e < 128) → v < 256 → walk_over w v < 256
walk-byte None v g h = elim (dec_lt v 128) [ yes l ↦ rw (lt-ltb v 128 l) (omega arith) | no l ↦ rw (le-ltb v 128 (omega arith)) h ]
walk-byte (Some e) v g h = omega (arith, g e refl)

-- a byte says what it says
pub walk_same : (v : ℕ) → v ≡ walk_over (walk_of v) v
walk_same v = elim (dec_lt v 128) [ yes l ↦ rw (lt-ltb v 128 l) refl | no l ↦ rw (le-ltb v 128 (omega arith)) (sym (ap (λ (b : Bool). cond b 255 v) (le-ltb v 128 (omega arith)))) ]

-- ---- stores

module _ (i : ℕ) (s : List ℕ) where
  pub walk-past : (e : ℕ) (w : Option ℕ) → get_or s i 0 ≡ e → with_walk i s w ≡ with_walk_past i s e w
  walk-past e w q = rw (eq-eqb (get_or s i 0) e q)

  pub walk-stays : (e : ℕ) (w : Option ℕ) → get_or s i 0 ≢ e → s ≡ with_walk_past i s e w
  walk-stays e w q = rw (ne_eqb (get_or s i 0) e q)

-- the byte v, and the removed entry e
pub past-here : (v e : ℕ) (next : Option ℕ) → v ≡ e → e < 128 → moved_past e next (walk_of v) ≡ next
past-here v e next q l = rw (lt-ltb v 128 (omega arith), eq-eqb v e q)

pub past-other : (v e : ℕ) (next : Option ℕ) → v ≢ e → moved_past e next (walk_of v) ≡ walk_of v
past-other v e next q = by_cond (λ (o : Option ℕ). moved_past e next o ≡ o) (ltb v 128) {a = Some v} {b = None} (λ t. rw (ne_eqb v e q)) (λ t. refl)

-- the byte after the entry e left
pub past-over : (v e : ℕ) (next : Option ℕ) → e < 128 → cond (eqb v e) (walk_over next v) v ≡ walk_over (moved_past e next (walk_of v)) v
past-over v e next l =
    by_cond (λ (z : ℕ). z ≡ walk_over (moved_past e next (walk_of v)) v) (eqb v e) {a = walk_over next v} {b = v}
    (λ t. sym (ap (λ (o : Option ℕ). walk_over o v) (past-here v e next (eqb-true v e t) l)))
    (λ t. walk_same v ∙ sym (ap (λ (o : Option ℕ). walk_over o v) (past-other v e next (eqb-false v e t))))
