-- Demand 3's invariant: the registry with its filter, and the two lists *waiting* and *active*.
use Prim.Native.Nat.{ℕ, suc, ◌+◌, ◌≤◌, ◌<◌}
use mathlib.Core.Path.{◌≡◌, refl, sym, ap, ◌∙◌}
use mathlib.Core.Logic.{◌≢◌}
use mathlib.Core.Bool.{Bool, false}
use mathlib.Core.List.{List, [], ◌∷◌, ◌++◌, map}
use native.Mathlib.Omega.{arith}
use lib.ListN.{length}
use Rattle.state.specs.Seq.{to_nat}
use Rattle.multi_cycle_list.specs.Lists as lists
use Rattle.multi_cycle_list.proofs.Lists.{without-same, without_other as kept-other, count-other}
use Rattle.entry_tree.specs.Pairs.{Pair, pair, count, is_entry, without, find, place_of}
use Rattle.entry_tree.proofs.Changes.{without-count, without-count-other, without-count-same, without-none}
use Rattle.regular.specs.Registry.{Registry, fresh}
use Rattle.regular_valid.specs.Moves as moves
use Rattle.regular_valid.specs.Moves.{Registered}
use Rattle.entry_tree.proofs.Count.{same, diff, compare_eq, count-self}
use Rattle.regular_valid.proofs.Queue.{count-first, count-le, count-nil}
use Rattle.regular_valid.proofs.Facts.{Facts}
use Rattle.regular_valid.proofs.Sound.{Sound, exactly, exact-sound, fresh-sound}

abbrev pub entry_of : Pair → ℕ
entry_of p = p.entry

pub record Inv (m : Registry) (F : ℕ → Bool) (g : Registered) : Type 0 where
  pub sound : Sound m F
  pub room : m.slots ≤ 65535
  -- waiting is the activation queue with its subjects; active is the active list in another order
  pub queue : map entry_of g.waiting ≡ m.activation
  pub waiting : (t : Pair → Bool) → count t g.waiting ≡ count t m.inactive
  pub active : (t : Pair → Bool) → count t g.active ≡ count t m.active

-- ---- the entries of pairs

pub entries-back : (l : List Pair) (p : Pair) → map entry_of (l ++ (p ∷ [])) ≡ map entry_of l ++ (p.entry ∷ [])
entries-back [] p = refl
entries-back (q ∷ l) p = ap (λ (k : List ℕ). q.entry ∷ k) (entries-back l p)

pub entries-without : (e : ℕ) (l : List Pair) → map entry_of (without e l) ≡ lists.without e (map entry_of l)
unfolding lists.without
entries-without e [] = refl
entries-without e (p ∷ l) =
    elim (compare_eq e p.entry) [
      | same q t ↦ rw t (entries-without e l ∙ sym (without-same e p.entry (map entry_of l) (sym q)))
      | diff n t ↦ rw t (ap (λ (k : List ℕ). p.entry ∷ k) (entries-without e l) ∙ sym (kept-other e p.entry (map entry_of l) (λ z. n (sym z))))
    ]

pub entries-length : (l : List Pair) → length (map entry_of l) ≡ length l
entries-length [] = refl
entries-length (p ∷ l) = ap suc (entries-length l)

-- ---- the activation queue with its subjects

abbrev pub with_subjects : List ℕ → List Pair → List Pair
with_subjects q l = map (λ e. pair e (place_of e l).subject) q

abbrev pub waiting : Registry → List Pair
waiting m = with_subjects m.activation m.inactive

map_same : (q : List ℕ) (f h : ℕ → Pair) → ((e : ℕ) → 0 < lists.count e q → f e ≡ h e) → map f q ≡ map h q
map_same [] f h w = refl
map_same (e ∷ q) f h w =
    ap (λ (p : Pair). p ∷ map f q) (w e (omega (arith, count-first e q))) ∙ ap (λ (l : List Pair). h e ∷ l) (map_same q f h (λ x i. w x (omega (arith, count-le x e q))))

find-same : (x e : ℕ) → x ≢ e → (a b : ℕ) (l : List Pair) → 0 < count (is_entry x) l → (find x a l).subject ≡ (find x b (without e l)).subject
find-same x e n a b [] i = absurd (omega (arith, i))
find-same x e n a b (p ∷ l) i =
    elim (compare_eq e p.entry) [
      | same q t ↦ elim (compare_eq x p.entry) [ same w y ↦ absurd (n (w ∙ sym q)) | diff d y ↦ rw (t, y) (find-same x e n (suc p.subject) b l (omega (arith, rw y at i))) ]
      | diff d t ↦ elim (compare_eq x p.entry) [ same w y ↦ rw (t, y) refl | diff d' y ↦ rw (t, y) (find-same x e n (suc p.subject) (suc p.subject) l (omega (arith, rw y at i))) ]
    ]

-- the count of a list is that of one of its pairs and of the others
count-taken : (t : Pair → Bool) (e from : ℕ) (l : List Pair) → count (is_entry e) l ≡ 1 → count t l ≡ to_nat (t (pair e (find e from l).subject)) + count t (without e l)
count-taken t e from [] u = absurd (omega (arith, u))
count-taken t e from (p ∷ l) u =
    elim (compare_eq e p.entry) [
      | same q r ↦ rw (r, without-none e l (omega (arith, rw r at u)), q) refl
      | diff n r ↦ rw r (omega (arith, count-taken t e (suc p.subject) l (omega (arith, rw r at u))))
    ]

none_in : (l : List Pair) → ((e : ℕ) → 0 ≡ count (is_entry e) l) → (t : Pair → Bool) → 0 ≡ count t l
none_in [] h t = refl
none_in (p ∷ l) h t = absurd (omega (arith, h p.entry, count-self p l))

pub waiting-count : (q : List ℕ) (l : List Pair) → ((e : ℕ) → count (is_entry e) l ≤ 1) → ((e : ℕ) → lists.count e q ≡ count (is_entry e) l) → (t : Pair → Bool) → count t (with_subjects q l) ≡ count t l
waiting-count [] l u w t = none_in l (λ e. sym (count-nil e) ∙ w e) t
waiting-count (e ∷ q) l u w t =
    let one : count (is_entry e) l ≡ 1 = omega (arith, w e, u e, count-first e q) in
    let gone : lists.count e q ≡ 0 = omega (arith, w e, count-first e q) in
    let there : (x : ℕ) → 0 < lists.count x q → x ≢ e = λ x i z. omega (arith, rw z at i) in
    let r : with_subjects q l ≡ with_subjects q (without e l)
    = map_same q (λ x. pair x (place_of x l).subject) (λ x. pair x (place_of x (without e l)).subject) (λ x i. ap (pair x) (find-same x e (there x i) 0 0 l (omega (arith, w x, count-le x e q)))) in
    let ih : count t (with_subjects q (without e l)) ≡ count t (without e l)
    = waiting-count q (without e l) (λ x. omega (arith, u x, without-count e (is_entry x) l)) (λ x. elim (compare_eq x e) [
      | same z y ↦ rw z (omega (arith, without-count-same e l))
      | diff d y ↦ omega (arith, without-count-other e x d l, w x, count-other x e q (λ z. d (sym z)))
    ]) t in
    rw r (omega (arith, ih, count-taken t e 0 l one))

entries_of : (f : ℕ → ℕ) (q : List ℕ) → map entry_of (map (λ e. pair e (f e)) q) ≡ q
entries_of f [] = refl
entries_of f (e ∷ q) = ap (λ (l : List ℕ). e ∷ l) (entries_of f q)

-- from any whole registry take the filter that is just the active subjects, and the lists as they are
pub inv_of : (m : Registry) → Facts m → m.slots ≤ 65535 → Inv m (exactly m) (moves.lists (waiting m) m.active)
inv_of m f r = record {
  sound = exact-sound m f;
  room = r;
  queue = entries_of (λ e. (place_of e m.inactive).subject) m.activation;
  waiting = waiting-count m.activation m.inactive (λ e. omega (arith, f.once e)) f.waits;
  active = λ t. refl;
}

pub inv-fresh : (n : ℕ) → n ≤ 65535 → Inv (fresh n) (λ x. false) (moves.lists [] [])
inv-fresh n r = record { sound = fresh-sound n; room = r; queue = refl; waiting = λ t. refl; active = λ t. refl }
