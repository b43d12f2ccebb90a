-- Trees in which no entry stands twice: what is kept when a pair joins and when one leaves.
use Prim.Native.Nat.{ℕ, suc, ◌<◌, ◌≤◌}
use mathlib.Core.Path.{◌≡◌, refl, sym, ap, ◌∙◌}
use mathlib.Core.List.{List, [], ◌∷◌}
use mathlib.Core.Bool.{true, false}
use native.Mathlib.Omega.{arith}
use native.Mathlib.Decide.{ℕ_discrete, dec_lt}
use lib.Dec.{leb}
use lib.ListN.{length}
use borrow.Author.Tests.{leb-true, le-leb}
use Rattle.state.specs.Outcome.{Bytes}
use Rattle.state.specs.Seq.{all_b, each, to_nat}
use Rattle.state.proofs.Seq.{all_true, all-at}
use Rattle.state.proofs.Tests.{and_l, and_r, and-true}
use Rattle.entry_tree.specs.Pairs.{Pair, pair, count, is_entry, on_subject, has_entry, inserted, without, in_range, in_order, rising, once_b}
use Rattle.entry_tree.specs.Places.{size, pair_at, read, laid}
use Rattle.entry_tree.specs.Inner.{tree_length}
use Rattle.entry_tree.proofs.Changes.{order-cons, order-lower, by_order, inserted-count, by-entry, without-count}
use Rattle.entry_tree.proofs.Count.{same, diff, compare_eq, any_false, few-entries}
use Rattle.entry_tree.proofs.Finding.{few-others}
use Rattle.entry_tree.proofs.Laid.{laid_read}
use Rattle.entry_tree.proofs.Passing.{range_inside}

abbrev pub Once : List Pair → Type 0
Once l = (e : ℕ) → count (is_entry e) l ≤ 1

pub once_of : (most : ℕ) (l : List Pair) → in_range most l ≡ true → all_b 128 (once_b l) ≡ true → Once l
once_of most l r h e = elim (dec_lt e 128) [
  | yes i ↦ leb-true (count (is_entry e) l) 1 (all-at 128 (once_b l) h e i)
  | no i ↦ elim (ℕ_discrete (count (is_entry e) l) 0) [ yes z ↦ omega arith | no z ↦ absurd (omega (arith, range_inside most l r e (omega arith))) ]
]

pub of_once : (l : List Pair) → Once l → all_b 128 (once_b l) ≡ true
of_once l o = all_true 128 (once_b l) (λ e i. le-leb (count (is_entry e) l) 1 (o e))

-- at most 128 pairs, and room for one more entry
module _ (most : ℕ) (l : List Pair) (r : in_range most l ≡ true) (o : Once l) where
  pub few : length l ≤ 128
  few = few-entries 128 l o (λ e i. omega (arith, range_inside most l r e i))

  pub room : (e : ℕ) → e < 128 → has_entry e l ≡ false → length l < 128
  room e b h = omega (arith, few-others e 128 l [] b (any_false (is_entry e) l h) refl (λ x. omega (arith, o x)) (λ x i. omega (arith, range_inside most l r x (omega (arith, i)))))

pub inserted-once : (e x : ℕ) (l : List Pair) → has_entry e l ≡ false → Once l → Once (inserted (pair e x) l)
inserted-once e x l h o f = elim (compare_eq f e) [
  | same q t ↦ omega (arith, inserted-count (pair e x) (is_entry f) l, ap to_nat t, any_false (is_entry e) l h, ap (λ (z : ℕ). count (is_entry z) l) q)
  | diff q t ↦ omega (arith, inserted-count (pair e x) (is_entry f) l, ap to_nat t, o f)
]

pub without-once : (e : ℕ) (l : List Pair) → Once l → Once (without e l)
without-once e l o f = omega (arith, without-count e (is_entry f) l, o f)

-- ---- rising subjects

rising-parts : (x : ℕ) (p : Pair) (l : List Pair) → rising x (p ∷ l) ≡ true → (x ≤ p.subject) × (rising (suc p.subject) l ≡ true)
rising-parts x p l h = (leb-true x p.subject (and_l (leb x p.subject) (rising (suc p.subject) l) h), and_r (leb x p.subject) (rising (suc p.subject) l) h)

rising-cons : (x : ℕ) (p : Pair) (l : List Pair) → x ≤ p.subject → rising (suc p.subject) l ≡ true → rising x (p ∷ l) ≡ true
rising-cons x p l a b = and-true (leb x p.subject) (rising (suc p.subject) l) (le-leb x p.subject a) b

rising-lower : (x y : ℕ) (l : List Pair) → y ≤ x → rising x l ≡ true → rising y l ≡ true
rising-lower x y [] a h = refl
rising-lower x y (p ∷ l) a h = let q = rising-parts x p l h in rising-cons y p l (omega (arith, q.0)) q.1

-- they are in order
pub rising-order : (x : ℕ) (l : List Pair) → rising x l ≡ true → in_order x l ≡ true
rising-order x [] h = refl
rising-order x (p ∷ l) h =
    let q = rising-parts x p l h in
    order-cons x p l q.0 (order-lower (suc p.subject) p.subject l (omega arith) (rising-order (suc p.subject) l q.1))

pub inserted_rising : (p : Pair) (x : ℕ) (l : List Pair) → x ≤ p.subject → count (on_subject p.subject) l ≡ 0 → rising x l ≡ true → rising x (inserted p l) ≡ true
inserted_rising p x [] a n h = rising-cons x p [] a refl
inserted_rising p x (q ∷ l) a n h =
    let r = rising-parts x q l h in
    elim (compare_eq p.subject q.subject) [
      | same z t ↦ absurd (omega (arith, rw t at n))
      | diff z t ↦
          by_order p (λ k. rising x k ≡ true) q l
          (λ c. rising-cons x q (inserted p l) r.0 (inserted_rising p (suc q.subject) l (omega arith) (omega (arith, rw t at n)) r.1))
          (λ c. rising-cons x p (q ∷ l) a (rising-cons (suc p.subject) q l (omega arith) r.1))
    ]

pub without-rising : (e x : ℕ) (l : List Pair) → rising x l ≡ true → rising x (without e l) ≡ true
without-rising e x [] h = refl
without-rising e x (q ∷ l) h =
    let r = rising-parts x q l h in
    by-entry e (λ k. rising x k ≡ true) q l
    (λ t. rising-lower (suc q.subject) x (without e l) (omega (arith, r.0)) (without-rising e (suc q.subject) l r.1))
    (λ t. rising-cons x q (without e l) r.0 (without-rising e (suc q.subject) l r.1))

-- ---- a tree of no pairs, over bytes that say so

pub empty_tree : (t : List ℕ) → length t ≡ tree_length → Bytes t → size t ≡ 0 → t ≡ laid [] t
unfolding read each
empty_tree t l y z = sym (laid_read t l (omega arith) y) ∙ ap (λ (n : ℕ). laid (each n (pair_at t)) t) z
