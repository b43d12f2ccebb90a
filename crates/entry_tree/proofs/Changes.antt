-- Laws of a pair that joins a list of pairs and of one that leaves it: length, counts, order, range, and what stands where.
use Prim.Native.Nat.{ℕ, zero, suc, ◌+◌, ◌<◌, ◌≤◌}
use mathlib.Core.Path.{◌≡◌, refl, sym, ap, ◌∙◌}
use mathlib.Core.Logic.{◌≢◌}
use mathlib.Core.List.{List, [], ◌∷◌}
use mathlib.Core.Bool.{Bool, true, false, ◌&&◌}
use native.Mathlib.Omega.{arith}
use native.Mathlib.Nat.{not-suc-le-zero}
use lib.ListN.{length, get_or}
use lib.Dec.{leb}
use borrow.Author.Tests.{le-leb, lt-leb, leb-true, leb-false, eqb-true, ne_eqb}
use Rattle.state.specs.Seq.{to_nat}
use Rattle.state.proofs.Tests.{and_l, and_r, and-true, by_cond}
use Rattle.entry_tree.specs.Pairs.{Pair, count, is_entry, without, inserted, in_order, in_range}
use Rattle.entry_tree.specs.Inner.{removed_at}
use Rattle.entry_tree.proofs.Lists.{none, count_at}

-- ---- subject order

pub order-parts : (x : ℕ) (p : Pair) (l : List Pair) → in_order x (p ∷ l) ≡ true → (x ≤ p.subject) × (in_order p.subject l ≡ true)
order-parts x p l h = (leb-true x p.subject (and_l (leb x p.subject) (in_order p.subject l) h), and_r (leb x p.subject) (in_order p.subject l) h)

pub order-cons : (x : ℕ) (p : Pair) (l : List Pair) → x ≤ p.subject → in_order p.subject l ≡ true → in_order x (p ∷ l) ≡ true
order-cons x p l a b = and-true (leb x p.subject) (in_order p.subject l) (le-leb x p.subject a) b

-- from a lower subject on
pub order-lower : (x y : ℕ) (l : List Pair) → y ≤ x → in_order x l ≡ true → in_order y l ≡ true
order-lower x y [] a h = refl
order-lower x y (p ∷ l) a h = let q = order-parts x p l h in order-cons y p l (omega (arith, q.0)) q.1

pub order_from : (x : ℕ) (l : List Pair) → in_order x l ≡ true → (i : ℕ) → i < length l → x ≤ (get_or l i none).subject
order_from x [] h i b = absurd (not-suc-le-zero b)
order_from x (p ∷ l) h zero b = (order-parts x p l h).0
order_from x (p ∷ l) h (suc i) b = let q = order-parts x p l h in omega (arith, q.0, order_from p.subject l q.1 i (omega arith))

pub order-at : (x : ℕ) (l : List Pair) → in_order x l ≡ true → (i j : ℕ) → i ≤ j → j < length l → (get_or l i none).subject ≤ (get_or l j none).subject
order-at x [] h i j a b = absurd (not-suc-le-zero b)
order-at x (p ∷ l) h zero zero a b = omega arith
order-at x (p ∷ l) h zero (suc j) a b = order_from p.subject l (order-parts x p l h).1 j (omega arith)
order-at x (p ∷ l) h (suc i) zero a b = absurd (omega arith)
order-at x (p ∷ l) h (suc i) (suc j) a b = order-at p.subject l (order-parts x p l h).1 i j (omega arith) (omega arith)

-- ---- range

pub range-parts : (most : ℕ) (p : Pair) (l : List Pair) → in_range most (p ∷ l) ≡ true → (p.entry ≤ 127) × (p.subject ≤ most) × (in_range most l ≡ true)
range-parts most p l h =
    let r : (leb p.subject most && in_range most l) ≡ true = and_r (leb p.entry 127) (leb p.subject most && in_range most l) h in
    (leb-true p.entry 127 (and_l (leb p.entry 127) (leb p.subject most && in_range most l) h), leb-true p.subject most (and_l (leb p.subject most) (in_range most l) r), and_r (leb p.subject most) (in_range most l) r)

pub range_cons : (most : ℕ) (p : Pair) (l : List Pair) → p.entry ≤ 127 → p.subject ≤ most → in_range most l ≡ true → in_range most (p ∷ l) ≡ true
range_cons most p l a b c = rw (le-leb p.entry 127 a, le-leb p.subject most b, c)

pub range_at : (most : ℕ) (l : List Pair) → in_range most l ≡ true → (i : ℕ) → ((get_or l i none).entry ≤ 127) × ((get_or l i none).subject ≤ most)
range_at most [] h i = (omega arith, omega arith)
range_at most (p ∷ l) h zero = let q = range-parts most p l h in (q.0, q.1)
range_at most (p ∷ l) h (suc i) = range_at most l (range-parts most p l h).2 i

-- ---- a pair that joins

module _ (p : Pair) where
  -- by cases on the order of subjects
  pub by_order : (P : List Pair → Type 0) (q : Pair) (l : List Pair) → (q.subject ≤ p.subject → P (q ∷ inserted p l)) → (p.subject < q.subject → P (p ∷ (q ∷ l))) → P (inserted p (q ∷ l))
  by_order P q l f g =
      by_cond P (leb q.subject p.subject) {a = q ∷ inserted p l} {b = p ∷ (q ∷ l)} (λ t. f (leb-true q.subject p.subject t)) (λ t. g (leb-false q.subject p.subject t))

  pub inserted-length : (l : List Pair) → length (inserted p l) ≡ suc (length l)
  inserted-length [] = refl
  inserted-length (q ∷ l) = by_order (λ k. length k ≡ suc (suc (length l))) q l (λ a. ap suc (inserted-length l)) (λ a. refl)

  pub inserted-count : (test : Pair → Bool) (l : List Pair) → count test (inserted p l) ≡ to_nat (test p) + count test l
  inserted-count test [] = refl
  inserted-count test (q ∷ l) =
      by_order (λ k. count test k ≡ to_nat (test p) + (to_nat (test q) + count test l)) q l (λ a. omega (arith, inserted-count test l)) (λ a. refl)

  pub inserted-range : (most : ℕ) (l : List Pair) → p.entry ≤ 127 → p.subject ≤ most → in_range most l ≡ true → in_range most (inserted p l) ≡ true
  inserted-range most [] a b h = range_cons most p [] a b refl
  inserted-range most (q ∷ l) a b h =
      let r = range-parts most q l h in
      by_order (λ k. in_range most k ≡ true) q l (λ c. range_cons most q (inserted p l) r.0 r.1 (inserted-range most l a b r.2)) (λ c. range_cons most p (q ∷ l) a b h)

  pub inserted-order : (x : ℕ) (l : List Pair) → x ≤ p.subject → in_order x l ≡ true → in_order x (inserted p l) ≡ true
  inserted-order x [] a h = order-cons x p [] a refl
  inserted-order x (q ∷ l) a h =
      let r = order-parts x q l h in
      by_order (λ k. in_order x k ≡ true) q l
      (λ c. order-cons x q (inserted p l) r.0 (inserted-order q.subject l c r.1))
      (λ c. order-cons x p (q ∷ l) a (order-cons p.subject q l (omega arith) r.1))

-- where it stands: after r pairs up to its subject, before one past it
pub record Joined (p : Pair) (l k : List Pair) (r : ℕ) : Type 0 where
  pub before : (i : ℕ) → i < r → get_or k i none ≡ get_or l i none
  pub here : get_or k r none ≡ p
  pub after : (i : ℕ) → r ≤ i → get_or k (suc i) none ≡ get_or l i none

pub inserted-at : (p : Pair) (l : List Pair) (r : ℕ) → r ≤ length l → ((i : ℕ) → i < r → (get_or l i none).subject ≤ p.subject) → (r < length l → p.subject < (get_or l r none).subject) → Joined p l (inserted p l) r
inserted-at p [] zero b f g = record { before = λ i h. absurd (not-suc-le-zero h); here = refl; after = λ i h. refl }
inserted-at p [] (suc r) b f g = absurd (not-suc-le-zero b)
inserted-at p (q ∷ l) zero b f g =
    let z : p.subject < q.subject = g (omega arith) in
    rw (lt-leb q.subject p.subject z) (record { before = λ i h. absurd (not-suc-le-zero h); here = refl; after = λ i h. refl })
inserted-at p (q ∷ l) (suc r) b f g =
    let j = inserted-at p l r (omega arith) (λ i h. f (suc i) (omega arith)) (λ h. g (omega arith)) in
    rw (le-leb q.subject p.subject (f 0 (omega arith)))
    (record { before = before j; here = j.here; after = after j })
  where
    before : Joined p l (inserted p l) r → (i : ℕ) → i < suc r → get_or (q ∷ inserted p l) i none ≡ get_or (q ∷ l) i none
    before j zero h = refl
    before j (suc i) h = j.before i (omega arith)

    after : Joined p l (inserted p l) r → (i : ℕ) → suc r ≤ i → get_or (q ∷ inserted p l) (suc i) none ≡ get_or (q ∷ l) i none
    after j zero h = absurd (not-suc-le-zero h)
    after j (suc i) h = j.after i (omega arith)

-- ---- an entry that leaves

module _ (e : ℕ) where
  pub by-entry : (P : List Pair → Type 0) (q : Pair) (l : List Pair) → (is_entry e q ≡ true → P (without e l)) → (is_entry e q ≡ false → P (q ∷ without e l)) → P (without e (q ∷ l))
  by-entry P q l f g = by_cond P (is_entry e q) {a = without e l} {b = q ∷ without e l} f g

  pub without-length : (l : List Pair) → length (without e l) + count (is_entry e) l ≡ length l
  without-length [] = refl
  without-length (q ∷ l) =
      by-entry (λ k. length k + (to_nat (is_entry e q) + count (is_entry e) l) ≡ suc (length l)) q l
      (λ t. omega (arith, ap to_nat t, without-length l))
      (λ t. omega (arith, ap to_nat t, without-length l))

  pub without-count : (test : Pair → Bool) (l : List Pair) → count test (without e l) ≤ count test l
  without-count test [] = omega arith
  without-count test (q ∷ l) =
      by-entry (λ k. count test k ≤ to_nat (test q) + count test l) q l (λ t. omega (arith, without-count test l)) (λ t. omega (arith, without-count test l))

  pub without-count-same : (l : List Pair) → count (is_entry e) (without e l) ≡ 0
  without-count-same [] = refl
  without-count-same (q ∷ l) =
      by-entry (λ k. count (is_entry e) k ≡ 0) q l (λ t. without-count-same l) (λ t. omega (arith, ap to_nat t, without-count-same l))

  pub without-count-other : (f : ℕ) → f ≢ e → (l : List Pair) → count (is_entry f) (without e l) ≡ count (is_entry f) l
  without-count-other f n [] = refl
  without-count-other f n (q ∷ l) =
      by-entry (λ k. count (is_entry f) k ≡ to_nat (is_entry f q) + count (is_entry f) l) q l
      (λ t. let z = eqb-true e q.entry t in let w = ap to_nat (ne_eqb f q.entry (λ y. n (y ∙ sym z))) in omega (arith, w, without-count-other f n l))
      (λ t. omega (arith, without-count-other f n l))

  pub without-range : (most : ℕ) (l : List Pair) → in_range most l ≡ true → in_range most (without e l) ≡ true
  without-range most [] h = refl
  without-range most (q ∷ l) h =
      let r = range-parts most q l h in
      by-entry (λ k. in_range most k ≡ true) q l (λ t. without-range most l r.2) (λ t. range_cons most q (without e l) r.0 r.1 (without-range most l r.2))

  pub without-order : (x : ℕ) (l : List Pair) → in_order x l ≡ true → in_order x (without e l) ≡ true
  without-order x [] h = refl
  without-order x (q ∷ l) h =
      let r = order-parts x q l h in
      by-entry (λ k. in_order x k ≡ true) q l
      (λ t. order-lower q.subject x (without e l) r.0 (without-order q.subject l r.1))
      (λ t. order-cons x q (without e l) r.0 (without-order q.subject l r.1))

  pub without-none : (l : List Pair) → count (is_entry e) l ≡ 0 → without e l ≡ l
  without-none [] h = refl
  without-none (q ∷ l) h =
      by-entry (λ k. k ≡ q ∷ l) q l
      (λ t. absurd (omega (arith, ap to_nat t)))
      (λ t. ap (λ (k : List Pair). q ∷ k) (without-none l (omega (arith, ap to_nat t))))

  -- an entry that stands once leaves its place
  pub removed-without : (l : List Pair) (i : ℕ) → i < length l → is_entry e (get_or l i none) ≡ true → count (is_entry e) l ≤ 1 → removed_at i l ≡ without e l
  removed-without [] i h q u = absurd (not-suc-le-zero h)
  removed-without (p ∷ l) zero h q u = by-entry (λ k. l ≡ k) p l (λ t. sym (without-none l (omega (arith, ap to_nat t)))) (λ t. absurd (omega (arith, ap to_nat q, ap to_nat t)))
  removed-without (p ∷ l) (suc i) h q u =
      by-entry (λ k. p ∷ removed_at i l ≡ k) p l
      (λ t. absurd (omega (arith, ap to_nat t, count_at (is_entry e) l i (omega arith) q)))
      (λ t. ap (λ (k : List Pair). p ∷ k) (removed-without l i (omega arith) q (omega arith)))

-- ---- the pair i leaves

pub removed-length : (i : ℕ) (l : List Pair) → i < length l → suc (length (removed_at i l)) ≡ length l
removed-length i [] h = absurd (not-suc-le-zero h)
removed-length zero (q ∷ l) h = refl
removed-length (suc i) (q ∷ l) h = ap suc (removed-length i l (omega arith))

pub removed-before : (i : ℕ) (l : List Pair) (j : ℕ) → j < i → get_or (removed_at i l) j none ≡ get_or l j none
removed-before i [] j h = refl
removed-before zero (q ∷ l) j h = absurd (not-suc-le-zero h)
removed-before (suc i) (q ∷ l) zero h = refl
removed-before (suc i) (q ∷ l) (suc j) h = removed-before i l j (omega arith)

pub removed-after : (i : ℕ) (l : List Pair) (j : ℕ) → i ≤ j → get_or (removed_at i l) j none ≡ get_or l (suc j) none
removed-after i [] j h = refl
removed-after zero (q ∷ l) j h = refl
removed-after (suc i) (q ∷ l) zero h = absurd (not-suc-le-zero h)
removed-after (suc i) (q ∷ l) (suc j) h = removed-after i l j (omega arith)
