-- Membership, lists without repeats, and their length.
use Prim.Native.Nat.{ℕ, zero, suc, ◌+◌, ◌<◌, ◌≤◌, zero-le}
use mathlib.Core.Path.{◌≡◌, refl, sym, ap, ◌∙◌, subst}
use mathlib.Core.Logic.{◌≢◌, ◌⊎◌, inl, inr, ⊎_elim}
use mathlib.Core.List.{List, [], ◌∷◌, ◌++◌}
use native.Mathlib.Omega.{arith}
use native.Mathlib.Decide.{ℕ_discrete, dec_lt}
use native.Mathlib.Nat.{not-suc-le-zero}
use lib.ListN.{length}
use borrow.Author.Tests.{eq-eqb, ne_eqb}
use Rattle.multi_cycle_list.specs.Lists.{without, count}

abbrev pub In : ℕ → List ℕ → Type 0
In e [] = ⊥
In e (x ∷ xs) = (e ≡ x) ⊎ In e xs

abbrev pub Below : ℕ → List ℕ → Type 0
Below n [] = Unit {0}
Below n (x ∷ xs) = (x < n) × Below n xs

abbrev pub NoDup : List ℕ → Type 0
NoDup [] = Unit {0}
NoDup (x ∷ xs) = (In x xs → ⊥) × NoDup xs

pub without-same : (e x : ℕ) (xs : List ℕ) → x ≡ e → without e (x ∷ xs) ≡ without e xs
unfolding without
without-same e x xs h = rw (eq-eqb x e h)

pub without_other : (e x : ℕ) (xs : List ℕ) → x ≢ e → without e (x ∷ xs) ≡ x ∷ without e xs
unfolding without
without_other e x xs h = rw (ne_eqb x e h)

pub in_without : (m : ℕ) (xs : List ℕ) (e : ℕ) → In e xs → e ≢ m → In e (without m xs)
unfolding without
in_without m [] e h ne = h
in_without m (x ∷ xs) e h ne =
    elim (ℕ_discrete x m) [
      | yes q ↦ rw (without-same m x xs q) (⊎_elim (λ p. absurd (ne (p ∙ q))) (λ i. in_without m xs e i ne) h)
      | no q ↦ rw (without_other m x xs q) (⊎_elim (λ p. inl p) (λ i. inr (in_without m xs e i ne)) h)
    ]

pub of_without : (m : ℕ) (xs : List ℕ) (e : ℕ) → In e (without m xs) → In e xs × (e ≢ m)
unfolding without
of_without m [] e h = absurd h
of_without m (x ∷ xs) e h =
    elim (ℕ_discrete x m) [
      | yes q ↦ (let r = of_without m xs e (rw (without-same m x xs q) at h) in (inr r.0, r.1))
      | no q ↦ ⊎_elim (λ p. (inl p, λ z. q (sym p ∙ z))) (λ i. let r = of_without m xs e i in (inr r.0, r.1)) (rw (without_other m x xs q) at h)
    ]

pub nodup_without : (m : ℕ) (xs : List ℕ) → NoDup xs → NoDup (without m xs)
unfolding without
nodup_without m [] h = tt
nodup_without m (x ∷ xs) h =
    elim (ℕ_discrete x m) [
      | yes q ↦ rw (without-same m x xs q) (nodup_without m xs h.1)
      | no q ↦ rw (without_other m x xs q) (λ i. h.0 (of_without m xs x i).0, nodup_without m xs h.1)
    ]

-- below n + 1 and not n: below n
pub below-without : (n : ℕ) (xs : List ℕ) → Below (suc n) xs → Below n (without n xs)
unfolding without
below-without n [] h = tt
below-without n (x ∷ xs) h =
    elim (ℕ_discrete x n) [
      | yes q ↦ rw (without-same n x xs q) (below-without n xs h.1)
      | no q ↦ rw (without_other n x xs q) (omega (arith, h.0), below-without n xs h.1)
    ]

pub without-none : (m : ℕ) (xs : List ℕ) → (In m xs → ⊥) → without m xs ≡ xs
unfolding without
without-none m [] h = refl
without-none m (x ∷ xs) h =
    elim (ℕ_discrete x m) [
      | yes q ↦ absurd (h (inl (sym q)))
      | no q ↦ without_other m x xs q ∙ ap (λ (l : List ℕ). x ∷ l) (without-none m xs (λ i. h (inr i)))
    ]

pub length_without : (m : ℕ) (xs : List ℕ) → NoDup xs → length xs ≤ suc (length (without m xs))
unfolding without
length_without m [] h = zero-le
length_without m (x ∷ xs) h =
    elim (ℕ_discrete x m) [
      | yes q ↦ rw (without-same m x xs q, without-none m xs (λ i. h.0 (subst (λ (z : ℕ). In z xs) (sym q) i))) (omega arith)
      | no q ↦ rw (without_other m x xs q) (omega (arith, length_without m xs h.1))
    ]

-- numbers below n, each once, are at most n
pub pigeon : (n : ℕ) (xs : List ℕ) → NoDup xs → Below n xs → length xs ≤ n
pigeon zero [] d b = zero-le
pigeon zero (x ∷ xs) d b = absurd (not-suc-le-zero b.0)
pigeon (suc n) xs d b = omega (arith, length_without n xs d, pigeon n (without n xs) (nodup_without n xs d) (below-without n xs b))

pub below_of_without : (n m : ℕ) (xs : List ℕ) → Below n xs → Below n (without m xs)
unfolding without
below_of_without n m [] h = tt
below_of_without n m (x ∷ xs) h =
    elim (ℕ_discrete x m) [
      | yes q ↦ rw (without-same m x xs q) (below_of_without n m xs h.1)
      | no q ↦ rw (without_other m x xs q) (h.0, below_of_without n m xs h.1)
    ]

pub below_snoc : (n : ℕ) (xs : List ℕ) (e : ℕ) → e < n → Below n xs → Below n (xs ++ (e ∷ []))
below_snoc n [] e h w = (h, tt)
below_snoc n (x ∷ xs) e h w = (w.0, below_snoc n xs e h w.1)

pub in_snoc_new : (xs : List ℕ) (k e : ℕ) → k ≡ e → In k (xs ++ (e ∷ []))
in_snoc_new [] k e h = inl h
in_snoc_new (x ∷ xs) k e h = inr (in_snoc_new xs k e h)

pub in_snoc_old : (xs : List ℕ) (k e : ℕ) → In k xs → In k (xs ++ (e ∷ []))
in_snoc_old [] k e i = absurd i
in_snoc_old (x ∷ xs) k e i = ⊎_elim (λ q. inl q) (λ j. inr (in_snoc_old xs k e j)) i

-- ---- how often e stands in a list

pub count_same : (e x : ℕ) (xs : List ℕ) → x ≡ e → count e (x ∷ xs) ≡ suc (count e xs)
unfolding count
count_same e x xs h = rw (eq-eqb x e h)

pub count-other : (e x : ℕ) (xs : List ℕ) → x ≢ e → count e (x ∷ xs) ≡ count e xs
unfolding count
count-other e x xs h = rw (ne_eqb x e h)

pub count_in : (e : ℕ) (xs : List ℕ) → 1 ≤ count e xs → In e xs
unfolding count
count_in e [] h = absurd (not-suc-le-zero h)
count_in e (x ∷ xs) h =
    elim (ℕ_discrete x e) [
      | yes q ↦ inl (sym q)
      | no q ↦ inr (count_in e xs (omega (arith, count-other e x xs q)))
    ]

pub in_count : (e : ℕ) (xs : List ℕ) → In e xs → 1 ≤ count e xs
in_count e [] i = absurd i
in_count e (x ∷ xs) i =
    elim (ℕ_discrete x e) [
      | yes q ↦ omega (arith, count_same e x xs q)
      | no q ↦ ⊎_elim (λ p. absurd (q (sym p))) (λ j. omega (arith, count-other e x xs q, in_count e xs j)) i
    ]

pub in_or-not : (e : ℕ) (xs : List ℕ) → In e xs ⊎ (In e xs → ⊥)
in_or-not e xs = elim (dec_lt 0 (count e xs)) [ yes q ↦ inl (count_in e xs q) | no q ↦ inr (λ i. q (in_count e xs i)) ]

-- ---- how often an entry stands in a list after a change

pub count-gone : (e : ℕ) (l : List ℕ) → count e (without e l) ≡ 0
unfolding count without
count-gone e [] = refl
count-gone e (x ∷ xs) =
    elim (ℕ_discrete x e) [
      | yes q ↦ ap (count e) (without-same e x xs q) ∙ count-gone e xs
      | no q ↦ ap (count e) (without_other e x xs q) ∙ count-other e x (without e xs) q ∙ count-gone e xs
    ]

pub count_kept : (e x : ℕ) (l : List ℕ) → e ≢ x → count e (without x l) ≡ count e l
unfolding count without
count_kept e x [] n = refl
count_kept e x (y ∷ ys) n =
    elim (ℕ_discrete y x) [
      | yes q ↦ ap (count e) (without-same x y ys q) ∙ count_kept e x ys n ∙ sym (count-other e y ys (λ z. n (sym z ∙ q)))
      | no q ↦
          ap (count e) (without_other x y ys q)
          ∙ elim (ℕ_discrete y e) [
            | yes p ↦ count_same e y (without x ys) p ∙ ap suc (count_kept e x ys n) ∙ sym (count_same e y ys p)
            | no p ↦ count-other e y (without x ys) p ∙ count_kept e x ys n ∙ sym (count-other e y ys p)
          ]
    ]

pub count-append : (e : ℕ) (a b : List ℕ) → count e (a ++ b) ≡ count e a + count e b
unfolding count
count-append e [] b = omega arith
count-append e (x ∷ xs) b =
    elim (ℕ_discrete x e) [
      | yes q ↦ omega (arith, count_same e x (xs ++ b) q, count_same e x xs q, count-append e xs b)
      | no q ↦ omega (arith, count-other e x (xs ++ b) q, count-other e x xs q, count-append e xs b)
    ]
