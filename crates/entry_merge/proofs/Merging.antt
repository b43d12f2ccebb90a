-- Trees that change in one pass: laws of the pairs that stay, of the entries that fill places, and of two lists that become one.
use Prim.Native.Nat.{ℕ, zero, suc, ◌+◌, ◌<◌, ◌≤◌}
use mathlib.Core.Path.{◌≡◌, refl, sym, ap, ◌∙◌, subst}
use mathlib.Core.List.{List, [], ◌∷◌}
use mathlib.Core.Bool.{Bool, true, false, cond}
use native.Mathlib.Omega.{arith}
use native.Mathlib.Decide.{dec_lt}
use native.Mathlib.Nat.{not-suc-le-zero}
use lib.ListN.{length, get_or, set, drop, drop_of_length-le}
use lib.Seq.{drop-cons, get_or-set_same, get_or-set_other}
use lib.Dec.{eqb, ltb}
use borrow.Author.Tests.{le-leb, lt-leb, lt-ltb, le-ltb}
use Rattle.state.specs.Seq.{to_nat}
use Rattle.entry_tree.specs.Pairs.{Pair, pair, count, is_entry, find, place_of, without, inserted, in_order}
use Rattle.entry_tree.specs.Places.{size, pair_at, read}
use Rattle.entry_merge.specs.Inner.{kept, stays, filled, merged}
use Rattle.entry_tree.proofs.Lists.{none}
use Rattle.entry_tree.proofs.Reading.{read_length, read_at}
use Rattle.entry_tree.proofs.Changes.{order-parts, order-cons, order-lower, by_order, inserted-length, inserted-count}
use Rattle.entry_tree.proofs.Count.{same, diff, compare_eq}

-- ---- a list from a place on

pub drop-first : (l : List Pair) (w : ℕ) (p : Pair) (r : List Pair) → drop w l ≡ p ∷ r → (w < length l) × ((get_or l w none ≡ p) × (drop (suc w) l ≡ r))
drop-first [] zero p r q = absurd (let z : ◌≡◌ {A = ℕ} 0 1 = cc in omega arith)
drop-first [] (suc w) p r q = absurd (let z : ◌≡◌ {A = ℕ} 0 1 = cc in omega arith)
drop-first (x ∷ l) zero p r q = let a : x ≡ p = cc in let b : l ≡ r = cc in (omega arith, (a, b))
drop-first (x ∷ l) (suc w) p r q = let h = drop-first l w p r q in (omega (arith, h.0), (h.1.0, h.1.1))

pub drop-nothing : (l : List Pair) (w : ℕ) → drop w l ≡ [] → length l ≤ w
drop-nothing [] w q = omega arith
drop-nothing (x ∷ l) zero q = absurd (let z : ◌≡◌ {A = ℕ} 0 1 = cc in omega arith)
drop-nothing (x ∷ l) (suc w) q = omega (arith, drop-nothing l w q)

pub order-drop : (x : ℕ) (l : List Pair) (j : ℕ) (p : Pair) (r : List Pair) → in_order x l ≡ true → drop j l ≡ p ∷ r → in_order p.subject r ≡ true
order-drop x [] zero p r h q = absurd (let z : ◌≡◌ {A = ℕ} 0 1 = cc in omega arith)
order-drop x [] (suc j) p r h q = absurd (let z : ◌≡◌ {A = ℕ} 0 1 = cc in omega arith)
order-drop x (y ∷ l) zero p r h q =
    let a : y ≡ p = cc in
    let b : l ≡ r = cc in
    subst (λ (k : List Pair). in_order p.subject k ≡ true) b (subst (λ (k : Pair). in_order k.subject l ≡ true) a (order-parts x y l h).1)
order-drop x (y ∷ l) (suc j) p r h q = order-drop y.subject l j p r (order-parts x y l h).1 q

-- the pairs of a tree from a place on
pub tree_from : (t : List ℕ) (i : ℕ) → i < size t → drop i (read t) ≡ pair_at t i ∷ drop (suc i) (read t)
tree_from t i h = drop-cons (read t) i none (omega (arith, read_length t)) ∙ ap (λ (p : Pair). p ∷ drop (suc i) (read t)) (read_at t i h)

pub tree_end : (t : List ℕ) (i : ℕ) → size t ≤ i → drop i (read t) ≡ []
tree_end t i h = drop_of_length-le (read t) {i = i} (omega (arith, read_length t))

-- ---- two lists become one

pub merged-first : (p : Pair) (l k : List Pair) → in_order p.subject k ≡ true → merged (p ∷ l) k ≡ p ∷ merged l k
merged-first p l [] h = refl
merged-first p l (q ∷ k) h =
    let r = order-parts p.subject q k h in
    rw (le-leb p.subject q.subject r.0) (merged-first p (inserted q l) k (order-lower q.subject p.subject k r.0 r.1))

-- the first of the second list comes first
pub merged-second : (q : Pair) (l k : List Pair) → ((p : Pair) (r : List Pair) → l ≡ p ∷ r → q.subject < p.subject) → in_order q.subject k ≡ true → merged l (q ∷ k) ≡ q ∷ merged l k
merged-second q [] k g h = merged-first q [] k h
merged-second q (p ∷ l) k g h = rw (lt-leb p.subject q.subject (g p l refl)) (merged-first q (p ∷ l) k h)

pub merged-length : (l k : List Pair) → length (merged l k) ≡ length l + length k
merged-length l [] = omega arith
merged-length l (p ∷ k) = omega (arith, merged-length (inserted p l) k, inserted-length p l)

pub merged-count : (test : Pair → Bool) (l k : List Pair) → count test (merged l k) ≡ count test l + count test k
merged-count test l [] = omega arith
merged-count test l (p ∷ k) = omega (arith, merged-count test (inserted p l) k, inserted-count p test l)

swapped : (p q : Pair) (l : List Pair) → p.subject < q.subject → inserted p (inserted q l) ≡ inserted q (inserted p l)
swapped p q [] h = rw (lt-leb q.subject p.subject h, le-leb p.subject q.subject (omega arith)) refl
swapped p q (a ∷ l) h = elim (dec_lt p.subject a.subject) [
  | no i ↦ rw (le-leb a.subject q.subject (omega arith), le-leb a.subject p.subject (omega arith), le-leb a.subject q.subject (omega arith)) (ap (λ (k : List Pair). a ∷ k) (swapped p q l h))
  | yes i ↦ elim (dec_lt q.subject a.subject) [
    | no j ↦ rw (le-leb a.subject q.subject (omega arith), lt-leb a.subject p.subject i, le-leb p.subject q.subject (omega arith), le-leb a.subject q.subject (omega arith)) refl
    | yes j ↦ rw (lt-leb a.subject q.subject j, lt-leb q.subject p.subject h, lt-leb a.subject p.subject i, le-leb p.subject q.subject (omega arith), lt-leb a.subject q.subject j) refl
  ]
]

-- a pair that joins the one list, as if it had joined the second
joins-before : (p : Pair) (l k : List Pair) → in_order (suc p.subject) k ≡ true → inserted p (merged l k) ≡ merged (inserted p l) k
joins-before p l [] h = refl
joins-before p l (q ∷ k) h =
    let r = order-parts (suc p.subject) q k h in
    joins-before p (inserted q l) k (order-lower q.subject (suc p.subject) k r.0 r.1) ∙ ap (λ (z : List Pair). merged z k) (swapped p q l r.0)

pub merged-joins : (p : Pair) (l k : List Pair) (x : ℕ) → in_order x k ≡ true → inserted p (merged l k) ≡ merged l (inserted p k)
merged-joins p l [] x h = refl
merged-joins p l (q ∷ k) x h =
    let r = order-parts x q k h in
    by_order p (λ (z : List Pair). inserted p (merged l (q ∷ k)) ≡ merged l z) q k
    (λ a. merged-joins p (inserted q l) k q.subject r.1)
    (λ a. joins-before p l (q ∷ k) (order-cons (suc p.subject) q k a r.1))

-- ---- the pairs that stay

module _ (test : Pair → Bool) where
  pub kept-yes : (p : Pair) (l : List Pair) → test p ≡ true → kept test (p ∷ l) ≡ p ∷ kept test l
  kept-yes p l q = rw q refl

  pub kept-no : (p : Pair) (l : List Pair) → test p ≡ false → kept test (p ∷ l) ≡ kept test l
  kept-no p l q = rw q refl

  pub kept-all : (l : List Pair) → ((p : Pair) → test p ≡ true) → kept test l ≡ l
  kept-all [] h = refl
  kept-all (p ∷ l) h = kept-yes p l (h p) ∙ ap (λ (k : List Pair). p ∷ k) (kept-all l h)

  pub kept-count : (t : Pair → Bool) (l : List Pair) → count t (kept test l) ≤ count t l
  kept-count t [] = omega arith
  kept-count t (p ∷ l) = go (test p) (kept-count t l)
    where
      go : (b : Bool) → count t (kept test l) ≤ count t l → count t (cond b (p ∷ kept test l) (kept test l)) ≤ to_nat (t p) + count t l
      go true h = omega arith
      go false h = omega arith

  -- an entry that stays is on the subject that it was on
  kept-find : (e from to : ℕ) (l : List Pair) → count (is_entry e) l ≤ 1 → 0 < count (is_entry e) (kept test l) → (find e from (kept test l)).subject ≡ (find e to l).subject
  kept-find e from to [] u h = absurd (not-suc-le-zero h)
  kept-find e from to (p ∷ l) u h =
      elim (compare_eq e p.entry) [
        | same q t ↦ go_same t (test p) (kept-count (is_entry e) l) (omega (arith, rw t at u)) h
        | diff n t ↦ go-diff t (test p) (λ f. kept-find e f (suc p.subject) l (omega (arith, rw t at u))) h
      ]
    where
      go_same : is_entry e p ≡ true → (b : Bool) → count (is_entry e) (kept test l) ≤ count (is_entry e) l → count (is_entry e) l ≤ 0 → 0 < count (is_entry e) (cond b (p ∷ kept test l) (kept test l))
          → (find e from (cond b (p ∷ kept test l) (kept test l))).subject ≡ (find e to (p ∷ l)).subject
      go_same t true a z h = rw t refl
      go_same t false a z h = absurd (omega arith)

      go-diff : is_entry e p ≡ false → (b : Bool) → ((f : ℕ) → 0 < count (is_entry e) (kept test l) → (find e f (kept test l)).subject ≡ (find e (suc p.subject) l).subject)
          → 0 < count (is_entry e) (cond b (p ∷ kept test l) (kept test l)) → (find e from (cond b (p ∷ kept test l) (kept test l))).subject ≡ (find e to (p ∷ l)).subject
      go-diff t true r h = rw t (r (suc p.subject) (omega (arith, rw t at h)))
      go-diff t false r h = rw t (r from h)

  pub kept-subject : (e : ℕ) (l : List Pair) → count (is_entry e) l ≤ 1 → 0 < count (is_entry e) (kept test l) → (place_of e (kept test l)).subject ≡ (place_of e l).subject
  kept-subject e l u h = kept-find e 0 0 l u h

-- a mark more: its entry leaves
pub marked_more : (gone : List ℕ) (e : ℕ) → e < length gone → (l : List Pair) → without e (kept (stays gone) l) ≡ kept (stays (set gone e 1)) l
marked_more gone e h [] = refl
marked_more gone e h (p ∷ l) =
    elim (compare_eq e p.entry) [
      | same q t ↦ gone_too (marked_more gone e h l) q t (stays gone p)
      | diff n t ↦ (let z : get_or (set gone e 1) p.entry 0 ≡ get_or gone p.entry 0 = get_or-set_other gone e p.entry 1 0 (λ w. n (sym w)) in rw z (as_before (marked_more gone e h l) t (stays gone p)))
    ]
  where
    left : e ≡ p.entry → stays (set gone e 1) p ≡ false
    left q = ap (λ (k : ℕ). eqb (get_or (set gone e 1) k 0) 0) (sym q) ∙ ap (λ (k : ℕ). eqb k 0) (get_or-set_same gone e 1 0 h)

    gone_too : without e (kept (stays gone) l) ≡ kept (stays (set gone e 1)) l → e ≡ p.entry → is_entry e p ≡ true → (b : Bool)
        → without e (cond b (p ∷ kept (stays gone) l) (kept (stays gone) l)) ≡ kept (stays (set gone e 1)) (p ∷ l)
    gone_too rest q t true = rw (left q, t) rest
    gone_too rest q t false = rw (left q) rest

    as_before : without e (kept (stays gone) l) ≡ kept (stays (set gone e 1)) l → is_entry e p ≡ false → (b : Bool)
        → without e (cond b (p ∷ kept (stays gone) l) (kept (stays gone) l)) ≡ cond b (p ∷ kept (stays (set gone e 1)) l) (kept (stays (set gone e 1)) l)
    as_before rest t true = rw t (ap (λ (k : List Pair). p ∷ k) rest)
    as_before rest t false = rest

-- ---- the entries that fill places

pub filled_none : (vs : List ℕ) → filled vs [] ≡ []
filled_none [] = refl
filled_none (v ∷ vs) = refl

pub filled-order : (x : ℕ) (vs : List ℕ) (l : List Pair) → in_order x l ≡ true → in_order x (filled vs l) ≡ true
filled-order x [] l h = refl
filled-order x (v ∷ vs) [] h = refl
filled-order x (v ∷ vs) (p ∷ l) h = go (ltb v 128) (filled-order p.subject vs l (order-parts x p l h).1)
  where
    go : (b : Bool) → in_order p.subject (filled vs l) ≡ true → in_order x (cond b (pair v p.subject ∷ filled vs l) (filled vs l)) ≡ true
    go true r = order-cons x (pair v p.subject) (filled vs l) (order-parts x p l h).0 r
    go false r = order-lower p.subject x (filled vs l) (order-parts x p l h).0 r

-- no place is filled at first
pub unfilled : (vs : List ℕ) (l : List Pair) → ((i : ℕ) → i < length vs → 128 ≤ get_or vs i 0) → filled vs l ≡ []
unfilled [] l h = refl
unfilled (v ∷ vs) [] h = refl
unfilled (v ∷ vs) (p ∷ l) h = rw (le-ltb v 128 (h 0 (omega arith))) (unfilled vs l (λ i b. h (suc i) (omega arith)))

-- entries up to a subject, then one past it
filled-past : (p : Pair) (vs : List ℕ) (l : List Pair) → ((i : ℕ) → i < length l → i < length vs → get_or vs i 0 < 128 → p.subject < (get_or l i none).subject) → inserted p (filled vs l) ≡ p ∷ filled vs l
filled-past p [] l h = refl
filled-past p (v ∷ vs) [] h = refl
filled-past p (v ∷ vs) (q ∷ l) h = elim (dec_lt v 128) [
  | yes b ↦ rw (lt-ltb v 128 b, lt-leb q.subject p.subject (h 0 (omega arith) (omega arith) b)) refl
  | no b ↦ rw (le-ltb v 128 (omega arith)) (filled-past p vs l (λ i c d. h (suc i) (omega arith) (omega arith)))
]

-- an entry fills an empty place, and joins
pub filled-joins : (e x j : ℕ) (vs : List ℕ) (l : List Pair) → e < 128 → j < length vs → j < length l → 128 ≤ get_or vs j 0 → (get_or l j none).subject ≡ x
    → ((i : ℕ) → i < j → (get_or l i none).subject ≤ x) → ((i : ℕ) → j < i → i < length l → i < length vs → get_or vs i 0 < 128 → x < (get_or l i none).subject)
    → filled (set vs j e) l ≡ inserted (pair e x) (filled vs l)
filled-joins e x j [] l he a b c q f g = absurd (not-suc-le-zero a)
filled-joins e x j (v ∷ vs) [] he a b c q f g = absurd (not-suc-le-zero b)
filled-joins e x zero (v ∷ vs) (p ∷ l) he a b c q f g =
    rw (lt-ltb e 128 he, le-ltb v 128 c)
    (ap (λ (y : ℕ). pair e y ∷ filled vs l) q ∙ sym (filled-past (pair e x) vs l (λ i m n. g (suc i) (omega arith) (omega arith) (omega arith))))
filled-joins e x (suc j) (v ∷ vs) (p ∷ l) he a b c q f g =
    let r = filled-joins e x j vs l he (omega arith) (omega arith) c q (λ i m. f (suc i) (omega arith)) (λ i m n o. g (suc i) (omega arith) (omega arith) (omega arith)) in
    elim (dec_lt v 128) [
      | yes d ↦ rw (lt-ltb v 128 d, le-leb p.subject x (f 0 (omega arith))) (ap (λ (k : List Pair). pair v p.subject ∷ k) r)
      | no d ↦ rw (le-ltb v 128 (omega arith)) r
    ]
