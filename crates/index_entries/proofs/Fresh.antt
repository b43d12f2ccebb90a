-- Opening: the bytes it leaves, and that what they mean is valid.
use Prim.Native.Nat.{ℕ, zero, suc, ◌+◌, ◌*◌, ◌/◌, ◌%◌, ◌<◌, ◌≤◌}
use mathlib.Core.Path.{◌≡◌, refl, sym, ap, ◌∙◌, subst}
use mathlib.Core.List.{List, [], ◌∷◌, ◌++◌}
use mathlib.Core.Bool.{true, false}
use native.Mathlib.Omega.{arith}
use native.Mathlib.Decide.{ℕ_discrete}
use native.Mathlib.Nat.{not-suc-le-zero}
use native.Mathlib.Numerals.{add-one}
use lib.ListN.{length, get_or, set, take, drop, replicate, length-set, length-replicate, get_or-replicate}
use lib.Seq.{get_or-set_same, get_or-set_other}
use borrow.Author.Tests.{le-leb}
use Rattle.state.specs.Lengths.{lists_allowed, keys_allowed, keys_length}
use Rattle.state.specs.Seq.{each}
use Rattle.state.proofs.Tests.{not-both}
use Rattle.multi_cycle_list.specs.Lists.{Lists, Valid, count, without, moved_back, empty}
use Rattle.multi_cycle_list.specs.Nodes as nodes
use Rattle.multi_cycle_list.specs.Laid as lists
use Rattle.multi_cycle_list.proofs.Lists.{In, in_count, without-none, count-append}
use Rattle.multi_cycle_list.proofs.WholeTools.{of_allowed}
use Rattle.multi_cycle_list.proofs.Laid as mcl
use Rattle.multi_cycle_list.proofs.Changes.{back-valid, empty-valid}
use Rattle.index_entries.specs.Keys.{Slot, free, has_key, is_free, slot, found, missing, ValidKeys, free_first, fresh}
use Rattle.index_entries.specs.Bytes.{key_word, value, index}
use Rattle.index_entries.specs.Laid.{word_over, value_over, index_over, laid}
use Rattle.index_entries.specs.Inner.{set_word}
use Rattle.index_entries.proofs.Find.{found_none}
use Rattle.index_entries.proofs.Counts.{count-one, count-self}
use Rattle.index_entries.proofs.Fields.{Has, has_same, has_one}
use Rattle.index_entries.proofs.Stores.{has-list}
use Rattle.index_entries.proofs.LaidFields.{laid-has-at}
use Rattle.index_entries.proofs.Facts.{keys-allowed}

-- ---- the first numbers, in order

each_snoc : {A : Type 0} (n : ℕ) (f : ℕ → A) → each (suc n) f ≡ each n f ++ (f n ∷ [])
unfolding each
each_snoc zero f = refl
each_snoc {A} (suc n) f = ap (λ (l : List A). f 0 ∷ l) (each_snoc n (λ k. f (suc k)))

upto_count : (n e : ℕ) → n ≤ e → count e (each n (λ i. i)) ≡ 0
unfolding count each
upto_count zero e h = refl
upto_count (suc n) e h = ap (count e) (each_snoc n (λ i. i)) ∙ count-append e (each n (λ i. i)) (n ∷ []) ∙ omega (arith, upto_count n e (omega arith), count-one e n (omega arith))

upto_in : (n e : ℕ) → e < n → 0 < count e (each n (λ i. i))
upto_in zero e h = absurd (not-suc-le-zero h)
upto_in (suc n) e h =
    let q = ap (count e) (each_snoc n (λ i. i)) ∙ count-append e (each n (λ i. i)) (n ∷ []) in
    elim (ℕ_discrete e n) [
      | yes p ↦ omega (arith, q, ap (λ (z : ℕ). count e (z ∷ [])) (sym p), count-self e)
      | no p ↦ omega (arith, q, upto_in n e (omega arith))
    ]

no_in : (n e : ℕ) → n ≤ e → In e (each n (λ i. i)) → ⊥
no_in n e h i = omega (arith, in_count e (each n (λ i. i)) i, upto_count n e h)

-- ---- the lists

one_more : (n f : ℕ) → moved_back 1 f (free_first n f) ≡ free_first n (f + 1)
unfolding without
one_more n f =
    let e : without f (each f (λ i. i)) ++ (f ∷ []) ≡ each (f + 1) (λ i. i) =
    ap (λ (l : List ℕ). l ++ (f ∷ [])) (without-none f (each f (λ i. i)) (no_in f f (omega arith))) ∙ sym (ap (λ (z : ℕ). each z (λ i. i)) (add-one f) ∙ each_snoc f (λ i. i)) in
    ap (λ (l : List ℕ). two-rows n l) e
  where
    two-rows : ℕ → List ℕ → Lists
    two-rows n l = record { entries = n; rows = [] ∷ (l ∷ []) }

pub two_allowed : (n : ℕ) → n ≤ 222 → lists_allowed 2 n ≡ true
two_allowed n h = of_allowed 2 n (omega arith) (omega arith) (omega arith)

none_free : (n : ℕ) → empty 2 n ≡ free_first n 0
unfolding each
none_free n = refl

pub first-valid : (n f : ℕ) → n ≤ 222 → f ≤ n → Valid (free_first n f)
first-valid n zero h l = subst (λ (m : Lists). Valid m) (none_free n) (empty-valid 2 n (two_allowed n h))
first-valid n (suc f) h l =
    subst (λ (m : Lists). Valid m) (one_more n f ∙ ap (free_first n) (add-one f))
    (back-valid (free_first n f) (first-valid n f h (omega arith)) f (omega arith) 1 (omega arith))

-- ---- what is opened is valid

no_key : (n i k : ℕ) → has_key k (get_or (replicate n free) i free) ≡ false
no_key zero i k = refl
no_key (suc n) zero k = refl
no_key (suc n) (suc i) k = no_key n i k

all-free : (n i : ℕ) → get_or (replicate n free) i free ≡ free
all-free zero i = refl
all-free (suc n) zero = refl
all-free (suc n) (suc i) = all-free n i

pub fresh-valid : (k n : ℕ) → keys_allowed k n ≡ true → ValidKeys (fresh k n)
fresh-valid k n h =
    let a = keys-allowed k n h in
    let e : length (replicate n free) ≡ n = length-replicate {A = Slot} n free in
    record {
      sizes = ap (keys_allowed k) e ∙ h;
      within = λ i. rw (all-free n i) tt;
      distinct = λ i j c p q. not-both (sym p ∙ no_key n i c);
      classes = refl;
      entries = sym e;
      valid = first-valid n n a.1 (omega arith);
      free_listed = λ i l q. upto_in n i (omega (arith, e));
      listed_free = λ i q. ap is_free (all-free n i);
    }

-- ---- the loop over the free entries

module _ (n f : ℕ) (h : n ≤ 222) (l : f < n) (q : List ℕ) (e : q ≡ lists.laid (free_first n f)) where
  pub next_requires : (nodes.whole_b q ≡ true) × ((1 < nodes.classes q) × (f < nodes.entries q))
  next_requires =
      let m = free_first n f in
      let o = mcl.out-sizes 2 n (lists.arcs 2 0 m.rows) in
      rw e (mcl.laid_whole m (first-valid n f h (omega arith)), (omega (arith, o.0), omega (arith, o.1)))

  pub next_is : (p : List ℕ) → p ≡ lists.laid (moved_back 1 f (nodes.read q)) → p ≡ lists.laid (free_first n (f + 1))
  next_is p g =
      g
      ∙ ap (λ (z : List ℕ). lists.laid (moved_back 1 f (nodes.read z))) e
      ∙ ap (λ (m : Lists). lists.laid (moved_back 1 f m)) (mcl.read_laid (free_first n f) (first-valid n f h (omega arith)))
      ∙ ap (λ (m : Lists). lists.laid m) (one_more n f)

pub none_laid : (n : ℕ) → lists.laid (empty 2 n) ≡ lists.laid (free_first n 0)
none_laid n = ap (λ (m : Lists). lists.laid m) (none_free n)

pub first-length : (n f : ℕ) → length (lists.laid (free_first n f)) ≡ 6 + 2 * n
first-length n f = omega (arith, mcl.out-length 2 n (lists.arcs 2 0 (free_first n f).rows))

-- ---- the bytes

module _ (k n L : ℕ) (h : keys_allowed k n ≡ true) (fit : L ≡ keys_length k n) where
  z : List ℕ
  z = replicate L 255

  at-z : (j : ℕ) → j < L → get_or z j 0 ≡ 255
  unfolding z
  at-z j l = get_or-replicate {A = ℕ} L j 255 0 l

  s1 : List ℕ
  s1 = set_word (replicate L 255) 0 k

  rest-s1 : (j : ℕ) → 2 ≤ j → get_or s1 j 0 ≡ get_or z j 0
  unfolding s1 z
  rest-s1 j l = get_or-set_other (set (replicate L 255) 0 (k % 256)) 1 j (k / 256) 0 (omega arith) ∙ get_or-set_other (replicate L 255) 0 j (k % 256) 0 (omega arith)

  byte-s1 : (j : ℕ) → 2 ≤ j → j < L → get_or s1 j 0 ≡ 255
  byte-s1 j l b = rest-s1 j l ∙ at-z j b

  has-s1 : Has n k z s1 (take (6 + 2 * n) (drop 2 s1)) (λ i. 65535) (λ i. 4294967295) (λ j. 255)
  unfolding s1 z
  has-s1 =
      let a = keys-allowed k n h in
      let lz : length {A = ℕ} (replicate L 255) ≡ L = length-replicate {A = ℕ} L 255 in
      record {
        len = length-set (set (replicate L 255) 0 (k % 256)) 1 (k / 256) ∙ length-set (replicate L 255) 0 (k % 256) ∙ lz ∙ fit;
        k_max0 = get_or-set_other (set (replicate L 255) 0 (k % 256)) 1 0 (k / 256) 0 (omega arith) ∙ get_or-set_same (replicate L 255) 0 (k % 256) 0 (omega arith);
        k_max1 = get_or-set_same (set (replicate L 255) 0 (k % 256)) 1 (k / 256) 0 (omega (arith, length-set (replicate L 255) 0 (k % 256))) ∙ omega arith;
        list = refl;
        word0 = λ i l. byte-s1 (8 + 2 * n + 2 * i) (omega arith) (omega arith);
        word1 = λ i l. byte-s1 (9 + 2 * n + 2 * i) (omega arith) (omega arith);
        value0 = λ i l. byte-s1 (8 + 4 * n + 4 * i) (omega arith) (omega arith);
        value1 = λ i l. byte-s1 (9 + 4 * n + 4 * i) (omega arith) (omega arith);
        value2 = λ i l. byte-s1 (10 + 4 * n + 4 * i) (omega arith) (omega arith);
        value3 = λ i l. byte-s1 (11 + 4 * n + 4 * i) (omega arith) (omega arith);
        index = λ j l. byte-s1 (8 + 8 * n + j) (omega arith) (omega arith);
        rest = λ j l. rest-s1 j (omega arith);
      }

  word_z : (i : ℕ) → i < n → key_word n z i ≡ 65535
  word_z i l = omega (arith, at-z (8 + 2 * n + 2 * i) (omega arith), at-z (8 + 2 * n + 2 * i + 1) (omega arith))

  value-z : (i : ℕ) → i < n → value n z i ≡ 4294967295
  value-z i l =
      omega (
        arith,
        at-z (8 + 4 * n + 4 * i) (omega arith),
        at-z (8 + 4 * n + 4 * i + 1) (omega arith),
        at-z (10 + 4 * n + 4 * i) (omega arith),
        at-z (10 + 4 * n + 4 * i + 1) (omega arith),
      )

  pub opened_laid : (p : List ℕ) → p ≡ lists.laid (free_first n n) → (c : ℕ) → c ≡ 6 + 2 * n → take 2 (set_word (replicate L 255) 0 k) ++ (p ++ drop c (drop 2 (set_word (replicate L 255) 0 k))) ≡ laid (fresh k n) (replicate L 255)
  unfolding z s1
  opened_laid p q c d =
      let m = fresh k n in
      let a = keys-allowed k n h in
      let e : length (replicate n free) ≡ n = length-replicate {A = Slot} n free in
      let lp : length p ≡ 6 + 2 * n = ap length q ∙ first-length n n in
      let t = take 2 s1 ++ (p ++ drop (6 + 2 * n) (drop 2 s1)) in
      let g = has-list n k z s1 (take (6 + 2 * n) (drop 2 s1)) (λ i. 65535) (λ i. 4294967295) (λ j. 255) has-s1 p lp in
      let lz : length z ≡ L = length-replicate {A = ℕ} L 255 in
      let o = laid-has-at m z refl (sym e) (lz ∙ fit ∙ ap (keys_length k) (sym e)) n e in
      let f0 : (j : ℕ) → found m j ≡ missing = λ j. found_none j (replicate n free) (λ i. no_key n i j) in
      ap (λ (y : ℕ). take 2 s1 ++ (p ++ drop y (drop 2 s1))) d
      ∙ has_one n k z (lists.laid (free_first n n)) t (laid m z)
      (λ i. word_over (slot m i) (key_word n z i)) (λ i. value_over (slot m i) (value n z i)) (λ j. index_over n (found m j) (index n z j))
      (has_same n k z (lists.laid (free_first n n)) t (λ i. 65535) (λ i. 4294967295) (λ j. 255)
      (λ i. word_over (slot m i) (key_word n z i)) (λ i. value_over (slot m i) (value n z i)) (λ j. index_over n (found m j) (index n z j))
      (subst (λ (y : List ℕ). Has n k z t y (λ i. 65535) (λ i. 4294967295) (λ j. 255)) q g)
      (λ i l. rw (all-free n i, word_z i l))
      (λ i l. rw (all-free n i) (sym (value-z i l)))
      (λ j l. rw (f0 j, at-z (8 + 8 * n + j) (omega arith), le-leb n 255 (omega arith))))
      o
