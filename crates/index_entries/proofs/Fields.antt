-- The fields of a key queue's bytes: what stands where, and that this decides the bytes.
use Prim.Native.Nat.{ℕ, ◌+◌, ◌-◌, ◌*◌, ◌/◌, ◌%◌, ◌<◌, ◌≤◌}
use mathlib.Core.Path.{◌≡◌, sym, ap, ◌∙◌, subst}
use mathlib.Core.List.{List}
use native.Mathlib.Omega.{arith}
use native.Mathlib.Decide.{dec_lt}
use lib.ListN.{length, get_or, take, drop}
use lib.Seq.{ext_get_or, get_or-take, get_or-drop}
use Rattle.state.specs.Lengths.{keys_length}
use Rattle.state.specs.Outcome.{Bytes}

-- The bytes t, of n entries and keys to k, have the list queue l, the key words w, the values v and the index x; what says nothing is as in s.
pub record Has (n k : ℕ) (s t l : List ℕ) (w v x : ℕ → ℕ) : Type 0 where
  pub len : length t ≡ keys_length k n
  pub k_max0 : get_or t 0 0 ≡ k % 256
  pub k_max1 : get_or t 1 0 ≡ k / 256 % 256
  pub list : take (6 + 2 * n) (drop 2 t) ≡ l
  pub word0 : (i : ℕ) → i < n → get_or t (8 + 2 * n + 2 * i) 0 ≡ w i % 256
  pub word1 : (i : ℕ) → i < n → get_or t (9 + 2 * n + 2 * i) 0 ≡ w i / 256 % 256
  pub value0 : (i : ℕ) → i < n → get_or t (8 + 4 * n + 4 * i) 0 ≡ v i % 256
  pub value1 : (i : ℕ) → i < n → get_or t (9 + 4 * n + 4 * i) 0 ≡ v i / 256 % 256
  pub value2 : (i : ℕ) → i < n → get_or t (10 + 4 * n + 4 * i) 0 ≡ v i / 65536 % 256
  pub value3 : (i : ℕ) → i < n → get_or t (11 + 4 * n + 4 * i) 0 ≡ v i / 16777216 % 256
  pub index : (j : ℕ) → j ≤ k → get_or t (8 + 8 * n + j) 0 ≡ x j
  pub rest : (j : ℕ) → 9 + 8 * n + k ≤ j → get_or t j 0 ≡ get_or s j 0

-- a byte stands in one of the fields
module _ (n k : ℕ) (P : ℕ → Type 0)
    (first : P 0) (second : P 1) (in_List : (j : ℕ) → j < 6 + 2 * n → P (2 + j))
    (in-word0 : (i : ℕ) → i < n → P (8 + 2 * n + 2 * i)) (in-word1 : (i : ℕ) → i < n → P (9 + 2 * n + 2 * i))
    (in-value0 : (i : ℕ) → i < n → P (8 + 4 * n + 4 * i)) (in-value1 : (i : ℕ) → i < n → P (9 + 4 * n + 4 * i))
    (in-value2 : (i : ℕ) → i < n → P (10 + 4 * n + 4 * i)) (in-value3 : (i : ℕ) → i < n → P (11 + 4 * n + 4 * i))
    (in-index : (j : ℕ) → j ≤ k → P (8 + 8 * n + j)) (in_rest : (j : ℕ) → 9 + 8 * n + k ≤ j → P j)
  where
    there : (j p : ℕ) → j ≡ p → P p → P j
    there j p q e = subst P (sym q) e

    by-words : (j : ℕ) → 8 + 2 * n ≤ j → j < 8 + 4 * n → P j
    by-words j a b =
        let d = j - (8 + 2 * n) in
        let i = d / 2 in
        let l : i < n = omega arith in
        elim (dec_lt (d % 2) 1) [
          | yes q ↦ there j (8 + 2 * n + 2 * i) (omega arith) (in-word0 i l)
          | no q ↦ there j (9 + 2 * n + 2 * i) (omega arith) (in-word1 i l)
        ]

    by_values : (j : ℕ) → 8 + 4 * n ≤ j → j < 8 + 8 * n → P j
    by_values j a b =
        let d = j - (8 + 4 * n) in
        let i = d / 4 in
        let l : i < n = omega arith in
        elim (dec_lt (d % 4) 1) [
          | yes q ↦ there j (8 + 4 * n + 4 * i) (omega arith) (in-value0 i l)
          | no q ↦ elim (dec_lt (d % 4) 2) [
            | yes p ↦ there j (9 + 4 * n + 4 * i) (omega arith) (in-value1 i l)
            | no p ↦ elim (dec_lt (d % 4) 3) [
              | yes r ↦ there j (10 + 4 * n + 4 * i) (omega arith) (in-value2 i l)
              | no r ↦ there j (11 + 4 * n + 4 * i) (omega arith) (in-value3 i l)
            ]
          ]
        ]

    by-tail : (j : ℕ) → 8 + 8 * n ≤ j → P j
    by-tail j a =
        let d = j - (8 + 8 * n) in
        elim (dec_lt k d) [
          | yes q ↦ in_rest j (omega arith)
          | no q ↦ there j (8 + 8 * n + d) (omega arith) (in-index d (omega arith))
        ]

    pub by_region : (j : ℕ) → P j
    by_region j =
        elim (dec_lt j 2) [
          | yes q ↦ elim (dec_lt j 1) [ yes p ↦ there j 0 (omega arith) first | no p ↦ there j 1 (omega arith) second ]
          | no q ↦ elim (dec_lt j (8 + 2 * n)) [
            | yes p ↦ there j (2 + (j - 2)) (omega arith) (in_List (j - 2) (omega arith))
            | no p ↦ elim (dec_lt j (8 + 4 * n)) [
              | yes r ↦ by-words j (omega arith) r
              | no r ↦ elim (dec_lt j (8 + 8 * n)) [ yes z ↦ by_values j (omega arith) z | no z ↦ by-tail j (omega arith) ]
            ]
          ]
        ]

module _ (n k : ℕ) (s : List ℕ) (l : List ℕ) where
  -- fields that are the same at each place are the same
  pub has_same : (t : List ℕ) (w v x w' v' x' : ℕ → ℕ) → Has n k s t l w v x → ((i : ℕ) → i < n → w i ≡ w' i) → ((i : ℕ) → i < n → v i ≡ v' i) → ((j : ℕ) → j ≤ k → x j ≡ x' j) → Has n k s t l w' v' x'
  has_same t w v x w' v' x' h p q r =
      record {
        len = h.len;
        k_max0 = h.k_max0;
        k_max1 = h.k_max1;
        list = h.list;
        word0 = λ i l. h.word0 i l ∙ ap (λ (y : ℕ). y % 256) (p i l);
        word1 = λ i l. h.word1 i l ∙ ap (λ (y : ℕ). y / 256 % 256) (p i l);
        value0 = λ i l. h.value0 i l ∙ ap (λ (y : ℕ). y % 256) (q i l);
        value1 = λ i l. h.value1 i l ∙ ap (λ (y : ℕ). y / 256 % 256) (q i l);
        value2 = λ i l. h.value2 i l ∙ ap (λ (y : ℕ). y / 65536 % 256) (q i l);
        value3 = λ i l. h.value3 i l ∙ ap (λ (y : ℕ). y / 16777216 % 256) (q i l);
        index = λ j l. h.index j l ∙ r j l;
        rest = h.rest;
      }

  module _ (t u : List ℕ) (w v x : ℕ → ℕ) (h : Has n k s t l w v x) (g : Has n k s u l w v x) where
    pub has_one : t ≡ u
    has_one =
        let c = 6 + 2 * n in
        let o : (y : List ℕ) (j : ℕ) → j < c → get_or (take c (drop 2 y)) j 0 ≡ get_or y (2 + j) 0 = λ y j h. get_or-take c (drop 2 y) j 0 h ∙ get_or-drop 2 y j 0 in
        ext_get_or 0 t u (h.len ∙ sym g.len) (λ j d.
        by_region n k (λ j. get_or t j 0 ≡ get_or u j 0)
        (h.k_max0 ∙ sym g.k_max0)
        (h.k_max1 ∙ sym g.k_max1)
        (λ j b. sym (o t j b) ∙ ap (λ (y : List ℕ). get_or y j 0) (h.list ∙ sym g.list) ∙ o u j b)
        (λ i b. h.word0 i b ∙ sym (g.word0 i b))
        (λ i b. h.word1 i b ∙ sym (g.word1 i b))
        (λ i b. h.value0 i b ∙ sym (g.value0 i b))
        (λ i b. h.value1 i b ∙ sym (g.value1 i b))
        (λ i b. h.value2 i b ∙ sym (g.value2 i b))
        (λ i b. h.value3 i b ∙ sym (g.value3 i b))
        (λ j b. h.index j b ∙ sym (g.index j b))
        (λ j b. h.rest j b ∙ sym (g.rest j b))
        j)

  -- bytes in the fields are bytes
  pub has-bytes : (t : List ℕ) (w v x : ℕ → ℕ) → Has n k s t l w v x → Bytes s → Bytes l → ((j : ℕ) → j ≤ k → x j < 256) → Bytes t
  has-bytes t w v x h ys yl yx =
      let c = 6 + 2 * n in
      by_region n k (λ j. get_or t j 0 < 256)
      (omega (arith, h.k_max0))
      (omega (arith, h.k_max1))
      (λ j b. omega (arith, get_or-take c (drop 2 t) j 0 b, get_or-drop 2 t j 0, ap (λ (y : List ℕ). get_or y j 0) h.list, yl j))
      (λ i b. omega (arith, h.word0 i b))
      (λ i b. omega (arith, h.word1 i b))
      (λ i b. omega (arith, h.value0 i b))
      (λ i b. omega (arith, h.value1 i b))
      (λ i b. omega (arith, h.value2 i b))
      (λ i b. omega (arith, h.value3 i b))
      (λ j b. omega (arith, h.index j b, yx j b))
      (λ j b. omega (arith, h.rest j b, ys j))
