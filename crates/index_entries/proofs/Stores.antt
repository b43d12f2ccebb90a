-- What each store does to the fields.
use Prim.Native.Nat.{ℕ, ◌+◌, ◌-◌, ◌*◌, ◌/◌, ◌%◌, ◌<◌, ◌≤◌}
use mathlib.Core.Path.{◌≡◌, sym, ap, ◌∙◌}
use mathlib.Core.Logic.{◌≢◌}
use mathlib.Core.List.{List, ◌++◌}
use mathlib.Core.Bool.{cond}
use native.Mathlib.Omega.{arith}
use native.Mathlib.Decide.{ℕ_discrete}
use lib.ListN.{length, get_or, set, take, drop, length-set, length-take, length-drop, length-append, get_or-append}
use lib.Seq.{ext_get_or, get_or-take, get_or-drop, get_or-set_same, get_or-set_other, get_or-append-add, length-take-le, take_at, drop_at}
use lib.Dec.{eqb}
use borrow.Author.Tests.{eq-eqb, ne_eqb}
use Rattle.state.proofs.Numbers.{second-byte, fourth_byte}
use Rattle.index_entries.specs.Inner.{set_word, set_long}
use Rattle.index_entries.proofs.Fields.{Has}

-- f with y at i
abbrev pub upd : (ℕ → ℕ) → ℕ → ℕ → ℕ → ℕ
upd f i y j = cond (eqb j i) y (f j)

pub upd_same : (f : ℕ → ℕ) (i y j : ℕ) → j ≡ i → upd f i y j ≡ y
upd_same f i y j q = rw (eq-eqb j i q)

pub upd_other : (f : ℕ → ℕ) (i y j : ℕ) → j ≢ i → upd f i y j ≡ f j
upd_other f i y j q = rw (ne_eqb j i q)

-- t and u are the same but for the m bytes from a
pub record Apart (t u : List ℕ) (a m : ℕ) : Type 0 where
  pub len : length u ≡ length t
  pub same : (j : ℕ) → (a ≤ j → a + m ≤ j) → get_or u j 0 ≡ get_or t j 0

pub apart-set : (t : List ℕ) (a y : ℕ) → Apart t (set t a y) a 1
apart-set t a y = record { len = length-set t a y; same = λ j o. get_or-set_other t a j y 0 (λ q. omega (arith, o (omega arith))) }

-- one more byte
pub apart_more : (t u : List ℕ) (a m y : ℕ) → Apart t u a m → Apart t (set u (a + m) y) a (m + 1)
apart_more t u a m y h =
    record {
      len = length-set u (a + m) y ∙ h.len;
      same = λ j o. get_or-set_other u (a + m) j y 0 (λ q. omega (arith, o (omega arith))) ∙ h.same j (λ l. omega (arith, o l));
    }

-- the list queue is as it was where the bytes apart come after it
module _ (n : ℕ) (t u : List ℕ) (a m : ℕ) (h : Apart t u a m) (far : 8 + 2 * n ≤ a) (fit : 8 + 2 * n ≤ length t) where
  same-list : take (6 + 2 * n) (drop 2 u) ≡ take (6 + 2 * n) (drop 2 t)
  same-list =
      let c = 6 + 2 * n in
      ext_get_or 0 (take c (drop 2 u)) (take c (drop 2 t)) (simp (length-take, length-drop) (omega (arith, h.len))) (λ j l.
      let lj : j < c = omega (arith, simp (length-take, length-drop) at l) in
      get_or-take c (drop 2 u) j 0 lj ∙ get_or-drop 2 u j 0 ∙ h.same (2 + j) (λ o. omega arith) ∙ sym (get_or-drop 2 t j 0) ∙ sym (get_or-take c (drop 2 t) j 0 lj))

module _ (n k : ℕ) (s t l : List ℕ) (w v x : ℕ → ℕ) (h : Has n k s t l w v x) (u : List ℕ) where
  long : 9 + 8 * n + k ≤ length t
  long = omega (arith, h.len)

  -- the key word y of the entry i
  pub has_word : (i y : ℕ) → i < n → Apart t u (8 + 2 * n + 2 * i) 2 → get_or u (8 + 2 * n + 2 * i) 0 ≡ y % 256 → get_or u (9 + 2 * n + 2 * i) 0 ≡ y / 256 % 256
      → Has n k s u l (upd w i y) v x
  has_word i y hi a b0 b1 =
      record {
        len = a.len ∙ h.len;
        k_max0 = a.same 0 (λ o. omega arith) ∙ h.k_max0;
        k_max1 = a.same 1 (λ o. omega arith) ∙ h.k_max1;
        list = same-list n t u (8 + 2 * n + 2 * i) 2 a (omega arith) (omega (arith, long)) ∙ h.list;
        word0 = λ j lj.
            elim (ℕ_discrete j i) [
              | yes q ↦ ap (λ (z : ℕ). get_or u (8 + 2 * n + 2 * z) 0) q ∙ b0 ∙ ap (λ (z : ℕ). z % 256) (sym (upd_same w i y j q))
              | no q ↦ a.same (8 + 2 * n + 2 * j) (λ o. omega arith) ∙ h.word0 j lj ∙ ap (λ (z : ℕ). z % 256) (sym (upd_other w i y j q))
            ];
        word1 = λ j lj.
            elim (ℕ_discrete j i) [
              | yes q ↦ ap (λ (z : ℕ). get_or u (9 + 2 * n + 2 * z) 0) q ∙ b1 ∙ ap (λ (z : ℕ). z / 256 % 256) (sym (upd_same w i y j q))
              | no q ↦ a.same (9 + 2 * n + 2 * j) (λ o. omega arith) ∙ h.word1 j lj ∙ ap (λ (z : ℕ). z / 256 % 256) (sym (upd_other w i y j q))
            ];
        value0 = λ j lj. a.same (8 + 4 * n + 4 * j) (λ o. omega arith) ∙ h.value0 j lj;
        value1 = λ j lj. a.same (9 + 4 * n + 4 * j) (λ o. omega arith) ∙ h.value1 j lj;
        value2 = λ j lj. a.same (10 + 4 * n + 4 * j) (λ o. omega arith) ∙ h.value2 j lj;
        value3 = λ j lj. a.same (11 + 4 * n + 4 * j) (λ o. omega arith) ∙ h.value3 j lj;
        index = λ j lj. a.same (8 + 8 * n + j) (λ o. omega arith) ∙ h.index j lj;
        rest = λ j lj. a.same j (λ o. omega arith) ∙ h.rest j lj;
      }

  -- a byte of the value y of the entry i
  value-byte : (d : ℕ → ℕ) (p i y : ℕ) → p < 4 → i < n → Apart t u (8 + 4 * n + 4 * i) 4 → get_or u (8 + p + 4 * n + 4 * i) 0 ≡ d y → ((j : ℕ) → j < n → get_or t (8 + p + 4 * n + 4 * j) 0 ≡ d (v j))
      → (j : ℕ) → j < n → get_or u (8 + p + 4 * n + 4 * j) 0 ≡ d (upd v i y j)
  value-byte d p i y hp hi a b f j lj =
      elim (ℕ_discrete j i) [
        | yes q ↦ ap (λ (z : ℕ). get_or u (8 + p + 4 * n + 4 * z) 0) q ∙ b ∙ ap d (sym (upd_same v i y j q))
        | no q ↦ a.same (8 + p + 4 * n + 4 * j) (λ o. omega arith) ∙ f j lj ∙ ap d (sym (upd_other v i y j q))
      ]

  pub has_value : (i y : ℕ) → i < n → Apart t u (8 + 4 * n + 4 * i) 4 → get_or u (8 + 4 * n + 4 * i) 0 ≡ y % 256 → get_or u (9 + 4 * n + 4 * i) 0 ≡ y / 256 % 256
      → get_or u (10 + 4 * n + 4 * i) 0 ≡ y / 65536 % 256 → get_or u (11 + 4 * n + 4 * i) 0 ≡ y / 16777216 % 256 → Has n k s u l w (upd v i y) x
  has_value i y hi a b0 b1 b2 b3 =
      record {
        len = a.len ∙ h.len;
        k_max0 = a.same 0 (λ o. omega arith) ∙ h.k_max0;
        k_max1 = a.same 1 (λ o. omega arith) ∙ h.k_max1;
        list = same-list n t u (8 + 4 * n + 4 * i) 4 a (omega arith) (omega (arith, long)) ∙ h.list;
        word0 = λ j lj. a.same (8 + 2 * n + 2 * j) (λ o. omega arith) ∙ h.word0 j lj;
        word1 = λ j lj. a.same (9 + 2 * n + 2 * j) (λ o. omega arith) ∙ h.word1 j lj;
        value0 = value-byte (λ z. z % 256) 0 i y (omega arith) hi a b0 h.value0;
        value1 = value-byte (λ z. z / 256 % 256) 1 i y (omega arith) hi a b1 h.value1;
        value2 = value-byte (λ z. z / 65536 % 256) 2 i y (omega arith) hi a b2 h.value2;
        value3 = value-byte (λ z. z / 16777216 % 256) 3 i y (omega arith) hi a b3 h.value3;
        index = λ j lj. a.same (8 + 8 * n + j) (λ o. omega arith) ∙ h.index j lj;
        rest = λ j lj. a.same j (λ o. omega arith) ∙ h.rest j lj;
      }

  -- the index y of the key i
  pub has-index : (i y : ℕ) → i ≤ k → Apart t u (8 + 8 * n + i) 1 → get_or u (8 + 8 * n + i) 0 ≡ y → Has n k s u l w v (upd x i y)
  has-index i y hi a b =
      record {
        len = a.len ∙ h.len;
        k_max0 = a.same 0 (λ o. omega arith) ∙ h.k_max0;
        k_max1 = a.same 1 (λ o. omega arith) ∙ h.k_max1;
        list = same-list n t u (8 + 8 * n + i) 1 a (omega arith) (omega (arith, long)) ∙ h.list;
        word0 = λ j lj. a.same (8 + 2 * n + 2 * j) (λ o. omega arith) ∙ h.word0 j lj;
        word1 = λ j lj. a.same (9 + 2 * n + 2 * j) (λ o. omega arith) ∙ h.word1 j lj;
        value0 = λ j lj. a.same (8 + 4 * n + 4 * j) (λ o. omega arith) ∙ h.value0 j lj;
        value1 = λ j lj. a.same (9 + 4 * n + 4 * j) (λ o. omega arith) ∙ h.value1 j lj;
        value2 = λ j lj. a.same (10 + 4 * n + 4 * j) (λ o. omega arith) ∙ h.value2 j lj;
        value3 = λ j lj. a.same (11 + 4 * n + 4 * j) (λ o. omega arith) ∙ h.value3 j lj;
        index = λ j lj.
            elim (ℕ_discrete j i) [
              | yes q ↦ ap (λ (z : ℕ). get_or u (8 + 8 * n + z) 0) q ∙ b ∙ sym (upd_same x i y j q)
              | no q ↦ a.same (8 + 8 * n + j) (λ o. omega arith) ∙ h.index j lj ∙ sym (upd_other x i y j q)
            ];
        rest = λ j lj. a.same j (λ o. omega arith) ∙ h.rest j lj;
      }

-- the list queue replaced by p
module _ (n k : ℕ) (s t l : List ℕ) (w v x : ℕ → ℕ) (h : Has n k s t l w v x) (p : List ℕ) (long-p : length p ≡ 6 + 2 * n) where
  two : length (take 2 t) ≡ 2
  two = length-take-le 2 t (omega (arith, h.len))

  pub past-list : (j : ℕ) → 8 + 2 * n ≤ j → get_or (take 2 t ++ (p ++ drop (6 + 2 * n) (drop 2 t))) j 0 ≡ get_or t j 0
  past-list j lj =
      let d = j - (8 + 2 * n) in
      let a : length (take 2 t) + (length p + d) ≡ j = omega (arith, two, long-p) in
      let b : 2 + (6 + 2 * n + d) ≡ j = omega arith in
      ap (λ (z : ℕ). get_or (take 2 t ++ (p ++ drop (6 + 2 * n) (drop 2 t))) z 0) (sym a)
      ∙ get_or-append-add (take 2 t) (p ++ drop (6 + 2 * n) (drop 2 t)) (length p + d) 0
      ∙ get_or-append-add p (drop (6 + 2 * n) (drop 2 t)) d 0
      ∙ get_or-drop (6 + 2 * n) (drop 2 t) d 0
      ∙ get_or-drop 2 t (6 + 2 * n + d) 0
      ∙ ap (λ (z : ℕ). get_or t z 0) b

  before-list : (j : ℕ) → j < 2 → get_or (take 2 t ++ (p ++ drop (6 + 2 * n) (drop 2 t))) j 0 ≡ get_or t j 0
  before-list j lj = get_or-append (take 2 t) (p ++ drop (6 + 2 * n) (drop 2 t)) 0 j (omega (arith, two)) ∙ get_or-take 2 t j 0 lj

  pub has-list : Has n k s (take 2 t ++ (p ++ drop (6 + 2 * n) (drop 2 t))) p w v x
  has-list =
      record {
        len = simp (length-append, length-drop) (omega (arith, two, long-p, h.len));
        k_max0 = before-list 0 (omega arith) ∙ h.k_max0;
        k_max1 = before-list 1 (omega arith) ∙ h.k_max1;
        list = ap (take (6 + 2 * n)) (drop_at (take 2 t) (p ++ drop (6 + 2 * n) (drop 2 t)) 2 two) ∙ take_at p (drop (6 + 2 * n) (drop 2 t)) (6 + 2 * n) long-p;
        word0 = λ j lj. past-list (8 + 2 * n + 2 * j) (omega arith) ∙ h.word0 j lj;
        word1 = λ j lj. past-list (9 + 2 * n + 2 * j) (omega arith) ∙ h.word1 j lj;
        value0 = λ j lj. past-list (8 + 4 * n + 4 * j) (omega arith) ∙ h.value0 j lj;
        value1 = λ j lj. past-list (9 + 4 * n + 4 * j) (omega arith) ∙ h.value1 j lj;
        value2 = λ j lj. past-list (10 + 4 * n + 4 * j) (omega arith) ∙ h.value2 j lj;
        value3 = λ j lj. past-list (11 + 4 * n + 4 * j) (omega arith) ∙ h.value3 j lj;
        index = λ j lj. past-list (8 + 8 * n + j) (omega arith) ∙ h.index j lj;
        rest = λ j lj. past-list j (omega arith) ∙ h.rest j lj;
      }

-- ---- the stores of the code

word_apart : (t : List ℕ) (a y : ℕ) → Apart t (set_word t a y) a 2
word_apart t a y = apart_more t (set t a (y % 256)) a 1 (y / 256) (apart-set t a (y % 256))

word_low : (t : List ℕ) (a y : ℕ) → a < length t → get_or (set_word t a y) a 0 ≡ y % 256
word_low t a y h = get_or-set_other (set t a (y % 256)) (a + 1) a (y / 256) 0 (omega arith) ∙ get_or-set_same t a (y % 256) 0 h

word_high : (t : List ℕ) (a y : ℕ) → a + 1 < length t → get_or (set_word t a y) (a + 1) 0 ≡ y / 256
word_high t a y h = get_or-set_same (set t a (y % 256)) (a + 1) (y / 256) 0 (omega (arith, length-set t a (y % 256)))

long_apart : (t : List ℕ) (a y : ℕ) → Apart t (set_long t a y) a 4
long_apart t a y =
    let u = set_word t a (y % 65536) in
    let p = word_apart t a (y % 65536) in
    let q = word_apart u (a + 2) (y / 65536) in
    record { len = q.len ∙ p.len; same = λ j o. q.same j (λ l. omega (arith, o (omega arith))) ∙ p.same j (λ l. omega (arith, o l)) }

module _ (n k : ℕ) (s t l : List ℕ) (w v x : ℕ → ℕ) (h : Has n k s t l w v x) where
  pub store_word : (i y : ℕ) → i < n → y < 65536 → Has n k s (set_word t (8 + 2 * n + 2 * i) y) l (upd w i y) v x
  store_word i y hi b =
      let a = 8 + 2 * n + 2 * i in
      let fit : a + 1 < length t = omega (arith, h.len) in
      let q : 9 + 2 * n + 2 * i ≡ a + 1 = omega arith in
      has_word n k s t l w v x h (set_word t a y) i y hi (word_apart t a y) (word_low t a y (omega arith))
      (ap (λ (z : ℕ). get_or (set_word t a y) z 0) q ∙ word_high t a y fit ∙ omega arith)

  pub store_index : (i y : ℕ) → i ≤ k → Has n k s (set t (8 + 8 * n + i) y) l w v (upd x i y)
  store_index i y hi =
      has-index n k s t l w v x h (set t (8 + 8 * n + i) y) i y hi (apart-set t (8 + 8 * n + i) y) (get_or-set_same t (8 + 8 * n + i) y 0 (omega (arith, h.len)))

  pub store_long : (i y : ℕ) → i < n → y < 4294967296 → Has n k s (set_long t (8 + 4 * n + 4 * i) y) l w (upd v i y) x
  store_long i y hi b =
      let a = 8 + 4 * n + 4 * i in
      let u = set_word t a (y % 65536) in
      let d = y / 65536 in
      let fit : a + 3 < length t = omega (arith, h.len) in
      let lu : length u ≡ length t = (word_apart t a (y % 65536)).len in
      let q1 : 9 + 4 * n + 4 * i ≡ a + 1 = omega arith in
      let q2 : 10 + 4 * n + 4 * i ≡ a + 2 = omega arith in
      let q3 : 11 + 4 * n + 4 * i ≡ a + 2 + 1 = omega arith in
      let o : (j : ℕ) → j < a + 2 → get_or (set_long t a y) j 0 ≡ get_or u j 0 = λ j g. (word_apart u (a + 2) d).same j (λ l. omega arith) in
      let e0 : y % 65536 % 256 ≡ y % 256 = omega arith in
      let e1 = second-byte y in
      let e3 = fourth_byte y b in
      has_value n k s t l w v x h (set_long t a y) i y hi (long_apart t a y)
      (o a (omega arith) ∙ word_low t a (y % 65536) (omega arith) ∙ e0)
      (ap (λ (z : ℕ). get_or (set_long t a y) z 0) q1 ∙ o (a + 1) (omega arith) ∙ word_high t a (y % 65536) (omega arith) ∙ e1)
      (ap (λ (z : ℕ). get_or (set_long t a y) z 0) q2 ∙ word_low u (a + 2) d (omega (arith, lu)))
      (ap (λ (z : ℕ). get_or (set_long t a y) z 0) q3 ∙ word_high u (a + 2) d (omega (arith, lu)) ∙ e3)
