-- The fields of the bytes that are laid out.
use Prim.Native.Nat.{ℕ, zero, suc, ◌+◌, ◌-◌, ◌*◌, ◌/◌, ◌%◌, ◌<◌}
use mathlib.Core.Path.{◌≡◌, refl, sym, ap, ◌∙◌, subst}
use mathlib.Core.List.{List, ◌++◌}
use native.Mathlib.Omega.{arith}
use native.Mathlib.Nat.{not-suc-le-zero}
use lib.ListN.{length, get_or, take, drop, length-append, length-drop, get_or-append}
use lib.Seq.{get_or-append-add, get_or-drop, take_at, drop_at}
use Rattle.state.specs.Lengths.{keys_length}
use Rattle.state.specs.Seq.{each}
use Rattle.state.proofs.Seq.{length-each, get_d_each}
use Rattle.multi_cycle_list.specs.Laid as lists
use Rattle.multi_cycle_list.proofs.Laid.{out-length, twos-length, twos-at}
use Rattle.index_entries.specs.Keys.{Keys, slot, found}
use Rattle.index_entries.specs.Bytes.{key_word, value, index}
use Rattle.index_entries.specs.Laid.{word_over, value_over, index_over, words, longs, laid}
use Rattle.index_entries.proofs.Fields.{Has}

length-words : (n : ℕ) (f : ℕ → ℕ) → length (words n f) ≡ 2 * n
unfolding words
length-words n f = twos-length n (λ i. f i % 256) (λ i. f i / 256 % 256)

words-at : (n : ℕ) (f : ℕ → ℕ) (i : ℕ) → i < n → (get_or (words n f) (2 * i) 0 ≡ f i % 256) × (get_or (words n f) (suc (2 * i)) 0 ≡ f i / 256 % 256)
unfolding words
words-at n f i h = twos-at n (λ i. f i % 256) (λ i. f i / 256 % 256) i h

length-longs : (n : ℕ) (f : ℕ → ℕ) → length (longs n f) ≡ 4 * n
unfolding longs
length-longs zero f = refl
length-longs (suc n) f = omega (arith, length-longs n (λ i. f (suc i)))

record Long (l : List ℕ) (i y : ℕ) : Type 0 where
  b0 : get_or l (4 * i) 0 ≡ y % 256
  b1 : get_or l (1 + 4 * i) 0 ≡ y / 256 % 256
  b2 : get_or l (2 + 4 * i) 0 ≡ y / 65536 % 256
  b3 : get_or l (3 + 4 * i) 0 ≡ y / 16777216 % 256

longs-at : (n : ℕ) (f : ℕ → ℕ) (i : ℕ) → i < n → Long (longs n f) i (f i)
unfolding longs
longs-at zero f i h = absurd (not-suc-le-zero h)
longs-at (suc n) f zero h = record { b0 = refl; b1 = refl; b2 = refl; b3 = refl }
longs-at (suc n) f (suc i) h =
    let w = longs-at n (λ j. f (suc j)) i (omega arith) in
    let q0 : 4 * suc i ≡ suc (suc (suc (suc (4 * i)))) = omega arith in
    let q1 : 1 + 4 * suc i ≡ suc (suc (suc (suc (1 + 4 * i)))) = omega arith in
    let q2 : 2 + 4 * suc i ≡ suc (suc (suc (suc (2 + 4 * i)))) = omega arith in
    let q3 : 3 + 4 * suc i ≡ suc (suc (suc (suc (3 + 4 * i)))) = omega arith in
    record { b0 = rw q0 w.b0; b1 = rw q1 w.b1; b2 = rw q2 w.b2; b3 = rw q3 w.b3 }

-- six lists end to end
module _ (A B C D E F : List ℕ) where
  all : List ℕ
  all = A ++ (B ++ (C ++ (D ++ (E ++ F))))

  in_a : (j : ℕ) → j < length A → get_or all j 0 ≡ get_or A j 0
  unfolding all
  in_a j h = get_or-append A (B ++ (C ++ (D ++ (E ++ F)))) 0 j h

  after-b : (j : ℕ) → get_or all (length A + (length B + j)) 0 ≡ get_or (C ++ (D ++ (E ++ F))) j 0
  unfolding all
  after-b j = get_or-append-add A (B ++ (C ++ (D ++ (E ++ F)))) (length B + j) 0 ∙ get_or-append-add B (C ++ (D ++ (E ++ F))) j 0

  in_c : (j p : ℕ) → j < length C → length A + (length B + j) ≡ p → get_or all p 0 ≡ get_or C j 0
  in_c j p h q = ap (λ (z : ℕ). get_or all z 0) (sym q) ∙ after-b j ∙ get_or-append C (D ++ (E ++ F)) 0 j h

  after-c : (j : ℕ) → get_or all (length A + (length B + (length C + j))) 0 ≡ get_or (D ++ (E ++ F)) j 0
  after-c j = after-b (length C + j) ∙ get_or-append-add C (D ++ (E ++ F)) j 0

  in_d : (j p : ℕ) → j < length D → length A + (length B + (length C + j)) ≡ p → get_or all p 0 ≡ get_or D j 0
  in_d j p h q = ap (λ (z : ℕ). get_or all z 0) (sym q) ∙ after-c j ∙ get_or-append D (E ++ F) 0 j h

  after-d : (j : ℕ) → get_or all (length A + (length B + (length C + (length D + j)))) 0 ≡ get_or (E ++ F) j 0
  after-d j = after-c (length D + j) ∙ get_or-append-add D (E ++ F) j 0

  in_e : (j p : ℕ) → j < length E → length A + (length B + (length C + (length D + j))) ≡ p → get_or all p 0 ≡ get_or E j 0
  in_e j p h q = ap (λ (z : ℕ). get_or all z 0) (sym q) ∙ after-d j ∙ get_or-append E F 0 j h

  in_f : (j p : ℕ) → length A + (length B + (length C + (length D + (length E + j)))) ≡ p → get_or all p 0 ≡ get_or F j 0
  in_f j p q = ap (λ (z : ℕ). get_or all z 0) (sym q) ∙ after-d (length E + j) ∙ get_or-append-add E F j 0

module _ (m : Keys) (b : List ℕ) (two : length m.lists.rows ≡ 2) (same : m.lists.entries ≡ length m.slots) (fit : length b ≡ keys_length m.k_max (length m.slots)) where
  n : ℕ
  n = length m.slots

  keys : ℕ → ℕ
  keys i = word_over (slot m i) (key_word (length m.slots) b i)

  vals : ℕ → ℕ
  vals i = value_over (slot m i) (value (length m.slots) b i)

  inds : ℕ → ℕ
  inds k = index_over (length m.slots) (found m k) (index (length m.slots) b k)

  pub laid-has : Has (length m.slots) m.k_max b (laid m b) (lists.laid m.lists)
      (λ i. word_over (slot m i) (key_word (length m.slots) b i))
      (λ i. value_over (slot m i) (value (length m.slots) b i))
      (λ k. index_over (length m.slots) (found m k) (index (length m.slots) b k))
  unfolding laid n keys vals inds all
  laid-has =
      let k = m.k_max in
      let A = words 1 (λ i. k) in
      let B = lists.laid m.lists in
      let C = words n keys in
      let D = longs n vals in
      let E = each (k + 1) inds in
      let F = drop (9 + 8 * n + k) b in
      let la : length A ≡ 2 = length-words 1 (λ i. k) in
      let lb : length B ≡ 6 + 2 * n = omega (arith, out-length (length m.lists.rows) m.lists.entries (lists.arcs (length m.lists.rows) 0 m.lists.rows), two, same) in
      let lc : length C ≡ 2 * n = length-words n keys in
      let ld : length D ≡ 4 * n = length-longs n vals in
      let le : length E ≡ k + 1 = length-each (k + 1) inds in
      record {
        len = simp (length-append, length-drop) (omega (arith, la, lb, lc, ld, le, fit));
        k_max0 = in_a A B C D E F 0 (omega (arith, la)) ∙ (words-at 1 (λ i. k) 0 (omega arith)).0;
        k_max1 = in_a A B C D E F 1 (omega (arith, la)) ∙ (words-at 1 (λ i. k) 0 (omega arith)).1;
        list = ap (take (6 + 2 * n)) (drop_at A (B ++ (C ++ (D ++ (E ++ F)))) 2 la) ∙ take_at B (C ++ (D ++ (E ++ F))) (6 + 2 * n) lb;
        word0 = λ i h. in_c A B C D E F (2 * i) (8 + 2 * n + 2 * i) (omega (arith, lc)) (omega (arith, la, lb)) ∙ (words-at n keys i h).0;
        word1 = λ i h. in_c A B C D E F (suc (2 * i)) (9 + 2 * n + 2 * i) (omega (arith, lc)) (omega (arith, la, lb)) ∙ (words-at n keys i h).1;
        value0 = λ i h. in_d A B C D E F (4 * i) (8 + 4 * n + 4 * i) (omega (arith, ld)) (omega (arith, la, lb, lc)) ∙ (longs-at n vals i h).b0;
        value1 = λ i h. in_d A B C D E F (1 + 4 * i) (9 + 4 * n + 4 * i) (omega (arith, ld)) (omega (arith, la, lb, lc)) ∙ (longs-at n vals i h).b1;
        value2 = λ i h. in_d A B C D E F (2 + 4 * i) (10 + 4 * n + 4 * i) (omega (arith, ld)) (omega (arith, la, lb, lc)) ∙ (longs-at n vals i h).b2;
        value3 = λ i h. in_d A B C D E F (3 + 4 * i) (11 + 4 * n + 4 * i) (omega (arith, ld)) (omega (arith, la, lb, lc)) ∙ (longs-at n vals i h).b3;
        index = λ j h. in_e A B C D E F j (8 + 8 * n + j) (omega (arith, le)) (omega (arith, la, lb, lc, ld)) ∙ get_d_each (k + 1) inds j 0 (omega arith);
        rest = λ j h.
            let d = j - (9 + 8 * n + k) in
            let q : 9 + 8 * n + k + d ≡ j = omega arith in
            in_f A B C D E F d j (omega (arith, la, lb, lc, ld, le)) ∙ get_or-drop (9 + 8 * n + k) b d 0 ∙ ap (λ (z : ℕ). get_or b z 0) q;
      }

  -- the same, with the number of entries under another name
  pub laid-has-at : (n : ℕ) → length m.slots ≡ n → Has n m.k_max b (laid m b) (lists.laid m.lists)
      (λ i. word_over (slot m i) (key_word n b i)) (λ i. value_over (slot m i) (value n b i)) (λ k. index_over n (found m k) (index n b k))
  laid-has-at n q =
      subst (λ (z : ℕ). Has z m.k_max b (laid m b) (lists.laid m.lists) (λ i. word_over (slot m i) (key_word z b i)) (λ i. value_over (slot m i) (value z b i)) (λ k. index_over z (found m k) (index z b k))) q laid-has
