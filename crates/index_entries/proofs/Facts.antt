-- What the test of wholeness tells, and the meaning of whole bytes.
use Prim.Native.Nat.{ℕ, ◌+◌, ◌-◌, ◌*◌, ◌/◌, ◌%◌, ◌^◌, ◌<◌, ◌≤◌}
use mathlib.Core.Path.{◌≡◌, refl, sym, ap, ◌∙◌, subst}
use mathlib.Core.List.{List}
use mathlib.Core.Bool.{true, false, cond, ◌&&◌, not}
use native.Mathlib.Omega.{arith}
use native.Mathlib.Decide.{dec_lt}
use lib.ListN.{length, get_or, drop, get_or-eq_default}
use lib.Seq.{get_or-take, get_or-drop}
use lib.Dec.{leb, ltb, eqb}
use borrow.Author.Tests.{lt-ltb, le-ltb, ltb-true, le-leb, leb-true, eq-eqb, eqb-true, not-true}
use Rattle.state.specs.Lengths.{keys_allowed, keys_length}
use Rattle.state.specs.Outcome.{Bytes}
use Rattle.state.specs.Seq.{all_b, each}
use Rattle.state.proofs.Seq.{all_true, all-at, length-each, get_d_each}
use Rattle.state.proofs.Tests.{and_l, and_r, and4, not-both, false_of}
use Rattle.multi_cycle_list.specs.Lists.{count, row}
use Rattle.multi_cycle_list.specs.Nodes as nodes
use Rattle.multi_cycle_list.proofs.Meaning.{list_at}
use Rattle.multi_cycle_list.proofs.Laid as mcl
use Rattle.multi_cycle_list.proofs.Changes.{rows-length}
use Rattle.index_entries.specs.Keys.{Slot, free, holds, spent, has_key, is_free, slot, missing, at, found, Within, ValidKeys}
use Rattle.index_entries.specs.Bytes.{word_at, k_max, entries, list_part, key_word, value, index, slot_of, slot_at, read, sizes_b, lists_b, is_listed, indexed, slot_b, key_b, whole_b}
use Rattle.index_entries.specs.Laid.{word_over, value_over, index_over, laid}
use Rattle.index_entries.proofs.Find.{found_none, found_at}
use Rattle.index_entries.proofs.Fields.{Has, has_same, has_one}
use Rattle.index_entries.proofs.LaidFields.{laid-has-at}

pub keys-allowed : (k e : ℕ) → keys_allowed k e ≡ true → (k ≤ 8191) × (e ≤ 222)
keys-allowed k e h = (leb-true k 8191 (and_l (leb k 8191) (leb e 222) h), leb-true e 222 (and_r (leb k 8191) (leb e 222) h))

pub few : (k e : ℕ) → keys_allowed k e ≡ true → e ≤ 222
few k e h = (keys-allowed k e h).1

pub allowed-keys : (k e : ℕ) → k ≤ 8191 → e ≤ 222 → keys_allowed k e ≡ true
allowed-keys k e a b = rw (le-leb k 8191 a, le-leb e 222 b)

pub record Facts (b : List ℕ) : Type 0 where
  pub low : k_max b ≤ 8191
  pub few : entries b ≤ 222
  pub len : length b ≡ keys_length (k_max b) (entries b)
  pub two : nodes.classes (list_part b) ≡ 2
  pub lists : nodes.whole_b (list_part b) ≡ true
  pub slots : (i : ℕ) → i < entries b → slot_b b i (slot_at b i) ≡ true
  pub keys : (k : ℕ) → k ≤ k_max b → key_b b k ≡ true

pub facts_of : (b : List ℕ) → whole_b b ≡ true → Facts b
unfolding whole_b sizes_b lists_b
facts_of b h =
    let q = and4 (sizes_b b) (lists_b b) (all_b (entries b) (λ i. slot_b b i (slot_at b i))) (all_b (k_max b + 1) (key_b b)) h in
    let a = keys-allowed (k_max b) (entries b) (and_l (keys_allowed (k_max b) (entries b)) (eqb (length b) (keys_length (k_max b) (entries b))) q.0) in
    record {
      low = a.0;
      few = a.1;
      len = eqb-true _ _ (and_r (keys_allowed (k_max b) (entries b)) (eqb (length b) (keys_length (k_max b) (entries b))) q.0);
      two = eqb-true _ _ (and_l (eqb (nodes.classes (list_part b)) 2) (nodes.whole_b (list_part b)) q.1);
      lists = and_r (eqb (nodes.classes (list_part b)) 2) (nodes.whole_b (list_part b)) q.1;
      slots = all-at (entries b) (λ i. slot_b b i (slot_at b i)) q.2;
      keys = λ k l. all-at (k_max b + 1) (key_b b) q.3 k (omega arith);
    }

pub of_facts : (b : List ℕ) → Facts b → whole_b b ≡ true
unfolding whole_b sizes_b lists_b
of_facts b f =
    rw (
      le-leb (k_max b) 8191 f.low,
      le-leb (entries b) 222 f.few,
      eq-eqb (length b) (keys_length (k_max b) (entries b)) f.len,
      eq-eqb (nodes.classes (list_part b)) 2 f.two,
      f.lists,
      all_true (entries b) (λ i. slot_b b i (slot_at b i)) f.slots,
      all_true (k_max b + 1) (key_b b) (λ k l. f.keys k (omega arith)),
    )

-- ---- one slot

-- a slot by its word
pub by_word : (P : Slot → Type 0) (w v : ℕ) → (w < 8192 → P (holds w v)) → (8192 ≤ w → w < 16384 → P (spent (w - 8192))) → (16384 ≤ w → P free) → P (slot_of w v)
by_word P w v a b c =
    elim (dec_lt w 8192) [
      | yes q ↦ rw (lt-ltb w 8192 q) (a q)
      | no q ↦ elim (dec_lt w 16384) [
        | yes p ↦ rw (le-ltb w 8192 (omega arith), lt-ltb w 16384 p) (b (omega arith) p)
        | no p ↦ rw (le-ltb w 8192 (omega arith), le-ltb w 16384 (omega arith)) (c (omega arith))
      ]
    ]

pub word_self : (w v : ℕ) → word_over (slot_of w v) w ≡ w
word_self w v = by_word (λ s. word_over s w ≡ w) w v (λ a. refl) (λ a b. omega arith) (λ a. rw (le-leb 16384 w a))

pub value-self : (w v : ℕ) → value_over (slot_of w v) v ≡ v
value-self w v = by_word (λ s. value_over s v ≡ v) w v (λ a. refl) (λ a b. refl) (λ a. refl)

-- what the test of a slot tells
pub record Owns (b : List ℕ) (i k : ℕ) : Type 0 where
  pub within : k ≤ k_max b
  pub named : index (entries b) b k ≡ i
  pub bound : is_listed b i ≡ false

module _ (b : List ℕ) (i : ℕ) where
  keyed : (j k : ℕ) → (indexed b i j && not (is_listed b i)) ≡ true → j ≡ k → Owns b i k
  keyed j k h q =
      let g : (leb j (k_max b) && eqb (index (entries b) b j) i) ≡ true = and_l (indexed b i j) (not (is_listed b i)) h in
      subst (λ (z : ℕ). Owns b i z) q
      (record {
        within = leb-true j (k_max b) (and_l (leb j (k_max b)) (eqb (index (entries b) b j) i) g);
        named = eqb-true _ _ (and_r (leb j (k_max b)) (eqb (index (entries b) b j) i) g);
        bound = not-true (is_listed b i) (and_r (indexed b i j) (not (is_listed b i)) h);
      })

  pub slot_owns : (s : Slot) (k : ℕ) → slot_b b i s ≡ true → has_key k s ≡ true → Owns b i k
  slot_owns free k h q = not-both (sym q)
  slot_owns (holds j v) k h q = keyed j k h (eqb-true j k q)
  slot_owns (spent j) k h q = keyed j k h (eqb-true j k q)

  pub slot-free : (s : Slot) → slot_b b i s ≡ true → is_free s ≡ true → is_listed b i ≡ true
  slot-free free h q = h
  slot-free (holds j v) h q = not-both (sym q)
  slot-free (spent j) h q = not-both (sym q)

  pub slot-listed : (s : Slot) → slot_b b i s ≡ true → is_listed b i ≡ true → is_free s ≡ true
  slot-listed free h q = refl
  slot-listed (holds j v) h q = not-both (sym q ∙ (keyed j j h refl).bound)
  slot-listed (spent j) h q = not-both (sym q ∙ (keyed j j h refl).bound)

  owned : (j : ℕ) → Owns b i j → (indexed b i j && not (is_listed b i)) ≡ true
  owned j o = rw (le-leb j (k_max b) o.within, eq-eqb (index (entries b) b j) i o.named, o.bound)

  -- and what it needs
  pub slot-true : (s : Slot) → ((k : ℕ) → has_key k s ≡ true → Owns b i k) → (is_free s ≡ true → is_listed b i ≡ true) → slot_b b i s ≡ true
  slot-true free o f = f refl
  slot-true (holds j v) o f = owned j (o j (eq-eqb j j refl))
  slot-true (spent j) o f = owned j (o j (eq-eqb j j refl))

-- ---- the bytes of a word and of a number of two words

pub word_bytes : (b : List ℕ) → Bytes b → (p q : ℕ) → q ≡ p + 1 → (get_or b p 0 ≡ word_at b p % 256) × (get_or b q 0 ≡ word_at b p / 256 % 256)
word_bytes b y p q e = (omega (arith, y p), omega (arith, y p, y (p + 1), ap (λ (z : ℕ). get_or b z 0) e))

pub long-bytes : (b : List ℕ) → Bytes b → (p q r u : ℕ) → q ≡ p + 1 → u ≡ r + 1
    → (get_or b p 0 ≡ (word_at b p + 65536 * word_at b r) % 256) × (get_or b q 0 ≡ (word_at b p + 65536 * word_at b r) / 256 % 256)
    × (get_or b r 0 ≡ (word_at b p + 65536 * word_at b r) / 65536 % 256) × (get_or b u 0 ≡ (word_at b p + 65536 * word_at b r) / 16777216 % 256)
long-bytes b y p q r u e d =
    let a0 = y p in
    let a1 = y (p + 1) in
    let a2 = y r in
    let a3 = y (r + 1) in
    let q1 = ap (λ (z : ℕ). get_or b z 0) e in
    let q3 = ap (λ (z : ℕ). get_or b z 0) d in
    (omega arith, omega arith, omega arith, omega arith)

-- ---- the meaning of whole bytes

pub part-entries : (b : List ℕ) → nodes.entries (list_part b) ≡ entries b
part-entries b = get_or-take (6 + 2 * entries b) (drop 2 b) 1 0 (omega arith) ∙ get_or-drop 2 b 1 0

pub slots_length : (b : List ℕ) → length (read b).slots ≡ entries b
slots_length b = length-each (entries b) (slot_at b)

pub slot_in : (b : List ℕ) (i : ℕ) → i < entries b → slot (read b) i ≡ slot_at b i
slot_in b i h = get_d_each (entries b) (slot_at b) i free h

pub slot-out : (b : List ℕ) (i : ℕ) → entries b ≤ i → slot (read b) i ≡ free
slot-out b i h = get_or-eq_default (each (entries b) (slot_at b)) free {n = i} (omega (arith, slots_length b))

-- what holds of each slot in the bytes, and of none, holds of each slot
pub by_read : (b : List ℕ) (P : ℕ → Slot → Type 0) → ((i : ℕ) → i < entries b → P i (slot_at b i)) → ((i : ℕ) → entries b ≤ i → P i free) → (i : ℕ) → P i (slot (read b) i)
by_read b P f g i =
    elim (dec_lt i (entries b)) [
      | yes q ↦ rw (slot_in b i q) (f i q)
      | no q ↦ rw (slot-out b i (omega arith)) (g i (omega arith))
    ]

module _ (b : List ℕ) (f : Facts b) where
  pub part-row : row (nodes.read (list_part b)) 1 ≡ nodes.list_of (list_part b) 1
  part-row = list_at (list_part b) 1 (omega (arith, f.two))

  pub owner : (i k : ℕ) → has_key k (slot (read b) i) ≡ true → (i < entries b) × Owns b i k
  owner i k = by_read b (λ i s. has_key k s ≡ true → (i < entries b) × Owns b i k) (λ i h q. (h, slot_owns b i (slot_at b i) k (f.slots i h) q)) (λ i h q. not-both (sym q)) i

  pub named : (k : ℕ) → k ≤ k_max b → index (entries b) b k < entries b → has_key k (slot (read b) (index (entries b) b k)) ≡ true
  named k h l =
      let x = index (entries b) b k in
      let q : cond (ltb x (entries b)) (has_key k (slot_at b x)) true ≡ true = f.keys k h in
      ap (has_key k) (slot_in b x l) ∙ (rw (lt-ltb x (entries b) l) at q)

  -- the key's index, or none, is what the search finds
  pub found-index : (k : ℕ) → k ≤ k_max b → index (entries b) b k < entries b → found (read b) k ≡ at (index (entries b) b k) (slot (read b) (index (entries b) b k))
  found-index k h l = found_at k (read b).slots (index (entries b) b k) (named k h l) (λ j q. sym (owner j k q).1.named)

  pub found-no-index : (k : ℕ) → entries b ≤ index (entries b) b k → found (read b) k ≡ missing
  found-no-index k l = found_none k (read b).slots (λ j. false_of (has_key k (slot (read b) j)) (λ q. let o = owner j k q in omega (arith, o.0, o.1.named)))

  pub found-past : (k : ℕ) → k_max b < k → found (read b) k ≡ missing
  found-past k l = found_none k (read b).slots (λ j. false_of (has_key k (slot (read b) j)) (λ q. let o = owner j k q in omega (arith, o.1.within)))

  index-self : (k : ℕ) → k ≤ k_max b → index_over (entries b) (found (read b) k) (index (entries b) b k) ≡ index (entries b) b k
  index-self k h =
      let x = index (entries b) b k in
      elim (dec_lt x (entries b)) [
        | yes q ↦ rw (found-index k h q)
        | no q ↦ rw (found-no-index k (omega arith)) (rw (le-leb (entries b) x (omega arith)))
      ]

  pub listed-row : (i : ℕ) → is_listed b i ≡ true → 0 < count i (row (read b).lists 1)
  listed-row i h = rw part-row (ltb-true 0 (count i (nodes.list_of (list_part b) 1)) h)

  pub row_listed : (i : ℕ) → 0 < count i (row (read b).lists 1) → is_listed b i ≡ true
  row_listed i h = lt-ltb 0 (count i (nodes.list_of (list_part b) 1)) (rw part-row at h)

  module _ (y : Bytes b) where
    pub value-fits : (i : ℕ) → value (entries b) b i < 2 ^ 32
    value-fits i =
        let p = 8 + 4 * entries b + 4 * i in
        let r = 10 + 4 * entries b + 4 * i in
        omega (arith, y p, y (p + 1), y r, y (r + 1))

    within_of : (i : ℕ) (w : ℕ) → slot_b b i (slot_of w (value (entries b) b i)) ≡ true → Within (k_max b) (slot_of w (value (entries b) b i))
    within_of i w =
        by_word (λ s. slot_b b i s ≡ true → Within (k_max b) s) w (value (entries b) b i)
        (λ a h. ((keyed b i w w h refl).within, value-fits i))
        (λ a c h. (keyed b i (w - 8192) (w - 8192) h refl).within)
        (λ a h. tt)

    pub read-valid : ValidKeys (read b)
    read-valid =
        record {
          sizes = ap (keys_allowed (k_max b)) (slots_length b) ∙ allowed-keys (k_max b) (entries b) f.low f.few;
          within = by_read b (λ i s. Within (k_max b) s) (λ i h. within_of i (key_word (entries b) b i) (f.slots i h)) (λ i h. tt);
          distinct = λ i j k p q. sym (owner i k p).1.named ∙ (owner j k q).1.named;
          classes = rows-length (list_part b) ∙ f.two;
          entries = part-entries b ∙ sym (slots_length b);
          valid = mcl.read-valid (list_part b) f.lists;
          free_listed = λ i h. by_read b (λ i s. i < entries b → is_free s ≡ true → 0 < count i (row (read b).lists 1)) (λ i l h q. listed-row i (slot-free b i (slot_at b i) (f.slots i l) q)) (λ i l h. absurd (omega arith)) i (omega (arith, slots_length b));
          listed_free = by_read b (λ i s. 0 < count i (row (read b).lists 1) → is_free s ≡ true) (λ i l h. slot-listed b i (slot_at b i) (f.slots i l) (row_listed i h)) (λ i l h. refl);
        }

    -- the bytes' own fields
    pub self-has : Has (entries b) (k_max b) b b (list_part b) (key_word (entries b) b) (value (entries b) b) (index (entries b) b)
    self-has =
        let n = entries b in
        record {
          len = f.len;
          k_max0 = omega (arith, y 0);
          k_max1 = omega (arith, y 0, y 1);
          list = refl;
          word0 = λ i h. (word_bytes b y (8 + 2 * n + 2 * i) (9 + 2 * n + 2 * i) (omega arith)).0;
          word1 = λ i h. (word_bytes b y (8 + 2 * n + 2 * i) (9 + 2 * n + 2 * i) (omega arith)).1;
          value0 = λ i h. (long-bytes b y (8 + 4 * n + 4 * i) (9 + 4 * n + 4 * i) (10 + 4 * n + 4 * i) (11 + 4 * n + 4 * i) (omega arith) (omega arith)).0;
          value1 = λ i h. (long-bytes b y (8 + 4 * n + 4 * i) (9 + 4 * n + 4 * i) (10 + 4 * n + 4 * i) (11 + 4 * n + 4 * i) (omega arith) (omega arith)).1;
          value2 = λ i h. (long-bytes b y (8 + 4 * n + 4 * i) (9 + 4 * n + 4 * i) (10 + 4 * n + 4 * i) (11 + 4 * n + 4 * i) (omega arith) (omega arith)).2;
          value3 = λ i h. (long-bytes b y (8 + 4 * n + 4 * i) (9 + 4 * n + 4 * i) (10 + 4 * n + 4 * i) (11 + 4 * n + 4 * i) (omega arith) (omega arith)).3;
          index = λ j h. refl;
          rest = λ j h. refl;
        }

    pub laid_read : laid (read b) b ≡ b
    laid_read =
        let n = entries b in
        let m = read b in
        let h = laid-has-at m b read-valid.classes read-valid.entries (f.len ∙ ap (keys_length (k_max b)) (sym (slots_length b))) n (slots_length b) in
        let l = mcl.laid_read (list_part b) f.lists in
        has_one n (k_max b) b (list_part b) (laid m b) b (key_word n b) (value n b) (index n b)
        (has_same n (k_max b) b (list_part b) (laid m b)
        (λ i. word_over (slot m i) (key_word n b i)) (λ i. value_over (slot m i) (value n b i)) (λ k. index_over n (found m k) (index n b k))
        (key_word n b) (value n b) (index n b)
        (subst (λ (x : List ℕ). Has n (k_max b) b (laid m b) x (λ i. word_over (slot m i) (key_word n b i)) (λ i. value_over (slot m i) (value n b i)) (λ k. index_over n (found m k) (index n b k))) l h)
        (λ i q. rw (slot_in b i q) (word_self (key_word n b i) (value n b i)))
        (λ i q. rw (slot_in b i q) (value-self (key_word n b i) (value n b i)))
        index-self)
        self-has
