-- Whatever is valid is laid out as whole bytes, which mean it.
use Prim.Native.Nat.{ℕ, ◌+◌, ◌-◌, ◌*◌, ◌<◌, ◌≤◌}
use mathlib.Core.Path.{◌≡◌, refl, sym, ap, ◌∙◌, subst}
use mathlib.Core.List.{List}
use mathlib.Core.Bool.{true}
use native.Mathlib.Omega.{arith}
use native.Mathlib.Decide.{dec_lt}
use lib.ListN.{length, get_or, take, drop}
use lib.Seq.{get_or-take, get_or-drop}
use borrow.Author.Tests.{lt-ltb, le-ltb, ltb-true, le-leb, lt-leb, eqb-true}
use Rattle.state.specs.Lengths.{keys_length}
use Rattle.state.specs.Outcome.{Bytes}
use Rattle.state.specs.Seq.{each}
use Rattle.state.proofs.Seq.{each_same, each_get_d}
use Rattle.state.proofs.Numbers.{join}
use Rattle.state.proofs.Tests.{not-both, false_of}
use Rattle.multi_cycle_list.specs.Lists.{Lists, count, row}
use Rattle.multi_cycle_list.specs.Nodes as nodes
use Rattle.multi_cycle_list.specs.Laid as lists
use Rattle.multi_cycle_list.proofs.Meaning.{list_at}
use Rattle.multi_cycle_list.proofs.Laid as mcl
use Rattle.index_entries.specs.Keys.{Slot, free, holds, spent, Keys, has_key, slot, Found, missing, at, found, Within, ValidKeys}
use Rattle.index_entries.specs.Bytes.{k_max, entries, list_part, key_word, value, index, slot_of, slot_at, read, is_listed, key_b, whole_b}
use Rattle.index_entries.specs.Laid.{word_over, value_over, index_over, laid}
use Rattle.index_entries.proofs.Find.{Looks, looks, found_at, key-not-free}
use Rattle.index_entries.proofs.Fields.{Has, has-bytes}
use Rattle.index_entries.proofs.LaidFields.{laid-has-at}
use Rattle.index_entries.proofs.Facts.{Facts, of_facts, keys-allowed, Owns, slot-true}

-- ---- one slot

slot-over : (k : ℕ) (s : Slot) (w v : ℕ) → k ≤ 8191 → Within k s → w < 65536 → slot_of (word_over s w) (value_over s v) ≡ s
slot-over k free w v l h b =
    elim (dec_lt w 16384) [
      | yes q ↦ rw (lt-leb 16384 w q)
      | no q ↦ rw (le-leb 16384 w (omega arith), le-ltb w 8192 (omega arith), le-ltb w 16384 (omega arith))
    ]
slot-over k (holds j x) w v l h b = rw (lt-ltb j 8192 (omega (arith, h.0)))
slot-over k (spent j) w v l h b =
    let q : 8192 + j - 8192 ≡ j = omega arith in
    rw (le-ltb (8192 + j) 8192 (omega arith), lt-ltb (8192 + j) 16384 (omega (arith, h)), q)

word_fits : (k : ℕ) (s : Slot) (w : ℕ) → k ≤ 8191 → Within k s → w < 65536 → word_over s w < 65536
word_fits k free w l h b = elim (dec_lt w 16384) [ yes q ↦ rw (lt-leb 16384 w q) (omega arith) | no q ↦ rw (le-leb 16384 w (omega arith)) b ]
word_fits k (holds j x) w l h b = omega (arith, h.0)
word_fits k (spent j) w l h b = omega (arith, h)

value-fits : (k : ℕ) (s : Slot) (v : ℕ) → Within k s → v < 4294967296 → value_over s v < 4294967296
value-fits k free v h b = b
value-fits k (holds j x) v h b = h.1
value-fits k (spent j) v h b = b

pub key-within : (k j : ℕ) (s : Slot) → Within k s → has_key j s ≡ true → j ≤ k
key-within k j free h q = not-both (sym q)
key-within k j (holds i x) h q = omega (arith, eqb-true i j q, h.0)
key-within k j (spent i) h q = omega (arith, eqb-true i j q, h)

-- an index byte: no entry where no slot has the key
index-fits : (n x : ℕ) (f : Found) (k : ℕ) (ss : List Slot) → length ss ≡ n → n ≤ 222 → x < 256 → Looks k ss f → index_over n f x < 256
index-fits n x missing k ss q l b h = elim (dec_lt x n) [ yes p ↦ rw (lt-leb n x p) (omega arith) | no p ↦ rw (le-leb n x (omega arith)) b ]
index-fits n x (at i s) k ss q l b h = omega (arith, h.0)

index-none : (n x : ℕ) → n ≤ 222 → n ≤ index_over n missing x
index-none n x l = elim (dec_lt x n) [ yes p ↦ rw (lt-leb n x p) (omega arith) | no p ↦ rw (le-leb n x (omega arith)) (omega arith) ]

-- ---- all of it

module _ (m : Keys) (b : List ℕ) (y : Bytes b) (f : ValidKeys m) (fit : length b ≡ keys_length m.k_max (length m.slots)) where
  t : List ℕ
  t = laid m b

  n : ℕ
  n = length m.slots

  W : ℕ → ℕ
  W i = word_over (slot m i) (key_word (length m.slots) b i)

  vals : ℕ → ℕ
  vals i = value_over (slot m i) (value (length m.slots) b i)

  inds : ℕ → ℕ
  inds k = index_over (length m.slots) (found m k) (index (length m.slots) b k)

  sizes : (m.k_max ≤ 8191) × (length m.slots ≤ 222)
  sizes = keys-allowed m.k_max (length m.slots) f.sizes

  has : Has n m.k_max b t (lists.laid m.lists) W vals inds
  unfolding t n W vals inds
  has = laid-has-at m b f.classes f.entries fit (length m.slots) refl

  entries-t : entries t ≡ n
  unfolding n
  entries-t =
      let c = 6 + 2 * n in
      sym (get_or-take c (drop 2 t) 1 0 (omega arith) ∙ get_or-drop 2 t 1 0)
      ∙ ap (λ (x : List ℕ). get_or x 1 0) has.list
      ∙ (mcl.out-sizes (length m.lists.rows) m.lists.entries (lists.arcs (length m.lists.rows) 0 m.lists.rows)).1
      ∙ f.entries

  k_max-t : k_max t ≡ m.k_max
  k_max-t = omega (arith, has.k_max0, has.k_max1, sizes.0)

  part-t : list_part t ≡ lists.laid m.lists
  part-t = ap (λ (z : ℕ). take (6 + 2 * z) (drop 2 t)) entries-t ∙ has.list

  word_t : (i : ℕ) → i < n → key_word (entries t) t i ≡ W i
  unfolding W n
  word_t i h =
      let p = 8 + 2 * n + 2 * i in
      let q : 9 + 2 * n + 2 * i ≡ p + 1 = omega arith in
      let b0 = y p in
      let b1 = y (p + 1) in
      let l = word_fits m.k_max (slot m i) (key_word n b i) sizes.0 (f.within i) (omega arith) in
      ap (λ (z : ℕ). key_word z t i) entries-t ∙ omega (arith, has.word0 i h, has.word1 i h, ap (λ (z : ℕ). get_or t z 0) q, l)

  value-t : (i : ℕ) → i < n → value (entries t) t i ≡ vals i
  unfolding vals n
  value-t i h =
      let p = 8 + 4 * n + 4 * i in
      let r = 10 + 4 * n + 4 * i in
      let q : 9 + 4 * n + 4 * i ≡ p + 1 = omega arith in
      let u : 11 + 4 * n + 4 * i ≡ r + 1 = omega arith in
      let b0 = y p in
      let b1 = y (p + 1) in
      let b2 = y r in
      let b3 = y (r + 1) in
      let l = value-fits m.k_max (slot m i) (value n b i) (f.within i) (omega arith) in
      ap (λ (z : ℕ). value z t i) entries-t
      ∙ omega (arith, has.value0 i h, has.value1 i h, has.value2 i h, has.value3 i h, ap (λ (z : ℕ). get_or t z 0) q, ap (λ (z : ℕ). get_or t z 0) u, join (vals i) l)

  slot-t : (i : ℕ) → i < n → slot_at t i ≡ slot m i
  unfolding W vals n
  slot-t i h =
      let p = 8 + 2 * n + 2 * i in
      let b0 = y p in
      let b1 = y (p + 1) in
      ap (λ (z : ℕ). slot_of z (value (entries t) t i)) (word_t i h)
      ∙ ap (λ (z : ℕ). slot_of (W i) z) (value-t i h)
      ∙ slot-over m.k_max (slot m i) (key_word n b i) (value n b i) sizes.0 (f.within i) (omega arith)

  index-t : (j : ℕ) → j ≤ m.k_max → index (entries t) t j ≡ inds j
  index-t j h = ap (λ (z : ℕ). index z t j) entries-t ∙ has.index j h

  row-t : nodes.list_of (list_part t) 1 ≡ row m.lists 1
  row-t =
      let l = lists.laid m.lists in
      let r = mcl.read_laid m.lists f.valid in
      let c : nodes.classes l ≡ 2 = (mcl.out-sizes (length m.lists.rows) m.lists.entries (lists.arcs (length m.lists.rows) 0 m.lists.rows)).0 ∙ f.classes in
      ap (λ (z : List ℕ). nodes.list_of z 1) part-t ∙ sym (list_at l 1 (omega (arith, c))) ∙ ap (λ (z : Lists). row z 1) r

  found-own : (i k : ℕ) → has_key k (slot m i) ≡ true → found m k ≡ at i (slot m i)
  found-own i k q = found_at k m.slots i q (λ j p. f.distinct j i k p q)

  owns_t : (i k : ℕ) → i < n → has_key k (slot m i) ≡ true → Owns t i k
  unfolding inds n
  owns_t i k h q =
      let w = key-within m.k_max k (slot m i) (f.within i) q in
      record {
        within = omega (arith, k_max-t);
        named = index-t k w ∙ ap (λ (z : Found). index_over n z (index n b k)) (found-own i k q);
        bound = false_of (is_listed t i) (λ z.
            not-both (sym (f.listed_free i (subst (λ (l : List ℕ). 0 < count i l) row-t (ltb-true 0 (count i (nodes.list_of (list_part t) 1)) z))) ∙ key-not-free k (slot m i) q));
      }

  key-cases : (j : ℕ) (g : Found) → Looks j m.slots g → index (entries t) t j ≡ index_over n g (index n b j) → key_b t j ≡ true
  unfolding n
  key-cases j missing l q = rw (le-ltb (index (entries t) t j) (entries t) (omega (arith, q, entries-t, index-none n (index n b j) sizes.1)))
  key-cases j (at i s) l q =
      let h : index (entries t) t j < entries t = omega (arith, q, l.0, entries-t) in
      rw (lt-ltb (index (entries t) t j) (entries t) h)
      (ap (λ (z : ℕ). has_key j (slot_at t z)) q ∙ ap (has_key j) (slot-t i l.0 ∙ l.1.0) ∙ l.1.1)

  facts : Facts t
  unfolding inds n
  facts =
      record {
        low = omega (arith, k_max-t, sizes.0);
        few = omega (arith, entries-t, sizes.1);
        len = has.len ∙ sym (ap (λ (z : ℕ). keys_length z (entries t)) k_max-t ∙ ap (keys_length m.k_max) entries-t);
        two = ap (λ (z : List ℕ). nodes.classes z) part-t ∙ (mcl.out-sizes (length m.lists.rows) m.lists.entries (lists.arcs (length m.lists.rows) 0 m.lists.rows)).0 ∙ f.classes;
        lists = ap nodes.whole_b part-t ∙ mcl.laid_whole m.lists f.valid;
        slots = λ i h.
            let l : i < n = omega (arith, entries-t) in
            rw (slot-t i l)
            (slot-true t i (slot m i) (λ k q. owns_t i k l q) (λ q. lt-ltb 0 (count i (nodes.list_of (list_part t) 1)) (rw row-t (f.free_listed i l q))));
        keys = λ j h. key-cases j (found m j) (looks j m.slots) (index-t j (omega (arith, k_max-t)));
      }

  pub laid_whole : whole_b (laid m b) ≡ true
  unfolding t
  laid_whole = of_facts t facts

  keys : ℕ → List Slot → Lists → Keys
  keys k ss l = record { k_max = k; slots = ss; lists = l }

  pub read_laid : read (laid m b) ≡ m
  unfolding t n keys
  read_laid =
      let s : each (entries t) (slot_at t) ≡ m.slots =
      ap (λ (z : ℕ). each z (slot_at t)) entries-t ∙ each_same n (slot_at t) (slot m) slot-t ∙ each_get_d free m.slots in
      ap (λ (z : ℕ). keys z (each (entries t) (slot_at t)) (nodes.read (list_part t))) k_max-t
      ∙ ap (λ (z : List Slot). keys m.k_max z (nodes.read (list_part t))) s
      ∙ ap (keys m.k_max m.slots) (ap (λ (z : List ℕ). nodes.read z) part-t ∙ mcl.read_laid m.lists f.valid)

  pub laid_bytes : Bytes (laid m b)
  unfolding t n inds
  laid_bytes =
      has-bytes n m.k_max b (lists.laid m.lists) t W vals inds has y (mcl.whole-bytes (lists.laid m.lists) (mcl.laid_whole m.lists f.valid))
      (λ j h. index-fits n (index n b j) (found m j) j m.slots refl sizes.1 (y (8 + 8 * n + j)) (looks j m.slots))
