-- What the stores of each act come to: the bytes of the changed meaning.
use Prim.Native.Nat.{ℕ, ◌+◌, ◌-◌, ◌*◌, ◌<◌, ◌≤◌}
use mathlib.Core.Path.{◌≡◌, refl, sym, ap, ◌∙◌, subst}
use mathlib.Core.Logic.{◌≢◌}
use mathlib.Core.List.{List, [], ◌∷◌, ◌++◌}
use mathlib.Core.Bool.{Bool, true, false}
use native.Mathlib.Omega.{arith}
use native.Mathlib.Decide.{dec_lt}
use lib.ListN.{length, get_or, set, take, drop, length-set, length-map}
use lib.Seq.{set-get_or}
use lib.Dec.{eqb}
use borrow.Author.Tests.{lt-ltb, le-leb, lt-leb, eq-eqb, eqb-true}
use Rattle.state.specs.Lengths.{keys_length}
use Rattle.state.specs.Outcome.{Bytes}
use Rattle.state.proofs.Tests.{not-both, false_of}
use Rattle.multi_cycle_list.specs.Lists.{Lists, Valid, count, row, without, removed, without_entry, moved_front, moved_back}
use Rattle.multi_cycle_list.specs.Nodes as nodes
use Rattle.multi_cycle_list.specs.Laid as lists
use Rattle.multi_cycle_list.proofs.Laid as mcl
use Rattle.multi_cycle_list.proofs.Changes.{remove-valid, front-valid, back-valid}
use Rattle.index_entries.specs.Keys.{Slot, free, holds, spent, Keys, has_key, is_free, slot, Found, missing, at, found, Within, ValidKeys, with_slot, with_lists, changed as change}
use Rattle.index_entries.specs.Bytes.{k_max, entries, list_part, key_word, value, index, read, whole_b}
use Rattle.index_entries.specs.Inner.{set_word, set_long, with_list, moved}
use Rattle.index_entries.specs.declared.change.Move.{Move}
use Rattle.index_entries.specs.declared.change.Move.TheVariants.{Front, Back, Out}
use Rattle.index_entries.specs.Laid.{word_over, value_over, index_over, laid}
use Rattle.index_entries.proofs.Find.{Looks, looks, found_none, found_at, key-not-free}
use Rattle.multi_cycle_list.proofs.Lists.{count-gone, count_kept, count-append}
use Rattle.index_entries.proofs.Counts.{count-one, count-self, gone-row, front-row, back-row, freed-row}
use Rattle.index_entries.proofs.Keeping.{Keeps, slot_same, slot-other, by-slot, change_valid}
use Rattle.index_entries.proofs.Fields.{Has, has_same, has_one}
use Rattle.index_entries.proofs.Stores.{upd, upd_same, upd_other, has-list, store_word, store_long, store_index}
use Rattle.index_entries.proofs.LaidFields.{laid-has-at}
use Rattle.index_entries.proofs.Facts.{Facts, facts_of, slots_length, slot_in, part-entries, owner, named, read-valid, self-has, word_self, value-self}

-- ---- what a change keeps, by the change of the lists

-- the lists that a change leaves, with the entry i in neither, in the queue, or free
pub record Moves (m : Keys) (i : ℕ) (l : Lists) (is_in : Bool) : Type 0 where
  pub classes : length l.rows ≡ 2
  pub entries : l.entries ≡ m.lists.entries
  pub valid : Valid l
  pub others : (j : ℕ) → j ≢ i → count j (row l 1) ≡ count j (row m.lists 1)
  pub listed : is_in ≡ true → 0 < count i (row l 1)
  pub unlisted : is_in ≡ false → count i (row l 1) ≡ 0

module _ (m : Keys) (f : ValidKeys m) (i : ℕ) (h : i < length m.slots) where
  in_lists : i < m.lists.entries
  in_lists = omega (arith, f.entries)

  gone : (l : Lists) → length l.rows ≡ 2 → l.entries ≡ m.lists.entries → Valid l → row l 1 ≡ without i (row m.lists 1) → Moves m i l false
  gone l c e g q =
      record {
        classes = c;
        entries = e;
        valid = g;
        others = λ j n. ap (count j) q ∙ count_kept j i (row m.lists 1) n;
        listed = λ z. not-both (sym z);
        unlisted = λ z. ap (count i) q ∙ count-gone i (row m.lists 1);
      }

  removed-two : length (removed i m.lists.rows) ≡ 2
  removed-two = length-map m.lists.rows (without i) ∙ f.classes

  pub moves_gone : Moves m i (without_entry i m.lists) false
  moves_gone = gone (without_entry i m.lists) removed-two refl (remove-valid m.lists f.valid i in_lists) (gone-row i m.lists)

  pub moves_front : Moves m i (moved_front 0 i m.lists) false
  moves_front =
      gone (moved_front 0 i m.lists) (length-set (removed i m.lists.rows) 0 (i ∷ get_or (removed i m.lists.rows) 0 []) ∙ removed-two) refl
      (front-valid m.lists f.valid i in_lists 0 (omega (arith, f.classes))) (front-row i m.lists)

  pub moves_back : Moves m i (moved_back 0 i m.lists) false
  moves_back =
      gone (moved_back 0 i m.lists) (length-set (removed i m.lists.rows) 0 (get_or (removed i m.lists.rows) 0 [] ++ (i ∷ [])) ∙ removed-two) refl
      (back-valid m.lists f.valid i in_lists 0 (omega (arith, f.classes))) (back-row i m.lists)

  pub moves_to : (to : Move) → Moves m i (moved to i m.lists) false
  moves_to Front = moves_front
  moves_to Back = moves_back
  moves_to Out = moves_gone

  pub moves_free : Moves m i (moved_back 1 i m.lists) true
  moves_free =
      let q = freed-row i m.lists f.classes in
      record {
        classes = length-set (removed i m.lists.rows) 1 (get_or (removed i m.lists.rows) 1 [] ++ (i ∷ [])) ∙ removed-two;
        entries = refl;
        valid = back-valid m.lists f.valid i in_lists 1 (omega (arith, f.classes));
        others = λ j n. ap (count j) q ∙ count-append j (without i (row m.lists 1)) (i ∷ []) ∙ omega (arith, count_kept j i (row m.lists 1) n, count-one j i n);
        listed = λ z. omega (arith, ap (count i) q, count-append i (without i (row m.lists 1)) (i ∷ []), count-self i);
        unlisted = λ z. not-both z;
      }

  -- the lists as they were
  pub moves_none : is_free (slot m i) ≡ false → Moves m i m.lists false
  moves_none q =
      record {
        classes = f.classes;
        entries = refl;
        valid = f.valid;
        others = λ j n. refl;
        listed = λ z. not-both (sym z);
        unlisted = λ z. elim (dec_lt 0 (count i (row m.lists 1))) [ yes p ↦ not-both (sym (f.listed_free i p) ∙ q) | no p ↦ omega arith ];
      }

  pub keeps : (x : Slot) (l : Lists) → Within m.k_max x → ((k j : ℕ) → has_key k x ≡ true → has_key k (slot m j) ≡ true → j ≡ i) → Moves m i l (is_free x) → Keeps m i x l
  keeps x l w o v =
      record {
        inside = h;
        within = w;
        own = o;
        classes = v.classes;
        entries = v.entries;
        valid = v.valid;
        others = v.others;
        free_in = v.listed;
        in_free = λ p. cases (is_free x) v.unlisted p;
      }
    where
      cases : (b : Bool) → (b ≡ false → count i (row l 1) ≡ 0) → 0 < count i (row l 1) → b ≡ true
      cases true u p = refl
      cases false u p = absurd (omega (arith, u refl))

-- ---- the bytes of a change

module _ (s : List ℕ) (y : Bytes s) (f : Facts s) (i : ℕ) (x : Slot) (l : Lists) (k : Keeps (read s) i x l) where
  valid' : ValidKeys (change i x l (read s))
  valid' = change_valid (read s) i x l (read-valid s f y) k

  at_i : (j : ℕ) → has_key j x ≡ true → found (change i x l (read s)) j ≡ at i (slot (change i x l (read s)) i)
  at_i j p =
      let q : has_key j (slot (change i x l (read s)) i) ≡ true = ap (has_key j) (slot_same (read s) i x l k.inside i refl) ∙ p in
      found_at j (change i x l (read s)).slots i q (λ a c. valid'.distinct a i j c q)

  none : (j : ℕ) → has_key j x ≡ false → ((a : ℕ) → a ≢ i → has_key j (slot (read s) a) ≡ false) → found (change i x l (read s)) j ≡ missing
  none j p o = found_none j (change i x l (read s)).slots (by-slot (read s) i x l k.inside (λ a z. has_key j z ≡ false) p o)

  kept_at : (j : ℕ) → j ≤ k_max s → has_key j x ≡ false → has_key j (slot (read s) i) ≡ false → index_over (entries s) (found (change i x l (read s)) j) (index (entries s) s j) ≡ index (entries s) s j
  kept_at j h p o =
      let n = entries s in
      let a = index n s j in
      elim (dec_lt a n) [
        | yes q ↦
            (let e = named s f j h q in
            let d : a ≢ i = λ z. not-both (sym e ∙ ap (λ (w : ℕ). has_key j (slot (read s) w)) z ∙ o) in
            let r : has_key j (slot (change i x l (read s)) a) ≡ true = ap (has_key j) (slot-other (read s) i x l k.inside a d) ∙ e in
            rw (found_at j (change i x l (read s)).slots a r (λ c z. valid'.distinct c a j z r)))
        | no q ↦ rw (none j p (λ c z. false_of (has_key j (slot (read s) c)) (λ e. let w = owner s f c j e in omega (arith, w.0, w.1.named)))) (rw (le-leb n a (omega arith)))
      ]

  lost-at : (j : ℕ) → has_key j x ≡ false → has_key j (slot (read s) i) ≡ true → index_over (entries s) (found (change i x l (read s)) j) (index (entries s) s j) ≡ 255
  lost-at j p o =
      let w = owner s f i j o in
      rw (none j p (λ a d. false_of (has_key j (slot (read s) a)) (λ e. d ((read-valid s f y).distinct a i j e o))))
      (rw (lt-leb (entries s) (index (entries s) s j) (omega (arith, w.0, w.1.named))))

  -- the index that the change asks for
  pub record Indexed (z : ℕ → ℕ) : Type 0 where
    pub new : (j : ℕ) → has_key j x ≡ true → z j ≡ i
    pub lost : (j : ℕ) → has_key j x ≡ false → has_key j (slot (read s) i) ≡ true → z j ≡ 255
    pub kept : (j : ℕ) → has_key j x ≡ false → has_key j (slot (read s) i) ≡ false → z j ≡ index (entries s) s j

  index_is : (z : ℕ → ℕ) → Indexed z → (j : ℕ) → j ≤ k_max s → z j ≡ index_over (entries s) (found (change i x l (read s)) j) (index (entries s) s j)
  index_is z g j h = cases (has_key j x) (has_key j (slot (read s) i)) refl refl
    where
      cases : (a b : Bool) → has_key j x ≡ a → has_key j (slot (read s) i) ≡ b → z j ≡ index_over (entries s) (found (change i x l (read s)) j) (index (entries s) s j)
      cases true b p q = g.new j p ∙ sym (ap (λ (w : Found). index_over (entries s) w (index (entries s) s j)) (at_i j p))
      cases false true p q = g.lost j p q ∙ sym (lost-at j p q)
      cases false false p q = g.kept j p q ∙ sym (kept_at j h p q)

  pub change_laid : (t : List ℕ) (w v z : ℕ → ℕ) → Has (entries s) (k_max s) s t (lists.laid l) w v z
      → w i ≡ word_over x (key_word (entries s) s i) → ((j : ℕ) → j ≢ i → w j ≡ key_word (entries s) s j)
      → v i ≡ value_over x (value (entries s) s i) → ((j : ℕ) → j ≢ i → v j ≡ value (entries s) s j)
      → Indexed z → t ≡ laid (change i x l (read s)) s
  change_laid t w v z h wi wo vi vo g =
      let n = entries s in
      let c = change i x l (read s) in
      let e : length c.slots ≡ n = length-set (read s).slots i x ∙ slots_length s in
      let o = laid-has-at c s k.classes valid'.entries (f.len ∙ ap (keys_length (k_max s)) (sym e)) n e in
      let W : ℕ → ℕ = λ j. word_over (slot c j) (key_word n s j) in
      let U : ℕ → ℕ = λ j. value_over (slot c j) (value n s j) in
      let X : ℕ → ℕ = λ j. index_over n (found c j) (index n s j) in
      has_one n (k_max s) s (lists.laid l) t (laid c s) W U X
      (has_same n (k_max s) s (lists.laid l) t w v z W U X h
      (λ j b. by-slot (read s) i x l k.inside (λ j u. j < n → w j ≡ word_over u (key_word n s j)) (λ b. wi) (λ j q b. wo j q ∙ sym (ap (λ (u : Slot). word_over u (key_word n s j)) (slot_in s j b) ∙ word_self (key_word n s j) (value n s j))) j b)
      (λ j b. by-slot (read s) i x l k.inside (λ j u. j < n → v j ≡ value_over u (value n s j)) (λ b. vi) (λ j q b. vo j q ∙ sym (ap (λ (u : Slot). value_over u (value n s j)) (slot_in s j b) ∙ value-self (key_word n s j) (value n s j))) j b)
      (index_is z g))
      o

-- ---- the acts

module _ (s : List ℕ) (y : Bytes s) (h : whole_b s ≡ true) (i : ℕ) (hi : i < entries s) where
  f : Facts s
  f = facts_of s h

  r : ValidKeys (read s)
  unfolding f
  r = read-valid s f y

  in_slots : i < length (read s).slots
  in_slots = omega (arith, slots_length s)

  -- an entry with a key owns it
  own_key : (x : Slot) → ((k : ℕ) → has_key k x ≡ true → has_key k (slot (read s) i) ≡ true) → (k j : ℕ) → has_key k x ≡ true → has_key k (slot (read s) j) ≡ true → j ≡ i
  unfolding r
  own_key x g k j p q = r.distinct j i k q (g k p)

  laid-length : (l : Lists) → length l.rows ≡ 2 → l.entries ≡ (read s).lists.entries → length (lists.laid l) ≡ 6 + 2 * entries s
  laid-length l c e = omega (arith, mcl.out-length (length l.rows) l.entries (lists.arcs (length l.rows) 0 l.rows), part-entries s)

  -- the fields with the list queue replaced
  replaced : (l : Lists) → length l.rows ≡ 2 → l.entries ≡ (read s).lists.entries → Has (entries s) (k_max s) s (with_list s l) (lists.laid l) (key_word (entries s) s) (value (entries s) s) (index (entries s) s)
  unfolding f with_list
  replaced l c q = has-list (entries s) (k_max s) s s (list_part s) (key_word (entries s) s) (value (entries s) s) (index (entries s) s) (self-has s f y) (lists.laid l) (laid-length l c q)

  -- the lists alone are changed
  lists-laid : (l : Lists) → is_free (slot (read s) i) ≡ false → Moves (read s) i l false → with_list s l ≡ laid (with_lists l (read s)) s
  unfolding f r
  lists-laid l b v =
      let x = slot (read s) i in
      let k = keeps (read s) r i in_slots x l (r.within i) (own_key x (λ k z. z)) (subst (λ (z : Bool). Moves (read s) i l z) (sym b) v) in
      let e = entries s in
      let c : change i x l (read s) ≡ with_lists l (read s) = ap (λ (z : List Slot). keys_of z l) (set-get_or (read s).slots i free) in
      change_laid s y f i x l k _ (key_word e s) (value e s) (index e s) (replaced l v.classes v.entries)
      (sym (ap (λ (u : Slot). word_over u (key_word e s i)) (slot_in s i hi) ∙ word_self (key_word e s i) (value e s i)))
      (λ j d. refl)
      (sym (ap (λ (u : Slot). value_over u (value e s i)) (slot_in s i hi) ∙ value-self (key_word e s i) (value e s i)))
      (λ j d. refl)
      (record { new = λ j z. (owner s f i j z).1.named; lost = λ j z w. not-both (sym w ∙ z); kept = λ j z w. refl })
      ∙ ap (λ (m : Keys). laid m s) c
    where
      keys_of : List Slot → Lists → Keys
      keys_of ss l = record { k_max = k_max s; slots = ss; lists = l }

  pub moved_laid : (to : Move) → is_free (slot (read s) i) ≡ false → with_list s (moved to i (read s).lists) ≡ laid (with_lists (moved to i (read s).lists) (read s)) s
  unfolding r
  moved_laid to b = lists-laid (moved to i (read s).lists) b (moves_to (read s) r i in_slots to)

  -- the bytes' fields, with the list queue as it is laid out
  self : Has (entries s) (k_max s) s s (lists.laid (read s).lists) (key_word (entries s) s) (value (entries s) s) (index (entries s) s)
  unfolding f
  self = subst (λ (z : List ℕ). Has (entries s) (k_max s) s s z (key_word (entries s) s) (value (entries s) s) (index (entries s) s)) (sym (mcl.laid_read (list_part s) f.lists)) (self-has s f y)

  module _ (hw : key_word (entries s) s i < 8192) where
    holds_it : slot (read s) i ≡ holds (key_word (entries s) s i) (value (entries s) s i)
    holds_it = slot_in s i hi ∙ rw (lt-ltb (key_word (entries s) s i) 8192 hw)

    not_free : is_free (slot (read s) i) ≡ false
    not_free = ap is_free holds_it

    key-is : (k : ℕ) → has_key k (slot (read s) i) ≡ eqb (key_word (entries s) s i) k
    key-is k = ap (has_key k) holds_it

    pub in_range : key_word (entries s) s i ≤ k_max s
    unfolding f
    in_range = (owner s f i (key_word (entries s) s i) (key-is (key_word (entries s) s i) ∙ eq-eqb (key_word (entries s) s i) (key_word (entries s) s i) refl)).1.within

    -- a slot with the same key, the lists and the index as they were
    same_key : (x : Slot) → Within (k_max s) x → is_free x ≡ false → ((k : ℕ) → has_key k x ≡ eqb (key_word (entries s) s i) k) → Keeps (read s) i x (read s).lists
    unfolding r
    same_key x w b e = keeps (read s) r i in_slots x (read s).lists w (own_key x (λ k p. key-is k ∙ sym (e k) ∙ p)) (subst (λ (z : Bool). Moves (read s) i (read s).lists z) (sym b) (moves_none (read s) r i in_slots not_free))

    same_index : (x : Slot) (w : Within (k_max s) x) (b : is_free x ≡ false) (e : (k : ℕ) → has_key k x ≡ eqb (key_word (entries s) s i) k) → Indexed s y (facts_of s h) i x (read s).lists (same_key x w b e) (index (entries s) s)
    unfolding f
    same_index x w b e = record { new = λ j p. (owner s f i j (key-is j ∙ sym (e j) ∙ p)).1.named; lost = λ j p q. not-both (sym q ∙ key-is j ∙ sym (e j) ∙ p); kept = λ j p q. refl }

    -- a value is stored
    pub value_laid : (v : ℕ) → v < 4294967296 → set_long s (8 + 4 * entries s + 4 * i) v ≡ laid (with_slot i (holds (key_word (entries s) s i) v) (read s)) s
    unfolding f
    value_laid v b =
        let n = entries s in
        let x = holds (key_word n s i) v in
        let w : Within (k_max s) x = (in_range, b) in
        change_laid s y f i x (read s).lists (same_key x w refl (λ k. refl)) _ (key_word n s) (upd (value n s) i v) (index n s)
        (store_long n (k_max s) s s (lists.laid (read s).lists) (key_word n s) (value n s) (index n s) self i v hi b)
        refl (λ j d. refl) (upd_same (value n s) i v i refl) (λ j d. upd_other (value n s) i v j d) (same_index x w refl (λ k. refl))

    -- the value is handed back
    pub spent_laid : set_word s (8 + 2 * entries s + 2 * i) (8192 + key_word (entries s) s i) ≡ laid (with_slot i (spent (key_word (entries s) s i)) (read s)) s
    unfolding f
    spent_laid =
        let n = entries s in
        let x = spent (key_word n s i) in
        change_laid s y f i x (read s).lists (same_key x in_range refl (λ k. refl)) _ (upd (key_word n s) i (8192 + key_word n s i)) (value n s) (index n s)
        (store_word n (k_max s) s s (lists.laid (read s).lists) (key_word n s) (value n s) (index n s) self i (8192 + key_word n s i) hi (omega arith))
        (upd_same (key_word n s) i (8192 + key_word n s i) i refl) (λ j d. upd_other (key_word n s) i (8192 + key_word n s i) j d) refl (λ j d. refl) (same_index x in_range refl (λ k. refl))

    -- the entry is freed: it joins the back of the free ones, and its key has no entry
    pub freed_laid : set (set_word (with_list s (moved_back 1 i (read s).lists)) (8 + 2 * entries s + 2 * i) 65535) (8 + 8 * entries s + key_word (entries s) s i) 255
        ≡ laid (change i free (moved_back 1 i (read s).lists) (read s)) s
    unfolding f r
    freed_laid =
        let n = entries s in
        let k = key_word n s i in
        let l = moved_back 1 i (read s).lists in
        let t1 = with_list s l in
        let v = moves_free (read s) r i in_slots in
        let h1 = replaced l v.classes v.entries in
        let h2 = store_word n (k_max s) s t1 (lists.laid l) (key_word n s) (value n s) (index n s) h1 i 65535 hi (omega arith) in
        let h3 = store_index n (k_max s) s (set_word t1 (8 + 2 * n + 2 * i) 65535) (lists.laid l) (upd (key_word n s) i 65535) (value n s) (index n s) h2 k 255 in_range in
        change_laid s y f i free l (keeps (read s) r i in_slots free l tt (own_key free (λ k p. not-both (sym p))) v) _ (upd (key_word n s) i 65535) (value n s) (upd (index n s) k 255) h3
        (upd_same (key_word n s) i 65535 i refl ∙ sym (rw (lt-leb 16384 k (omega arith)))) (λ j d. upd_other (key_word n s) i 65535 j d) refl (λ j d. refl)
        (record {
          new = λ j p. not-both (sym p);
          lost = λ j p q. upd_same (index n s) k 255 j (sym (eqb-true k j (sym (key-is j) ∙ q)));
          kept = λ j p q. upd_other (index n s) k 255 j (λ z. not-both (sym (key-is j ∙ eq-eqb k j (sym z)) ∙ q));
        })

  -- a free entry takes a key and a value
  pub taken_laid : (k v : ℕ) → is_free (slot (read s) i) ≡ true → k ≤ k_max s → v < 4294967296 → found (read s) k ≡ missing
      → set (set_long (set_word (with_list s (without_entry i (read s).lists)) (8 + 2 * entries s + 2 * i) k) (8 + 4 * entries s + 4 * i) v) (8 + 8 * entries s + k) i
      ≡ laid (change i (holds k v) (without_entry i (read s).lists) (read s)) s
  unfolding f r
  taken_laid k v b hk hv nk =
      let n = entries s in
      let l = without_entry i (read s).lists in
      let x = holds k v in
      let t1 = with_list s l in
      let g = moves_gone (read s) r i in_slots in
      let t2 = set_word t1 (8 + 2 * n + 2 * i) k in
      let low = f.low in
      let h1 = replaced l g.classes g.entries in
      let h2 = store_word n (k_max s) s t1 (lists.laid l) (key_word n s) (value n s) (index n s) h1 i k hi (omega arith) in
      let h3 = store_long n (k_max s) s t2 (lists.laid l) (upd (key_word n s) i k) (value n s) (index n s) h2 i v hi hv in
      let h4 = store_index n (k_max s) s (set_long t2 (8 + 4 * n + 4 * i) v) (lists.laid l) (upd (key_word n s) i k) (upd (value n s) i v) (index n s) h3 k i hk in
      let none : (j : ℕ) → has_key k (slot (read s) j) ≡ false = subst (λ (g : Found). Looks k (read s).slots g) nk (looks k (read s).slots) in
      change_laid s y f i x l
      (keeps (read s) r i in_slots x l (hk, hv) (λ a j u w. not-both (sym w ∙ ap (λ (z : ℕ). has_key z (slot (read s) j)) (sym (eqb-true k a u)) ∙ none j)) g)
      _ (upd (key_word n s) i k) (upd (value n s) i v) (upd (index n s) k i) h4
      (upd_same (key_word n s) i k i refl) (λ j d. upd_other (key_word n s) i k j d) (upd_same (value n s) i v i refl) (λ j d. upd_other (value n s) i v j d)
      (record {
        new = λ j u. upd_same (index n s) k i j (sym (eqb-true k j u));
        lost = λ j u w. not-both (sym b ∙ key-not-free j (slot (read s) i) w);
        kept = λ j u w. upd_other (index n s) k i j (λ z. not-both (sym (eq-eqb k j (sym z)) ∙ u));
      })

-- ---- the list queue as the code lends it

module _ (s : List ℕ) (h : whole_b s ≡ true) (e : ℕ) (q : e ≡ 8 + 2 * entries s) where
  cut : e - 2 ≡ 6 + 2 * entries s
  cut = omega (arith, q)

  pub lent_part : take (e - 2) (drop 2 s) ≡ list_part s
  lent_part = ap (λ (z : ℕ). take z (drop 2 s)) cut

  pub lent_whole : nodes.whole_b (take (e - 2) (drop 2 s)) ≡ true
  lent_whole = let f = facts_of s h in rw lent_part f.lists

  pub lent_classes : nodes.classes (take (e - 2) (drop 2 s)) ≡ 2
  lent_classes = let f = facts_of s h in rw lent_part f.two

  pub lent_entries : nodes.entries (take (e - 2) (drop 2 s)) ≡ entries s
  lent_entries = rw lent_part (part-entries s)

  -- what the lent part becomes
  pub put_list : (g : Lists → Lists) (p : List ℕ) → p ≡ lists.laid (g (nodes.read (take (e - 2) (drop 2 s)))) → take 2 s ++ (p ++ drop (e - 2) (drop 2 s)) ≡ with_list s (g (read s).lists)
  unfolding with_list
  put_list g p w =
      ap (λ (z : ℕ). take 2 s ++ (p ++ drop z (drop 2 s))) cut
      ∙ ap (λ (z : List ℕ). take 2 s ++ (z ++ drop (6 + 2 * entries s) (drop 2 s))) (w ∙ ap (λ (z : List ℕ). lists.laid (g (nodes.read z))) lent_part)

pub ruleset lent = (lent_whole, lent_classes, lent_entries, put_list)
