-- What the loops of src/merge.rt keep, and that the bytes they leave are those of the changed list.
use Prim.Native.Nat.{ℕ, suc, ◌+◌, ◌-◌, ◌*◌, ◌<◌, ◌≤◌}
use mathlib.Core.Path.{◌≡◌, refl, sym, ap, ◌∙◌, subst}
use mathlib.Core.List.{List, [], ◌∷◌, ◌++◌}
use mathlib.Core.Bool.{Bool, true, false, cond, ◌&&◌, ◌||◌}
use native.Mathlib.Omega.{arith}
use native.Mathlib.Decide.{ℕ_discrete, dec_lt}
use lib.ListN.{length, get_or, set, take, drop, replicate, length-set, length-append, length-drop, length-replicate, get_or-replicate, get_or-append}
use lib.Seq.{drop-cons, get_or-set_same, get_or-append-add, get_or-take, get_or-drop, length-take-le}
use lib.Dec.{leb, ltb}
use borrow.Author.Tests.{le-leb, lt-leb, lt-ltb, le-ltb, eq-eqb, ne_eqb, leb-true, leb-false}
use borrow.Rule.Slice.PartMut.{put_mid}
use Rattle.entry_tree.specs.Pairs.{Pair, pair, in_order}
use Rattle.entry_tree.specs.Places.{size, entry_at, subject_at, pair_at, read, laid}
use Rattle.entry_tree.specs.Inner.{IsTree, tree_length, Cell, cell_at, cell_of, set_cell}
use Rattle.entry_merge.specs.Inner.{kept, stays, filled, merged, Written, Kept, Mergeable}
use Rattle.entry_tree.proofs.Lists.{none}
use Rattle.entry_tree.proofs.Reading.{read_length}
use Rattle.entry_tree.proofs.Changes.{order-cons}
use Rattle.entry_tree.proofs.Cells.{cell_same, set-length, set-number, set_other, set_same, number_cell}
use Rattle.entry_tree.proofs.Laid.{has_one, laid-has, freed}
use Rattle.entry_merge.proofs.Merging.{drop-first, drop-nothing, order-drop, tree_from, tree_end, merged-first, merged-second, merged-length, kept-yes, kept-no, filled_none, filled-order}

-- ---- pairs written one after the other

pub written_none : (l : List Pair) (t : List ℕ) → Written l t t 0
written_none l t = record { len = refl; number = refl; far = omega arith; done = λ i h. absurd (omega arith); left = λ i h. refl }

pub written-more : (l : List Pair) (t u : List ℕ) (w : ℕ) → length t ≡ tree_length → length l ≤ 128 → Written l t u w → (p : Pair) (r : List Pair) → drop w l ≡ p ∷ r → (v : List ℕ) → v ≡ set_cell u w (cell_of p)
    → Written l t v (w + 1)
written-more l t u w lt fit h p r q v vq =
    let d = drop-first l w p r q in
    let c = cell_of p in
    subst (λ (z : List ℕ). Written l t z (w + 1)) (sym vq)
    (record {
      len = set-length u w c ∙ h.len;
      number = set-number u w c ∙ h.number;
      far = omega (arith, d.0);
      done = λ i b.
          elim (ℕ_discrete i w) [
            | yes z ↦ ap (cell_at (set_cell u w c)) z ∙ set_same u w c (h.len ∙ lt) (omega (arith, d.0)) ∙ ap cell_of (sym d.1.0 ∙ ap (λ (k : ℕ). get_or l k none) (sym z))
            | no z ↦ set_other u w c i z ∙ h.done i (omega arith)
          ];
      left = λ i b. set_other u w c i (omega arith) ∙ h.left i (omega arith);
    })

-- bytes at a place that is not written are the old ones
pub left-entry : (l : List Pair) (t u : List ℕ) (w : ℕ) → Written l t u w → (i : ℕ) → w ≤ i → entry_at u i ≡ entry_at t i
left-entry l t u w h i b = ap (λ (c : Cell). c.entry) (h.left i b)

pub left-subject : (l : List Pair) (t u : List ℕ) (w : ℕ) → Written l t u w → (i : ℕ) → w ≤ i → subject_at u i ≡ subject_at t i
left-subject l t u w h i b = ap (λ (c : Cell). c.low + 256 * c.high) (h.left i b)

-- ---- marked pairs leave

pub record Keeping (gone t₀ t : List ℕ) (w i : ℕ) : Type 0 where
  pub written : Written (kept (stays gone) (read t₀)) t₀ t w
  pub far : i ≤ size t₀
  pub behind : w ≤ i
  pub rest : drop w (kept (stays gone) (read t₀)) ≡ kept (stays gone) (drop i (read t₀))

pub keeping_none : (gone t : List ℕ) → Keeping gone t t 0 0
keeping_none gone t = record { written = written_none (kept (stays gone) (read t)) t; far = omega arith; behind = omega arith; rest = refl }

kept-few : (gone : List ℕ) (l : List Pair) → length (kept (stays gone) l) ≤ length l
kept-few gone [] = omega arith
kept-few gone (p ∷ l) = go (stays gone p) (kept-few gone l)
  where
    go : (b : Bool) → length (kept (stays gone) l) ≤ length l → length (cond b (p ∷ kept (stays gone) l) (kept (stays gone) l)) ≤ suc (length l)
    go true h = omega arith
    go false h = omega arith

module _ (gone t₀ t : List ℕ) (w i : ℕ) (h : Keeping gone t₀ t w i) (e : ℕ) (qe : e ≡ entry_at t i) (b : i < size t₀) where
  abbrev K : List Pair
  K = kept (stays gone) (read t₀)

  entry_old : e ≡ entry_at t₀ i
  entry_old = qe ∙ left-entry K t₀ t w h.written i h.behind

  pub keeping_yes : IsTree t₀ → (m : ℕ) → m ≡ get_or gone e 0 → m ≡ 0 → (x : ℕ) → x ≡ subject_at t i → (v : List ℕ) → v ≡ set_cell t w (cell_of (pair e x)) → Keeping gone t₀ v (w + 1) (i + 1)
  keeping_yes tree m qm z x qx v qv =
      let p = pair_at t₀ i in
      let s : stays gone p ≡ true = eq-eqb (get_or gone (entry_at t₀ i) 0) 0 (ap (λ (k : ℕ). get_or gone k 0) (sym entry_old) ∙ sym qm ∙ z) in
      let d : drop w K ≡ p ∷ kept (stays gone) (drop (suc i) (read t₀)) = h.rest ∙ ap (kept (stays gone)) (tree_from t₀ i b) ∙ kept-yes (stays gone) p (drop (suc i) (read t₀)) s in
      let pq : pair e x ≡ p = λ k. pair (entry_old k) ((qx ∙ left-subject K t₀ t w h.written i h.behind) k) in
      let j : i + 1 ≡ suc i = omega arith in
      let n : w + 1 ≡ suc w = omega arith in
      record {
        written = written-more K t₀ t w tree.len (omega (arith, tree.few, kept-few gone (read t₀), read_length t₀)) h.written p (kept (stays gone) (drop (suc i) (read t₀))) d v (qv ∙ ap (λ (k : Pair). set_cell t w (cell_of k)) pq);
        far = omega arith;
        behind = omega (arith, h.behind);
        rest = ap (λ (k : ℕ). drop k K) n ∙ (drop-first K w p (kept (stays gone) (drop (suc i) (read t₀))) d).1.1 ∙ ap (λ (k : ℕ). kept (stays gone) (drop k (read t₀))) (sym j);
      }

  pub keeping_no : (m : ℕ) → m ≡ get_or gone e 0 → 0 < m → Keeping gone t₀ t w (i + 1)
  keeping_no m qm z =
      let p = pair_at t₀ i in
      let g : get_or gone (entry_at t₀ i) 0 ≡ m = ap (λ (k : ℕ). get_or gone k 0) (sym entry_old) ∙ sym qm in
      let s : stays gone p ≡ false = ne_eqb (get_or gone (entry_at t₀ i) 0) 0 (λ y. omega arith) in
      let j : i + 1 ≡ suc i = omega arith in
      record {
        written = h.written;
        far = omega arith;
        behind = omega (arith, h.behind);
        rest = h.rest ∙ ap (kept (stays gone)) (tree_from t₀ i b) ∙ kept-no (stays gone) p (drop (suc i) (read t₀)) s ∙ ap (λ (k : ℕ). kept (stays gone) (drop k (read t₀))) (sym j);
      }

pub keeping_end : (gone t₀ t : List ℕ) (w i : ℕ) → Keeping gone t₀ t w i → size t₀ ≤ i → Kept gone t₀ t w
keeping_end gone t₀ t w i h b =
    let K = kept (stays gone) (read t₀) in
    let d : drop w K ≡ [] = h.rest ∙ ap (kept (stays gone)) (tree_end t₀ i b) in
    record { number = omega (arith, drop-nothing K w d, h.written.far); few = omega (arith, h.behind, h.far); written = h.written }

pub part_long : (t : List ℕ) (a k : ℕ) → a + k ≤ length t → length (take k (drop a t)) ≡ k
part_long t a k b = length-take-le k (drop a t) (omega (arith, length-drop a t))

-- the places that are left are filled
module _ (t : List ℕ) (a k v : ℕ) (b : a + k ≤ length t) where
  abbrev F : List ℕ
  F = put_mid a k t (replicate k v)

  abbrev P : List ℕ
  P = take a t

  long-take : length P ≡ a
  long-take = length-take-le a t (omega arith)

  put-before : (j : ℕ) → j < a → get_or F j 0 ≡ get_or t j 0
  put-before j h = get_or-append P (replicate k v ++ drop k (drop a t)) 0 j (omega (arith, long-take)) ∙ get_or-take a t j 0 h

  put-past : (j : ℕ) → get_or F (a + j) 0 ≡ get_or (replicate k v ++ drop k (drop a t)) j 0
  put-past j = ap (λ (n : ℕ). get_or F (n + j) 0) (sym long-take) ∙ get_or-append-add P (replicate k v ++ drop k (drop a t)) j 0

  put-inside : (j : ℕ) → a ≤ j → j < a + k → get_or F j 0 ≡ v
  put-inside j h g =
      let q : a + (j - a) ≡ j = omega arith in
      ap (λ (n : ℕ). get_or F n 0) (sym q)
      ∙ put-past (j - a)
      ∙ get_or-append (replicate k v) (drop k (drop a t)) 0 (j - a) (omega (arith, length-replicate {A = ℕ} k v))
      ∙ get_or-replicate k (j - a) v 0 (omega arith)

  put-after : (j : ℕ) → a + k ≤ j → get_or F j 0 ≡ get_or t j 0
  put-after j h =
      let q : a + (k + (j - a - k)) ≡ j = omega arith in
      let r = replicate {A = ℕ} k v in
      let n : length r + (j - a - k) ≡ k + (j - a - k) = omega (arith, length-replicate {A = ℕ} k v) in
      ap (λ (n : ℕ). get_or F n 0) (sym q)
      ∙ put-past (k + (j - a - k))
      ∙ ap (λ (i : ℕ). get_or (r ++ drop k (drop a t)) i 0) (sym n)
      ∙ get_or-append-add r (drop k (drop a t)) (j - a - k) 0
      ∙ get_or-drop k (drop a t) (j - a - k) 0
      ∙ get_or-drop a t (k + (j - a - k)) 0
      ∙ ap (λ (n : ℕ). get_or t n 0) q

  put-long : length F ≡ length t
  put-long = simp (length-append, length-drop) (omega (arith, long-take, length-replicate {A = ℕ} k v))

pub marked_laid : (gone t : List ℕ) → IsTree t → (w : ℕ) (u : List ℕ) → Kept gone t u w → (a k : ℕ) → a ≡ 1 + 3 * w → a + k ≡ 1 + 3 * size t → (f : List ℕ) → f ≡ replicate k 255 → set (put_mid a k u f) 0 w ≡ laid (kept (stays gone) (read t)) t
marked_laid gone t tree w u kept-all a k qa qk f qf =
    let l = kept (stays gone) (read t) in
    let lt : length t ≡ tree_length = tree.len in
    let few : size t ≤ 128 = tree.few in
    let h = kept-all.written in
    let qw : w ≡ length l = kept-all.number in
    let b : w ≤ size t = kept-all.few in
    let lu : length u ≡ tree_length = h.len ∙ lt in
    let z : a + k ≤ length u = omega arith in
    let g = put_mid a k u (replicate k 255) in
    ap (λ (x : List ℕ). set (put_mid a k u x) 0 w) qf
    ∙ has_one l t (set g 0 w) (laid l t)
    (record {
      len = length-set g 0 w ∙ put-long u a k 255 z ∙ lu;
      number = get_or-set_same g 0 w 0 (omega (arith, put-long u a k 255 z)) ∙ qw;
      held = λ i c.
          number_cell g w i
          ∙ cell_same (cell_at g i) (cell_at u i) (put-before u a k 255 z (1 + 3 * i) (omega arith)) (put-before u a k 255 z (2 + 3 * i) (omega arith)) (put-before u a k 255 z (3 + 3 * i) (omega arith))
          ∙ h.done i (omega arith);
      left = λ i c d.
          number_cell g w i
          ∙ cell_same (cell_at g i) freed (put-inside u a k 255 z (1 + 3 * i) (omega arith) (omega arith)) (put-inside u a k 255 z (2 + 3 * i) (omega arith) (omega arith)) (put-inside u a k 255 z (3 + 3 * i) (omega arith) (omega arith));
      rest = λ i c d.
          number_cell g w i
          ∙ cell_same (cell_at g i) (cell_at u i) (put-after u a k 255 z (1 + 3 * i) (omega arith)) (put-after u a k 255 z (2 + 3 * i) (omega arith)) (put-after u a k 255 z (3 + 3 * i) (omega arith))
          ∙ h.left i (omega arith);
    })
    (laid-has l t lt (omega arith))

-- ---- two trees become one

-- whether a pair on x at the place i of n comes before one on y at the place j of m
module _ (i n j m x y : ℕ) where
  abbrev first_b : Bool
  first_b = ltb i n && (leb m j || leb x y)

  first-none : n ≤ i → false ≡ first_b
  first-none h = rw (le-ltb i n h) refl

  first_alone : i < n → m ≤ j → true ≡ first_b
  first_alone h g = rw (lt-ltb i n h, le-leb m j g) refl

  first_by : i < n → j < m → leb x y ≡ first_b
  first_by h g = rw (lt-ltb i n h, lt-leb m j g) refl

  pub comes_first : first_b ≡ true → (i < n) × (j < m → x ≤ y)
  comes_first q = elim (dec_lt i n) [
    | yes h ↦ (h, λ g. leb-true x y (first_by h g ∙ q))
    | no h ↦ absurd (let z = first-none (omega arith) ∙ q in let o : ◌≡◌ {A = ℕ} 0 1 = cc in omega arith)
  ]

  first-no : first_b ≡ false → i < n → (j < m) × (y < x)
  first-no q h = elim (dec_lt j m) [
    | yes g ↦ (g, leb-false x y (first_by h g ∙ q))
    | no g ↦ absurd (let z = first_alone h (omega arith) ∙ q in let o : ◌≡◌ {A = ℕ} 0 1 = cc in omega arith)
  ]

  -- some pair is to come, and not the one at the place i: there is one at the place j
  pub comes_second : i ≤ n → i + j < n + m → first_b ≡ false → (j < m) × (i < n → y < x)
  comes_second h g q = (elim (dec_lt i n) [ yes a ↦ (first-no q a).0 | no a ↦ omega arith ], λ a. (first-no q a).1)

module _ (a b slots : List ℕ) where
  abbrev M : List Pair
  M = merged (read a) (filled slots (read b))

  abbrev from : ℕ → ℕ → List Pair
  from i j = merged (drop i (read a)) (filled (drop j slots) (drop j (read b)))

  pub record Merging (t₀ t : List ℕ) (w i j : ℕ) : Type 0 where
    pub written : Written M t₀ t w
    pub fit : length M ≤ 128
    pub far-a : i ≤ size a
    pub far-b : j ≤ size b
    pub rest : drop w M ≡ from i j

  pub merging_none : (t : List ℕ) → Mergeable t a b slots → Merging t t 0 0 0
  merging_none t r = record {
    written = written_none M t;
    fit = omega (arith, r.room, merged-length (read a) (filled slots (read b)), read_length a);
    far-a = omega arith;
    far-b = omega arith;
    rest = refl;
  }

  module _ (t₀ : List ℕ) (r : Mergeable t₀ a b slots) (places : length slots ≡ 128) (t : List ℕ) (w i j : ℕ) (h : Merging t₀ t w i j) where
    -- the pairs to come, the next of `b` among them
    to_come : j < size b → drop j (read b) ≡ pair_at b j ∷ drop (suc j) (read b)
    to_come c = tree_from b j c

    slot-first : j < size b → drop j slots ≡ get_or slots j 0 ∷ drop (suc j) slots
    slot-first c = drop-cons slots j 0 (omega (arith, places, r.other.few))

    filled-from : j < size b → filled (drop j slots) (drop j (read b)) ≡ cond (ltb (get_or slots j 0) 128) (pair (get_or slots j 0) (subject_at b j) ∷ filled (drop (suc j) slots) (drop (suc j) (read b))) (filled (drop (suc j) slots) (drop (suc j) (read b)))
    filled-from c = rw (to_come c, slot-first c) refl

    order-next : j < size b → in_order (subject_at b j) (filled (drop (suc j) slots) (drop (suc j) (read b))) ≡ true
    order-next c = filled-order (subject_at b j) (drop (suc j) slots) (drop (suc j) (read b)) (order-drop 0 (read b) j (pair_at b j) (drop (suc j) (read b)) r.order_b (to_come c))

    -- all of them are from the subject x on
    order-rest : (x : ℕ) → (j < size b → x ≤ subject_at b j) → in_order x (filled (drop j slots) (drop j (read b))) ≡ true
    order-rest x f = elim (dec_lt j (size b)) [
      | yes c ↦ filled-order x (drop j slots) (drop j (read b)) (rw (to_come c) (order-cons x (pair_at b j) (drop (suc j) (read b)) (f c) (order-drop 0 (read b) j (pair_at b j) (drop (suc j) (read b)) r.order_b (to_come c))))
      | no c ↦ rw (tree_end b j (omega arith), filled_none (drop j slots)) refl
    ]

    -- a pair is written, and the rest is to come
    goes_on : (p : Pair) (i' j' : ℕ) → i' ≤ size a → j' ≤ size b → drop w M ≡ p ∷ from i' j' → (v : List ℕ) → v ≡ set_cell t w (cell_of p) → Merging t₀ v (w + 1) i' j'
    goes_on p i' j' ba bb d v qv =
        let n : w + 1 ≡ suc w = omega arith in
        record {
          written = written-more M t₀ t w r.len h.fit h.written p (from i' j') d v qv;
          fit = h.fit;
          far-a = ba;
          far-b = bb;
          rest = ap (λ (k : ℕ). drop k M) n ∙ (drop-first M w p (from i' j') d).1.1;
        }

    -- the first tree's pair comes first
    module _ (c : i < size a) (f : j < size b → subject_at a i ≤ subject_at b j) where
      first-is : drop w M ≡ pair_at a i ∷ from (suc i) j
      first-is = h.rest ∙ ap (λ (l : List Pair). merged l (filled (drop j slots) (drop j (read b)))) (tree_from a i c)
          ∙ merged-first (pair_at a i) (drop (suc i) (read a)) (filled (drop j slots) (drop j (read b))) (order-rest (subject_at a i) f)

      pub first_room : w < 128
      first_room = omega (arith, h.fit, (drop-first M w (pair_at a i) (from (suc i) j) first-is).0)

      pub first_goes : (e x : ℕ) → e ≡ entry_at a i → x ≡ subject_at a i → (v : List ℕ) → v ≡ set_cell t w (cell_of (pair e x)) → Merging t₀ v (w + 1) (i + 1) j
      first_goes e x qe qx v qv =
          let n : suc i ≡ i + 1 = omega arith in
          let pq : pair e x ≡ pair_at a i = λ k. pair (qe k) (qx k) in
          subst (λ (k : ℕ). Merging t₀ v (w + 1) k j) n (goes_on (pair_at a i) (suc i) j c h.far-b first-is v (qv ∙ ap (λ (k : Pair). set_cell t w (cell_of k)) pq))

    -- the next place of the second tree comes first
    module _ (c : j < size b) (f : i < size a → subject_at b j < subject_at a i) where
      before_head : (p : Pair) (l : List Pair) → drop i (read a) ≡ p ∷ l → subject_at b j < p.subject
      before_head p l q = elim (dec_lt i (size a)) [
        | yes d ↦ (let z : pair_at a i ≡ p = (let y = sym (tree_from a i d) ∙ q in cc) in omega (arith, f d, ap (λ (k : Pair). k.subject) z))
        | no d ↦ absurd (let y = sym (tree_end a i (omega arith)) ∙ q in let z : ◌≡◌ {A = ℕ} 0 1 = cc in omega arith)
      ]

      module _ (s : get_or slots j 0 < 128) where
        abbrev p : Pair
        p = pair (get_or slots j 0) (subject_at b j)

        second_is : drop w M ≡ p ∷ from i (suc j)
        second_is = h.rest ∙ ap (merged (drop i (read a))) (filled-from c ∙ ap (λ (z : Bool). cond z (p ∷ filled (drop (suc j) slots) (drop (suc j) (read b))) (filled (drop (suc j) slots) (drop (suc j) (read b)))) (lt-ltb (get_or slots j 0) 128 s))
            ∙ merged-second p (drop i (read a)) (filled (drop (suc j) slots) (drop (suc j) (read b))) before_head (order-next c)

        pub second_room : w < 128
        second_room = omega (arith, h.fit, (drop-first M w p (from i (suc j)) second_is).0)

        pub second_goes : (e x : ℕ) → e ≡ get_or slots j 0 → x ≡ subject_at b j → (v : List ℕ) → v ≡ set_cell t w (cell_of (pair e x)) → Merging t₀ v (w + 1) i (j + 1)
        second_goes e x qe qx v qv =
            let n : suc j ≡ j + 1 = omega arith in
            let pq : pair e x ≡ p = λ k. pair (qe k) (qx k) in
            subst (λ (k : ℕ). Merging t₀ v (w + 1) i k) n (goes_on p i (suc j) h.far-a c second_is v (qv ∙ ap (λ (k : Pair). set_cell t w (cell_of k)) pq))

      pub skip_goes : 128 ≤ get_or slots j 0 → Merging t₀ t w i (j + 1)
      skip_goes s =
          let n : suc j ≡ j + 1 = omega arith in
          record {
            written = h.written;
            fit = h.fit;
            far-a = h.far-a;
            far-b = omega arith;
            rest = h.rest ∙ ap (merged (drop i (read a))) (filled-from c ∙ ap (λ (z : Bool). cond z (pair (get_or slots j 0) (subject_at b j) ∷ filled (drop (suc j) slots) (drop (suc j) (read b))) (filled (drop (suc j) slots) (drop (suc j) (read b)))) (le-ltb (get_or slots j 0) 128 s)) ∙ ap (from i) n;
          }

    -- nothing is to come
    pub all_written : size a + size b ≤ i + j → set t 0 w ≡ laid M t₀
    all_written e =
        let d : drop w M ≡ [] = h.rest ∙ rw (tree_end a i (omega (arith, h.far-b)), tree_end b j (omega (arith, h.far-a)), filled_none (drop j slots)) refl in
        let n : w ≡ length M = omega (arith, drop-nothing M w d, h.written.far) in
        let lu : length t ≡ tree_length = h.written.len ∙ r.len in
        let za : size t₀ ≡ size a = ap size r.same in
        has_one M t₀ (set t 0 w) (laid M t₀)
        (record {
          len = length-set t 0 w ∙ lu;
          number = get_or-set_same t 0 w 0 (omega arith) ∙ n;
          held = λ k c. number_cell t w k ∙ h.written.done k (omega arith);
          left = λ k c f. absurd (omega (arith, merged-length (read a) (filled slots (read b)), read_length a));
          rest = λ k c f. number_cell t w k ∙ h.written.left k (omega arith);
        })
        (laid-has M t₀ r.len h.fit)

pub ruleset merging = (merging_none, comes_first, comes_second, first_room, second_room, all_written)
