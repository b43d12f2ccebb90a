-- What the stores come to: the answers and the bytes of plain lists.
use Prim.Native.Nat.{ℕ, zero, suc, ◌+◌, ◌<◌}
use mathlib.Core.Path.{◌≡◌, refl, sym, ap, ◌∙◌, subst}
use mathlib.Core.Logic.{⊎_elim}
use mathlib.Core.List.{List, [], ◌∷◌, ◌++◌}
use mathlib.Core.Bool.{true, not}
use native.Mathlib.Omega.{arith}
use native.Mathlib.Decide.{dec_lt}
use lib.ListN.{length, get_or, set, drop, replicate, length-replicate}
use lib.Dec.{ltb, eqb}
use borrow.Author.Tests.{lt-ltb, le-ltb, eq-eqb, ne_eqb}
use Rattle.state.specs.Lengths.{lists_allowed, lists_length}
use Rattle.state.specs.Seq.{each}
use Rattle.state.proofs.Seq.{length-each}
use Rattle.multi_cycle_list.specs.Nodes.{classes, entries, next, prev, whole_b, list_of, lists_of, read}
use Rattle.multi_cycle_list.specs.declared.link.Link.{Link}
use Rattle.multi_cycle_list.specs.declared.link.Link.TheVariants.{Next, Prev}
use Rattle.multi_cycle_list.specs.Inner.{unbind_b, bind_b, beside_b, moved, alone_to, as_entry, Movable}
use Rattle.multi_cycle_list.specs.Lists.{Lists, Valid, counts, row, first, last, removed, pushed_front, pushed_back, with_rows, without_entry, moved_front, moved_back, empty}
use Rattle.multi_cycle_list.specs.Laid.{laid}
use Rattle.multi_cycle_list.proofs.WholeTools.{whole-sizes, allowed_of}
use Rattle.std.specs.Prelude.{Some}
use Rattle.multi_cycle_list.proofs.Lists.{Below, In, in_count}
use Rattle.multi_cycle_list.proofs.Chain.{Chain, tail_from}
use Rattle.multi_cycle_list.proofs.Arcs.{row_count, counts_in}
use Rattle.multi_cycle_list.proofs.Sound.{sound, whole_around}
use Rattle.multi_cycle_list.proofs.Meaning.{Turned, turned-whole, turned-lists, node_of, unbound, unbound-turned, removed-is, front-turned, back-turned, pushed-is, taken_is, list_at, first-from, first_of, last_of}
use Rattle.multi_cycle_list.proofs.FreshMeaning.{opened}
use Rattle.multi_cycle_list.proofs.Laid.{lists, laid_read, laid_whole, read_laid, read-valid}

pub rows-length : (s : List ℕ) → length (lists_of s) ≡ classes s
unfolding lists_of
rows-length s = length-each (classes s) (list_of s)

-- ---- the answers, from the links

module _ (s : List ℕ) (c : ℕ) (h : whole_b s ≡ true) (hc : c < classes s) where
  pub front_is : first (row (read s) c) ≡ as_entry s (next s c)
  front_is = ap first (list_at s c hc) ∙ sym (first_of s c (list_of s c) hc ((sound s h).chains c hc))

  -- behind the front e
  pub second_is : (e : ℕ) → first (row (read s) c) ≡ Some e → as_entry s (next s (classes s + e)) ≡ first (drop 1 (row (read s) c))
  second_is e q = go (list_of s c) ((sound s h).chains c hc) (ap first (sym (list_at s c hc)) ∙ q) ∙ ap (λ (l : List ℕ). first (drop 1 l)) (sym (list_at s c hc))
    where
      go : (l : List ℕ) → Chain (classes s) (next s) (prev s) c l c → first l ≡ Some e → as_entry s (next s (classes s + e)) ≡ first (drop 1 l)
      go [] p z = absurd (let o : ◌≡◌ {A = ℕ} 0 1 = cc in omega arith)
      go (x ∷ l) p z = let y : x ≡ e = cc in ap (λ (k : ℕ). as_entry s (next s (classes s + k))) (sym y) ∙ first-from s (classes s + x) c l hc p.1

  -- the front is an entry
  pub front_in : (e : ℕ) → first (row (read s) c) ≡ Some e → e < entries s
  front_in e q = go (list_of s c) ((sound s h).inside c hc) (ap first (sym (list_at s c hc)) ∙ q)
    where
      go : (l : List ℕ) → Below (entries s) l → first l ≡ Some e → e < entries s
      go [] p z = absurd (let o : ◌≡◌ {A = ℕ} 0 1 = cc in omega arith)
      go (x ∷ l) p z = let y : x ≡ e = cc in omega (arith, p.0)

  pub back_is : last (row (read s) c) ≡ as_entry s (prev s c)
  back_is = ap last (list_at s c hc) ∙ sym (last_of s c (list_of s c) hc ((sound s h).chains c hc))

-- an entry that is linked to itself heads no chain to a class
no_loop : (C : ℕ) (nx pv : ℕ → ℕ) (e b : ℕ) → b < C → nx (C + e) ≡ C + e → (vs : List ℕ) → Chain C nx pv (C + e) vs b → ⊥
no_loop C nx pv e b hb l [] p = omega (arith, p.0)
no_loop C nx pv e b hb l (v ∷ vs) p =
    let q : v ≡ e = omega (arith, p.0.0) in
    no_loop C nx pv e b hb l vs (subst (λ (z : ℕ). Chain C nx pv (C + z) vs b) q p.1)

module _ (s : List ℕ) (e : ℕ) (h : whole_b s ≡ true) (he : e < entries s) where
  pub linked_is : ltb 0 (counts e (lists_of s)) ≡ not (eqb (next s (classes s + e)) (classes s + e))
  linked_is =
      let C = classes s in
      let r = sound s h in
      elim (dec_lt 0 (counts e (lists_of s))) [
        | yes q ↦
            (let w = counts_in e (lists_of s) q in
            let hc : w.0 < C = omega (arith, w.1, rows-length s) in
            let v = tail_from C (next s) (prev s) (list_of s w.0) w.0 w.0 e (r.chains w.0 hc) (subst (λ (l : List ℕ). In e l) (list_at s w.0 hc) w.2) in
            lt-ltb 0 (counts e (lists_of s)) q ∙ sym (ap not (ne_eqb (next s (C + e)) (C + e) (λ l. no_loop C (next s) (prev s) e w.0 hc l v.0 v.1))))
        | no q ↦
            le-ltb 0 (counts e (lists_of s)) (omega arith)
            ∙ sym (ap not (eq-eqb (next s (C + e)) (C + e)
            (⊎_elim
            (λ (w : (c : ℕ) × (c < C) × In e (list_of s c)).
            absurd (q (omega (arith, row_count e (lists_of s) w.0, in_count e (get_or (lists_of s) w.0 []) (subst (λ (l : List ℕ). In e l) (sym (list_at s w.0 w.1)) w.2)))))
            (λ l. l.0)
            (r.places e he))))
      ]

-- ---- the bytes that each change leaves

-- t stands for what rs has, in the sizes of s
turned-read : (s t : List ℕ) (ls : ℕ → List ℕ) → Turned s t ls → (rs : List (List ℕ)) → each (classes s) ls ≡ rs → read t ≡ with_rows (read s) rs
turned-read s t ls w rs q = ap (λ (e : ℕ). lists e (lists_of t)) w.same.es ∙ ap (lists (entries s)) (turned-lists s t ls w ∙ q)

-- so t is what is laid out, and what is laid out is valid
pub record Lays (t : List ℕ) (m : Lists) : Type 0 where
  pub is : t ≡ laid m
  pub valid : Valid m

turned-laid : (s t : List ℕ) (ls : ℕ → List ℕ) → whole_b s ≡ true → Turned s t ls → (rs : List (List ℕ)) → each (classes s) ls ≡ rs → Lays t (with_rows (read s) rs)
turned-laid s t ls h w rs q =
    let z = turned-whole s t ls (whole-sizes s h) w in
    let r = turned-read s t ls w rs q in
    record { is = sym (laid_read t z) ∙ ap (λ (m : Lists). laid m) r; valid = subst (λ (m : Lists). Valid m) r (read-valid t z) }

module _ (s : List ℕ) (e : ℕ) (h : whole_b s ≡ true) (he : e < entries s) where
  pub remove_laid : Lays (unbound s e) (with_rows (read s) (removed e (lists_of s)))
  remove_laid = turned-laid s _ _ h (unbound-turned s e h he) _ (removed-is s e h he)

  module _ (c : ℕ) (hc : c < classes s) where
    front-laid : Lays (bind_b (unbound s e) (node_of s e) c (next (unbound s e) c)) (with_rows (read s) (pushed_front c e (removed e (lists_of s))))
    front-laid =
        turned-laid s _ _ h (front-turned s e h he c hc) _
        (pushed-is s e h he c hc _ ∙ ap (λ (l : List ℕ). set (removed e (lists_of s)) c (e ∷ l)) (taken_is s e h he c hc))

    back-laid : Lays (bind_b (unbound s e) (node_of s e) (prev (unbound s e) c) c) (with_rows (read s) (pushed_back c e (removed e (lists_of s))))
    back-laid =
        turned-laid s _ _ h (back-turned s e h he c hc) _
        (pushed-is s e h he c hc _ ∙ ap (λ (l : List ℕ). set (removed e (lists_of s)) c (l ++ (e ∷ []))) (taken_is s e h he c hc))

    pub moved_laid : (side : Link) → Lays (beside_b (unbound s e) (node_of s e) c side) (moved side c e (read s))
    moved_laid Next = front-laid
    moved_laid Prev = back-laid

-- ---- the entry's node, taken out, can be put in next to a class

pub movable : (s : List ℕ) (e : ℕ) → whole_b s ≡ true → e < entries s → (i : ℕ) → i ≡ classes s + e → (c : ℕ) → c < classes s → Movable s i c
movable s e h he i n c hc =
    let u = unbound-turned s e h he in
    let r : unbind_b s i ≡ unbound s e = ap (unbind_b s) n in
    let w : whole_b (unbind_b s i) ≡ true = rw r (turned-whole s _ _ (whole-sizes s h) u) in
    let cs : classes (unbind_b s i) ≡ classes s = ap classes r ∙ u.same.cs in
    let es : entries (unbind_b s i) ≡ entries s = ap entries r ∙ u.same.es in
    record { out = whole_around s h i (omega arith); fits = (whole_around (unbind_b s i) w i (omega arith)).at; to = whole_around (unbind_b s i) w c (omega arith) }

-- ---- opening

each-empty : (n : ℕ) → each {A = List ℕ} n (λ k. []) ≡ replicate n []
unfolding each
each-empty zero = refl
each-empty (suc n) = ap (λ (l : List (List ℕ)). [] ∷ l) (each-empty n)

pub fresh : (s : List ℕ) (c e : ℕ) → lists_allowed c e ≡ true → length s ≡ lists_length c e → Lays (alone_to (set (set s 0 c) 1 e) (c + e)) (empty c e)
fresh s c e l n =
    let a = allowed_of c e l in
    let o = opened s c e a.0 a.1 a.2 n in
    let t = alone_to (set (set s 0 c) 1 e) (c + e) in
    let r : read t ≡ empty c e = ap (λ (k : ℕ). lists k (lists_of t)) o.sized ∙ ap (lists e) (o.empty ∙ each-empty c) in
    record { is = sym (laid_read t o.is_whole) ∙ ap (λ (m : Lists). laid m) r; valid = subst (λ (m : Lists). Valid m) r (read-valid t o.is_whole) }

-- ---- each change keeps lists valid

module _ (m : Lists) (f : Valid m) (e : ℕ) (he : e < m.entries) where
  entry_in : e < entries (laid m)
  entry_in = omega (arith, ap (λ (x : Lists). x.entries) (read_laid m f))

  pub remove-valid : Valid (without_entry e m)
  remove-valid = subst (λ (x : Lists). Valid (without_entry e x)) (read_laid m f) (remove_laid (laid m) e (laid_whole m f) entry_in).valid

  module _ (c : ℕ) (hc : c < length m.rows) where
    class_in : c < classes (laid m)
    class_in = omega (arith, rows-length (laid m), ap (λ (x : Lists). length x.rows) (read_laid m f))

    pub front-valid : Valid (moved_front c e m)
    front-valid = subst (λ (x : Lists). Valid (moved_front c e x)) (read_laid m f) (moved_laid (laid m) e (laid_whole m f) entry_in c class_in Next).valid

    pub back-valid : Valid (moved_back c e m)
    back-valid = subst (λ (x : Lists). Valid (moved_back c e x)) (read_laid m f) (moved_laid (laid m) e (laid_whole m f) entry_in c class_in Prev).valid

pub empty-valid : (c e : ℕ) → lists_allowed c e ≡ true → Valid (empty c e)
empty-valid c e h = (fresh (replicate (lists_length c e) 0) c e h (length-replicate {A = ℕ} (lists_length c e) 0)).valid
