-- Whole bytes are the bytes of valid lists, and of one alone.
use Prim.Native.Nat.{ℕ, zero, suc, ◌+◌, ◌-◌, ◌*◌, ◌<◌, ◌≤◌, zero-le}
use mathlib.Core.Path.{◌≡◌, refl, sym, ap, ◌∙◌, subst}
use mathlib.Core.Logic.{◌⊎◌, inl, inr, ⊎_elim}
use mathlib.Core.List.{List, [], ◌∷◌}
use mathlib.Core.Bool.{true}
use native.Mathlib.Omega.{arith}
use native.Mathlib.Decide.{ℕ_discrete, dec_lt}
use native.Mathlib.Nat.{not-suc-le-zero}
use lib.ListN.{length, get_or, get_or-eq_default}
use lib.Seq.{ext_get_or, get_or-append-add}
use Rattle.multi_cycle_list.specs.Nodes.{classes, entries, next, prev, whole_b, list_of, lists_of, read}
use Rattle.state.specs.Seq.{each}
use Rattle.state.specs.Outcome.{Bytes}
use Rattle.multi_cycle_list.specs.Lists.{Lists, Valid, count, counts}
use Rattle.multi_cycle_list.specs.Laid.{Arc, arcs, after, before, twos, laid_out, laid}
use Rattle.multi_cycle_list.proofs.Lists.{In, Below, NoDup, count_same, count-other, count_in}
use Rattle.multi_cycle_list.proofs.Chain.{Joined, Chain, chain_nodup, one_class}
use Rattle.multi_cycle_list.proofs.Rep.{Rep}
use Rattle.multi_cycle_list.proofs.WholeTools.{whole-sizes, allowed_of, of_allowed}
use Rattle.multi_cycle_list.proofs.Sound.{Stands, linked_in, sound, complete, list-is}
use Rattle.state.proofs.Seq.{each_same, get_d_each, each_get_d, length-each}
use Rattle.multi_cycle_list.proofs.Arcs.{arcs_rep}

-- ---- the bytes laid out

pub twos-length : (n : ℕ) (f g : ℕ → ℕ) → length (twos n f g) ≡ 2 * n
unfolding twos
twos-length zero f g = refl
twos-length (suc n) f g = omega (arith, twos-length n (λ k. f (suc k)) (λ k. g (suc k)))

pub twos-at : (n : ℕ) (f g : ℕ → ℕ) (i : ℕ) → i < n → (get_or (twos n f g) (2 * i) 0 ≡ f i) × (get_or (twos n f g) (suc (2 * i)) 0 ≡ g i)
unfolding twos
twos-at zero f g i h = absurd (not-suc-le-zero h)
twos-at (suc n) f g zero h = (refl, refl)
twos-at (suc n) f g (suc i) h =
    let q : 2 * suc i ≡ suc (suc (2 * i)) = omega arith in
    let w = twos-at n (λ k. f (suc k)) (λ k. g (suc k)) i (omega arith) in
    (rw q w.0, rw q w.1)

module _ (C E : ℕ) (l : List Arc) where
  pub out-length : length (laid_out C E l) ≡ 2 + 2 * (C + E)
  unfolding laid_out
  out-length = omega (arith, twos-length (C + E) (after l) (before l))

  pub out-sizes : (classes (laid_out C E l) ≡ C) × (entries (laid_out C E l) ≡ E)
  unfolding laid_out
  out-sizes = (refl, refl)

  out-next : (i : ℕ) → i < C + E → next (laid_out C E l) i ≡ after l i
  unfolding laid_out
  out-next i h = get_or-append-add (C ∷ (E ∷ [])) (twos (C + E) (after l) (before l)) (2 * i) 0 ∙ (twos-at (C + E) (after l) (before l) i h).0

  out-prev : (i : ℕ) → i < C + E → prev (laid_out C E l) i ≡ before l i
  unfolding laid_out
  out-prev i h =
      let q : 3 + 2 * i ≡ 2 + suc (2 * i) = omega arith in
      ap (λ (k : ℕ). get_or (laid_out C E l) k 0) q
      ∙ get_or-append-add (C ∷ (E ∷ [])) (twos (C + E) (after l) (before l)) (suc (2 * i)) 0
      ∙ (twos-at (C + E) (after l) (before l) i h).1

-- ---- links that are the same at each node stand for the same lists

module _ (C E : ℕ) (nx pv nx' pv' : ℕ → ℕ) (n : (i : ℕ) → i < C + E → nx' i ≡ nx i) (p : (i : ℕ) → i < C + E → pv' i ≡ pv i) where
  like_link : (a b : ℕ) → a < C + E → b < C + E → Joined nx pv a b → Joined nx' pv' a b
  like_link a b ha hb l = (n a ha ∙ l.0, p b hb ∙ l.1)

  like_chain : (es : List ℕ) (a b : ℕ) → a < C + E → b < C + E → Below E es → Chain C nx pv a es b → Chain C nx' pv' a es b
  like_chain [] a b ha hb w l = like_link a b ha hb l
  like_chain (e ∷ es) a b ha hb w l = (like_link a (C + e) ha (omega (arith, w.0)) l.0, like_chain es (C + e) b (omega (arith, w.0)) hb w.1 l.1)

  like_rep : (ls : ℕ → List ℕ) → Rep C E nx pv ls → Rep C E nx' pv' ls
  like_rep ls r =
      record {
        chains = λ c h. like_chain (ls c) c c (omega arith) (omega arith) (r.inside c h) (r.chains c h);
        inside = r.inside;
        places = λ e h. ⊎_elim (λ w. inl w) (λ l. inr (like_link (C + e) (C + e) (omega arith) (omega arith) l)) (r.places e h);
      }

abbrev pub lists : ℕ → List (List ℕ) → Lists
lists e rs = record { entries = e; rows = rs }

module _ (m : Lists) (f : Valid m) where
  laid-stands : Stands (laid m) (λ c. get_or m.rows c [])
  laid-stands =
      let C = length m.rows in
      let E = m.entries in
      let l = arcs C 0 m.rows in
      let t = laid_out C E l in
      rw ((out-sizes C E l).0, (out-sizes C E l).1)
      (like_rep C E (after l) (before l) (next t) (prev t) (out-next C E l) (out-prev C E l) (λ c. get_or m.rows c []) (arcs_rep E m.rows f.inside f.once))

  pub laid_whole : whole_b (laid m) ≡ true
  laid_whole =
      let C = length m.rows in
      let E = m.entries in
      let l = arcs C 0 m.rows in
      let z = out-sizes C E l in
      let a = allowed_of C E f.sizes in
      complete (laid m) (λ c. get_or m.rows c [])
      (record {
        some = omega (arith, z.0, a.0);
        most = omega (arith, z.0, a.1);
        fewer = omega (arith, z.1, a.2);
        sized = omega (arith, z.0, z.1, out-length C E l);
      })
      laid-stands

  pub read_laid : read (laid m) ≡ m
  unfolding lists_of
  read_laid =
      let C = length m.rows in
      let E = m.entries in
      let l = arcs C 0 m.rows in
      let z = out-sizes C E l in
      let t = laid_out C E l in
      let q : lists_of t ≡ m.rows =
      each_same (classes t) (list_of t) (λ c. get_or m.rows c []) (λ c h. list-is t (λ c. get_or m.rows c []) laid-stands c h)
      ∙ ap (λ (n : ℕ). each n (λ c. get_or m.rows c [])) z.0
      ∙ each_get_d [] m.rows in
      ap (λ (e : ℕ). lists e (lists_of t)) z.1 ∙ ap (lists E) q

-- ---- the lists of whole bytes are valid

nodup_count : (e : ℕ) (xs : List ℕ) → NoDup xs → count e xs ≤ 1
unfolding count
nodup_count e [] d = zero-le
nodup_count e (x ∷ xs) d =
    elim (ℕ_discrete x e) [
      | yes q ↦
          (elim (dec_lt 0 (count e xs)) [
            | yes w ↦ absurd (d.0 (subst (λ (z : ℕ). In z xs) (sym q) (count_in e xs w)))
            | no w ↦ omega (arith, count_same e x xs q)
          ])
      | no q ↦ omega (arith, count-other e x xs q, nodup_count e xs d.1)
    ]

below_none : (E : ℕ) (es : List ℕ) (e : ℕ) → Below E es → E ≤ e → count e es ≡ 0
unfolding count
below_none E [] e b h = refl
below_none E (x ∷ xs) e b h = count-other e x xs (omega (arith, b.0)) ∙ below_none E xs e b.1 h

counts-none : (e n : ℕ) (f : ℕ → List ℕ) → ((c : ℕ) → c < n → count e (f c) ≡ 0) → counts e (each n f) ≡ 0
unfolding counts each
counts-none e zero f h = refl
counts-none e (suc n) f h = omega (arith, h 0 (omega arith), counts-none e n (λ k. f (suc k)) (λ c l. h (suc c) (omega arith)))

counts-once : (e n : ℕ) (f : ℕ → List ℕ) → ((c : ℕ) → c < n → count e (f c) ≤ 1) → ((c d : ℕ) → c < n → d < n → 1 ≤ count e (f c) → 1 ≤ count e (f d) → c ≡ d)
    → counts e (each n f) ≤ 1
unfolding counts each
counts-once e zero f h u = zero-le
counts-once e (suc n) f h u =
    elim (dec_lt 0 (count e (f 0))) [
      | yes q ↦
          omega (
            arith,
            h 0 (omega arith),
            counts-none e n (λ k. f (suc k)) (λ c l.
                elim (dec_lt 0 (count e (f (suc c)))) [ yes w ↦ absurd (omega (arith, u 0 (suc c) (omega arith) (omega arith) q w)) | no w ↦ omega arith ]),
          )
      | no q ↦ omega (arith, counts-once e n (λ k. f (suc k)) (λ c l. h (suc c) (omega arith)) (λ c d lc ld a b. omega (arith, u (suc c) (suc d) (omega arith) (omega arith) a b)))
    ]

pub read-valid : (b : List ℕ) → whole_b b ≡ true → Valid (read b)
unfolding lists_of
read-valid b h =
    let z = whole-sizes b h in
    let r = sound b h in
    let C = classes b in
    let n : length (lists_of b) ≡ classes b = length-each (classes b) (list_of b) in
    record {
      sizes = of_allowed (length (lists_of b)) (entries b) (omega (arith, n, z.some)) (omega (arith, n, z.most)) z.fewer;
      inside = λ e l. counts-none e C (list_of b) (λ c hc. below_none (entries b) (list_of b c) e (r.inside c hc) l);
      once = λ e. counts-once e C (list_of b) (λ c hc. nodup_count e (list_of b c) (chain_nodup C (next b) (prev b) (list_of b c) c c hc (r.chains c hc)))
          (λ c d hc hd a k. one_class C (next b) (prev b) (list_of b) e c d hc hd (r.chains c hc) (r.chains d hd) (count_in e (list_of b c) a) (count_in e (list_of b d) k));
    }

-- ---- links that stand for the same lists are the same at each node

module _ (C : ℕ) (nx pv nx' pv' : ℕ → ℕ) where
  one_head : (es : List ℕ) (a b : ℕ) → Chain C nx pv a es b → Chain C nx' pv' a es b → nx a ≡ nx' a
  one_head [] a b p q = p.0 ∙ sym q.0
  one_head (e ∷ es) a b p q = p.0.0 ∙ sym q.0.0

  one_end : (es : List ℕ) (a b : ℕ) → Chain C nx pv a es b → Chain C nx' pv' a es b → pv b ≡ pv' b
  one_end [] a b p q = p.1 ∙ sym q.1
  one_end (e ∷ es) a b p q = one_end es (C + e) b p.1 q.1

  one_in : (es : List ℕ) (a b : ℕ) → Chain C nx pv a es b → Chain C nx' pv' a es b → (e : ℕ) → In e es → (nx (C + e) ≡ nx' (C + e)) × (pv (C + e) ≡ pv' (C + e))
  one_in [] a b p q e i = absurd i
  one_in (x ∷ xs) a b p q e i =
      ⊎_elim
      (λ w. subst (λ (z : ℕ). (nx (C + z) ≡ nx' (C + z)) × (pv (C + z) ≡ pv' (C + z))) (sym w) (one_head xs (C + x) b p.1 q.1, p.0.1 ∙ sym q.0.1))
      (λ j. one_in xs (C + x) b p.1 q.1 e j)
      i

  module _ (E : ℕ) (ls ls' : ℕ → List ℕ) (r : Rep C E nx pv ls) (r' : Rep C E nx' pv' ls') (same : (c : ℕ) → c < C → ls' c ≡ ls c) where
    chain' : (c : ℕ) → c < C → Chain C nx' pv' c (ls c) c
    chain' c h = subst (λ (es : List ℕ). Chain C nx' pv' c es c) (same c h) (r'.chains c h)

    one_rep : (i : ℕ) → i < C + E → (nx i ≡ nx' i) × (pv i ≡ pv' i)
    one_rep i h =
        elim (dec_lt i C) [
          | yes l ↦ (one_head (ls i) i i (r.chains i l) (chain' i l), one_end (ls i) i i (r.chains i l) (chain' i l))
          | no l ↦
              (let q : C + (i - C) ≡ i = omega arith in
              let w : (c : ℕ) → c < C → In (i - C) (ls c) → (nx (C + (i - C)) ≡ nx' (C + (i - C))) × (pv (C + (i - C)) ≡ pv' (C + (i - C))) =
              λ c hc j. one_in (ls c) c c (r.chains c hc) (chain' c hc) (i - C) j in
              subst (λ (z : ℕ). (nx z ≡ nx' z) × (pv z ≡ pv' z)) q
              (⊎_elim
              (λ a. w a.0 a.1 a.2)
              (λ k.
              ⊎_elim
              (λ a. w a.0 a.1 (subst (λ (es : List ℕ). In (i - C) es) (same a.0 a.1) a.2))
              (λ k'. (k.0 ∙ sym k'.0, k.1 ∙ sym k'.1))
              (r'.places (i - C) (omega arith)))
              (r.places (i - C) (omega arith))))
        ]

half : (k n : ℕ) → k < 2 + 2 * n → (k ≡ 0) ⊎ ((k ≡ 1) ⊎ ((i : ℕ) × (i < n) × ((k ≡ 2 + 2 * i) ⊎ (k ≡ 3 + 2 * i))))
half zero n h = inl refl
half (suc zero) n h = inr (inl refl)
half (suc (suc k)) zero h = absurd (omega arith)
half (suc (suc k)) (suc n) h =
    ⊎_elim
    (λ q. inr (inr (0, omega arith, inl (omega arith))))
    (λ w. ⊎_elim
    (λ q. inr (inr (0, omega arith, inr (omega arith))))
    (λ v. inr (inr (suc v.0, omega (arith, v.1), ⊎_elim (λ q. inl (omega arith)) (λ q. inr (omega arith)) v.2)))
    w)
    (half k n (omega arith))

-- whole bytes of the same lists are the same
pub read_one : (s t : List ℕ) → whole_b s ≡ true → whole_b t ≡ true → read t ≡ read s → t ≡ s
unfolding lists_of
read_one s t hs ht q =
    let zs = whole-sizes s hs in
    let zt = whole-sizes t ht in
    let e : entries t ≡ entries s = ap (λ (m : Lists). m.entries) q in
    let l : each (classes t) (list_of t) ≡ each (classes s) (list_of s) = ap (λ (m : Lists). m.rows) q in
    let c : classes t ≡ classes s = sym (length-each (classes t) (list_of t)) ∙ ap (λ (x : List (List ℕ)). length x) l ∙ length-each (classes s) (list_of s) in
    let r : Rep (classes s) (entries s) (next t) (prev t) (list_of t) =
    subst (λ (n : ℕ). Rep (classes s) n (next t) (prev t) (list_of t)) e (subst (λ (n : ℕ). Rep n (entries t) (next t) (prev t) (list_of t)) c (sound t ht)) in
    let same : (k : ℕ) → k < classes s → list_of s k ≡ list_of t k = λ k hk.
    sym (get_d_each (classes s) (list_of s) k [] hk) ∙ ap (λ (x : List (List ℕ)). get_or x k []) (sym l) ∙ get_d_each (classes t) (list_of t) k [] (omega (arith, c)) in
    let o = one_rep (classes s) (next t) (prev t) (next s) (prev s) (entries s) (list_of t) (list_of s) r (sound s hs) same in
    let n : length t ≡ length s = omega (arith, zs.sized, zt.sized, c, e) in
    ext_get_or 0 t s n (λ i h.
    ⊎_elim
    (λ z. ap (λ (k : ℕ). get_or t k 0) z ∙ c ∙ ap (λ (k : ℕ). get_or s k 0) (sym z))
    (λ w. ⊎_elim
    (λ z. ap (λ (k : ℕ). get_or t k 0) z ∙ e ∙ ap (λ (k : ℕ). get_or s k 0) (sym z))
    (λ v. ⊎_elim
    (λ z. ap (λ (k : ℕ). get_or t k 0) z ∙ (o v.0 v.1).0 ∙ ap (λ (k : ℕ). get_or s k 0) (sym z))
    (λ z. ap (λ (k : ℕ). get_or t k 0) z ∙ (o v.0 v.1).1 ∙ ap (λ (k : ℕ). get_or s k 0) (sym z))
    v.2)
    w)
    (half i (classes s + entries s) (omega (arith, n, zs.sized))))

pub laid_read : (b : List ℕ) → whole_b b ≡ true → laid (read b) ≡ b
laid_read b h =
    let f = read-valid b h in
    read_one b (laid (read b)) h (laid_whole (read b) f) (read_laid (read b) f)

pub whole-bytes : (b : List ℕ) → whole_b b ≡ true → Bytes b
whole-bytes b h i =
    let z = whole-sizes b h in
    let C = classes b in
    let E = entries b in
    elim (dec_lt i (length b)) [
      | yes l ↦
          ⊎_elim
          (λ q. omega (arith, ap (λ (k : ℕ). get_or b k 0) q, z.most))
          (λ w. ⊎_elim
          (λ q. omega (arith, ap (λ (k : ℕ). get_or b k 0) q, z.fewer))
          (λ v.
          let n = linked_in b h v.0 v.1 in
          ⊎_elim
          (λ q. omega (arith, ap (λ (k : ℕ). get_or b k 0) q, n.next_in, z.most, z.fewer))
          (λ q. omega (arith, ap (λ (k : ℕ). get_or b k 0) q, n.prev_in, z.most, z.fewer))
          v.2)
          w)
          (half i (C + E) (omega (arith, z.sized)))
      | no l ↦ omega (arith, get_or-eq_default b 0 {n = i} (omega arith))
    ]
