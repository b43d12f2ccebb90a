-- The arcs of valid lists link each node once each way: they stand for the lists.
use Prim.Native.Nat.{ℕ, zero, suc, ◌+◌, ◌-◌, ◌<◌, ◌≤◌, zero-le}
use mathlib.Core.Path.{◌≡◌, refl, sym, ap, ◌∙◌, subst}
use mathlib.Core.Logic.{◌≢◌, ◌⊎◌, inl, inr, ⊎_elim}
use mathlib.Core.List.{List, [], ◌∷◌, ◌++◌}
use mathlib.Core.Bool.{cond}
use native.Mathlib.Omega.{arith}
use native.Mathlib.Decide.{ℕ_discrete, dec_lt}
use native.Mathlib.Nat.{not-suc-le-zero}
use lib.ListN.{length, get_or}
use lib.Dec.{eqb}
use borrow.Author.Tests.{eq-eqb, ne_eqb}
use Rattle.multi_cycle_list.specs.Lists.{count, counts}
use Rattle.multi_cycle_list.specs.Laid.{Arc, arc, path, arcs, after, before}
use Rattle.multi_cycle_list.proofs.Lists.{In, Below, count_same, count-other, count_in}
use Rattle.multi_cycle_list.proofs.Chain.{Joined, Chain}
use Rattle.multi_cycle_list.proofs.Rep.{Rep}

-- one more where a is i
abbrev tick : ℕ → ℕ → ℕ → ℕ
tick a i n = cond (eqb a i) (suc n) n

tick-same : (a i n : ℕ) → a ≡ i → tick a i n ≡ suc n
tick-same a i n h = rw (eq-eqb a i h)

tick-other : (a i n : ℕ) → a ≢ i → tick a i n ≡ n
tick-other a i n h = rw (ne_eqb a i h)

pub row_count : (e : ℕ) (rs : List (List ℕ)) (c : ℕ) → count e (get_or rs c []) ≤ counts e rs
unfolding counts count
row_count e [] c = zero-le
row_count e (r ∷ rs) zero = omega arith
row_count e (r ∷ rs) (suc c) = omega (arith, row_count e rs c)

pub counts_in : (e : ℕ) (rs : List (List ℕ)) → 1 ≤ counts e rs → (c : ℕ) × (c < length rs) × In e (get_or rs c [])
unfolding counts
counts_in e [] h = absurd (not-suc-le-zero h)
counts_in e (r ∷ rs) h =
    elim (dec_lt 0 (count e r)) [
      | yes q ↦ (0, omega arith, count_in e r q)
      | no q ↦ (let w = counts_in e rs (omega arith) in (suc w.0, omega (arith, w.1), w.2))
    ]

pub none_below : (E : ℕ) (es : List ℕ) → ((e : ℕ) → E ≤ e → count e es ≡ 0) → Below E es
none_below E [] h = tt
none_below E (x ∷ xs) h = (
  elim (dec_lt x E) [ yes q ↦ q | no q ↦ absurd (omega (arith, h x (omega arith), count_same x x xs refl)) ],
  none_below E xs (λ e l. elim (ℕ_discrete x e) [ yes q ↦ absurd (omega (arith, h e l, count_same e x xs q)) | no q ↦ sym (count-other e x xs q) ∙ h e l ]),
)

-- ---- the arcs from a node, and to it

abbrev Has : ℕ → ℕ → List Arc → Type 0
Has a b [] = ⊥
Has a b (arc x y ∷ l) = ((x ≡ a) × (y ≡ b)) ⊎ Has a b l

outs : List Arc → ℕ → ℕ
outs [] i = 0
outs (arc a b ∷ l) i = tick a i (outs l i)

-- each arc the other way: the arcs to a node are then those from it
reversed : List Arc → List Arc
reversed [] = []
reversed (arc a b ∷ l) = arc b a ∷ reversed l

abbrev ins : List Arc → ℕ → ℕ
ins l i = outs (reversed l) i

before-reversed : (l : List Arc) (i : ℕ) → before l i ≡ after (reversed l) i
unfolding reversed before after
before-reversed [] i = refl
before-reversed (arc a b ∷ l) i = ap (cond (eqb b i) a) (before-reversed l i)

has-reversed : (a b : ℕ) (l : List Arc) → Has a b l → Has b a (reversed l)
unfolding reversed
has-reversed a b [] h = absurd h
has-reversed a b (arc x y ∷ l) h = ⊎_elim (λ q. inl (q.1, q.0)) (λ j. inr (has-reversed a b l j)) h

has-out : (a b : ℕ) (l : List Arc) → Has a b l → 1 ≤ outs l a
unfolding outs
has-out a b [] h = absurd h
has-out a b (arc x y ∷ l) h =
    elim (ℕ_discrete x a) [
      | yes q ↦ omega (arith, tick-same x a (outs l a) q)
      | no q ↦ ⊎_elim (λ p. absurd (q p.0)) (λ j. omega (arith, has-out a b l j, tick-other x a (outs l a) q)) h
    ]

after_is : (a b : ℕ) (l : List Arc) → Has a b l → outs l a ≤ 1 → after l a ≡ b
unfolding outs after
after_is a b [] h w = absurd h
after_is a b (arc x y ∷ l) h w =
    elim (ℕ_discrete x a) [
      | yes q ↦ rw (eq-eqb x a q) (⊎_elim (λ p. p.1) (λ j. absurd (omega (arith, w, tick-same x a (outs l a) q, has-out a b l j))) h)
      | no q ↦ rw (ne_eqb x a q) (⊎_elim (λ p. absurd (q p.0)) (λ j. after_is a b l j (omega (arith, w, tick-other x a (outs l a) q))) h)
    ]

before-is : (a b : ℕ) (l : List Arc) → Has a b l → ins l b ≤ 1 → before l b ≡ a
before-is a b l h w = before-reversed l b ∙ after_is b a (reversed l) (has-reversed a b l h) w

after_none : (l : List Arc) (i : ℕ) → outs l i ≡ 0 → after l i ≡ i
unfolding outs after
after_none [] i h = refl
after_none (arc x y ∷ l) i h =
    elim (ℕ_discrete x i) [
      | yes q ↦ absurd (omega (arith, h, tick-same x i (outs l i) q))
      | no q ↦ rw (ne_eqb x i q) (after_none l i (omega (arith, h, tick-other x i (outs l i) q)))
    ]

before-none : (l : List Arc) (i : ℕ) → ins l i ≡ 0 → before l i ≡ i
before-none l i h = before-reversed l i ∙ after_none (reversed l) i h

outs-more : (xs ys : List Arc) (i : ℕ) → outs (xs ++ ys) i ≡ outs xs i + outs ys i
unfolding outs
outs-more [] ys i = omega arith
outs-more (arc a b ∷ xs) ys i =
    elim (ℕ_discrete a i) [ yes q ↦ rw (eq-eqb a i q) (omega (arith, outs-more xs ys i)) | no q ↦ rw (ne_eqb a i q) (outs-more xs ys i) ]

reversed-more : (xs ys : List Arc) → reversed (xs ++ ys) ≡ reversed xs ++ reversed ys
unfolding reversed
reversed-more [] ys = refl
reversed-more (arc a b ∷ xs) ys = ap (λ (l : List Arc). arc b a ∷ l) (reversed-more xs ys)

both-more : (xs ys : List Arc) (i : ℕ) → (outs (xs ++ ys) i ≡ outs xs i + outs ys i) × (ins (xs ++ ys) i ≡ ins xs i + ins ys i)
both-more xs ys i = (outs-more xs ys i, ap (λ (l : List Arc). outs l i) (reversed-more xs ys) ∙ outs-more (reversed xs) (reversed ys) i)

has_left : (a b : ℕ) (xs ys : List Arc) → Has a b xs → Has a b (xs ++ ys)
has_left a b [] ys h = absurd h
has_left a b (arc x y ∷ xs) ys h = ⊎_elim (λ q. inl q) (λ j. inr (has_left a b xs ys j)) h

has_right : (a b : ℕ) (xs ys : List Arc) → Has a b ys → Has a b (xs ++ ys)
has_right a b [] ys h = h
has_right a b (arc x y ∷ xs) ys h = inr (has_right a b xs ys h)

-- ---- a path's arcs: at an entry as often as the entry stands in it; at a class where it begins or ends

module _ (C : ℕ) where
  path-outs : (es : List ℕ) (a b e : ℕ) → outs (path C a es b) (C + e) ≡ tick a (C + e) (count e es)
  unfolding outs path count
  path-outs [] a b e = refl
  path-outs (x ∷ xs) a b e =
      ap (tick a (C + e))
      (path-outs xs (C + x) b e
      ∙ elim (ℕ_discrete x e) [
        | yes q ↦ tick-same (C + x) (C + e) (count e xs) (omega arith) ∙ sym (tick-same x e (count e xs) q)
        | no q ↦ tick-other (C + x) (C + e) (count e xs) (omega arith) ∙ sym (tick-other x e (count e xs) q)
      ])

  path-ins : (es : List ℕ) (a b e : ℕ) → b < C → ins (path C a es b) (C + e) ≡ count e es
  unfolding outs reversed path count
  path-ins [] a b e h = tick-other b (C + e) 0 (omega arith)
  path-ins (x ∷ xs) a b e h =
      elim (ℕ_discrete x e) [
        | yes q ↦ tick-same (C + x) (C + e) (ins (path C (C + x) xs b) (C + e)) (omega arith) ∙ ap suc (path-ins xs (C + x) b e h) ∙ sym (tick-same x e (count e xs) q)
        | no q ↦ tick-other (C + x) (C + e) (ins (path C (C + x) xs b) (C + e)) (omega arith) ∙ path-ins xs (C + x) b e h ∙ sym (tick-other x e (count e xs) q)
      ]

  path-class : (es : List ℕ) (a b c : ℕ) → c < C → (outs (path C a es b) c ≡ tick a c 0) × (ins (path C a es b) c ≡ tick b c 0)
  unfolding outs reversed path
  path-class [] a b c h = (refl, refl)
  path-class (x ∷ xs) a b c h =
      let w = path-class xs (C + x) b c h in (
        ap (tick a c) (w.0 ∙ tick-other (C + x) c 0 (omega arith)),
        tick-other (C + x) c (ins (path C (C + x) xs b) c) (omega arith) ∙ w.1,
      )

  arcs-entry : (rs : List (List ℕ)) (k e : ℕ) → k + length rs ≤ C → (outs (arcs C k rs) (C + e) ≡ counts e rs) × (ins (arcs C k rs) (C + e) ≡ counts e rs)
  unfolding outs reversed arcs counts
  arcs-entry [] k e h = (refl, refl)
  arcs-entry (r ∷ rs) k e h =
      let w = arcs-entry rs (suc k) e (omega arith) in
      let m = both-more (path C k r k) (arcs C (suc k) rs) (C + e) in (
        omega (arith, m.0, w.0, path-outs r k k e, tick-other k (C + e) (count e r) (omega arith)),
        omega (arith, m.1, w.1, path-ins r k k e (omega arith)),
      )

  arcs_early : (rs : List (List ℕ)) (k c : ℕ) → c < C → c < k → (outs (arcs C k rs) c ≡ 0) × (ins (arcs C k rs) c ≡ 0)
  unfolding outs reversed arcs
  arcs_early [] k c h l = (refl, refl)
  arcs_early (r ∷ rs) k c h l =
      let w = arcs_early rs (suc k) c h (omega arith) in
      let m = both-more (path C k r k) (arcs C (suc k) rs) c in
      let p = path-class r k k c h in
      let t = tick-other k c 0 (omega arith) in
      (omega (arith, m.0, w.0, p.0, t), omega (arith, m.1, w.1, p.1, t))

  arcs-class : (rs : List (List ℕ)) (k c : ℕ) → c < C → (outs (arcs C k rs) c ≤ 1) × (ins (arcs C k rs) c ≤ 1)
  unfolding outs reversed arcs
  arcs-class [] k c h = (zero-le, zero-le)
  arcs-class (r ∷ rs) k c h =
      let m = both-more (path C k r k) (arcs C (suc k) rs) c in
      let p = path-class r k k c h in
      elim (ℕ_discrete k c) [
        | yes q ↦
            (let w = arcs_early rs (suc k) c h (omega arith) in
            let t = tick-same k c 0 q in
            (omega (arith, m.0, w.0, p.0, t), omega (arith, m.1, w.1, p.1, t)))
        | no q ↦
            (let w = arcs-class rs (suc k) c h in
            let t = tick-other k c 0 q in
            (omega (arith, m.0, w.0, p.0, t), omega (arith, m.1, w.1, p.1, t)))
      ]

  arcs_have : (rs : List (List ℕ)) (k c : ℕ) → c < length rs → (a b : ℕ) → Has a b (path C (k + c) (get_or rs c []) (k + c)) → Has a b (arcs C k rs)
  unfolding arcs
  arcs_have [] k c h a b w = absurd (not-suc-le-zero h)
  arcs_have (r ∷ rs) k zero h a b w =
      let q : k + 0 ≡ k = omega arith in
      has_left a b (path C k r k) (arcs C (suc k) rs) (subst (λ (z : ℕ). Has a b (path C z r z)) q w)
  arcs_have (r ∷ rs) k (suc c) h a b w =
      let q : k + suc c ≡ suc k + c = omega arith in
      has_right a b (path C k r k) (arcs C (suc k) rs) (arcs_have rs (suc k) c (omega arith) a b (subst (λ (z : ℕ). Has a b (path C z (get_or rs c []) z)) q w))

  path-chain : (nx pv : ℕ → ℕ) (es : List ℕ) (a b : ℕ) → ((x y : ℕ) → Has x y (path C a es b) → Joined nx pv x y) → Chain C nx pv a es b
  unfolding path
  path-chain nx pv [] a b h = h a b (inl (refl, refl))
  path-chain nx pv (e ∷ es) a b h = (h a (C + e) (inl (refl, refl)), path-chain nx pv es (C + e) b (λ x y w. h x y (inr w)))

-- ---- the arcs of valid lists stand for them

module _ (E : ℕ) (rs : List (List ℕ)) (inside : (e : ℕ) → E ≤ e → counts e rs ≡ 0) (once : (e : ℕ) → counts e rs ≤ 1) where
  single : (i : ℕ) → (outs (arcs (length rs) 0 rs) i ≤ 1) × (ins (arcs (length rs) 0 rs) i ≤ 1)
  single i =
      elim (dec_lt i (length rs)) [
        | yes q ↦ arcs-class (length rs) rs 0 i q
        | no q ↦
            (let w = arcs-entry (length rs) rs 0 (i - length rs) (omega arith) in
            let z : length rs + (i - length rs) ≡ i = omega arith in
            subst (λ (j : ℕ). (outs (arcs (length rs) 0 rs) j ≤ 1) × (ins (arcs (length rs) 0 rs) j ≤ 1)) z
            (omega (arith, w.0, once (i - length rs)), omega (arith, w.1, once (i - length rs))))
      ]

  pub arcs_rep : Rep (length rs) E (after (arcs (length rs) 0 rs)) (before (arcs (length rs) 0 rs)) (λ c. get_or rs c [])
  arcs_rep =
      let l = arcs (length rs) 0 rs in
      record {
        chains = λ c h. path-chain (length rs) (after l) (before l) (get_or rs c []) c c (λ x y w.
            let z : c ≡ 0 + c = omega arith in
            let v = arcs_have (length rs) rs 0 c h x y (subst (λ (j : ℕ). Has x y (path (length rs) j (get_or rs c []) j)) z w) in
            (after_is x y l v (single x).0, before-is x y l v (single y).1));
        inside = λ c h. none_below E (get_or rs c []) (λ e g. omega (arith, inside e g, row_count e rs c));
        places = λ e h.
            elim (dec_lt 0 (counts e rs)) [
              | yes q ↦ inl (counts_in e rs q)
              | no q ↦
                  (let w = arcs-entry (length rs) rs 0 e (omega arith) in
                  inr (after_none l (length rs + e) (omega (arith, w.0)), before-none l (length rs + e) (omega (arith, w.1))))
            ];
      }
