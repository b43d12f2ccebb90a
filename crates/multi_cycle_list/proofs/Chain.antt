-- Chains of links: from the node a by the entries es to the node b, each link both ways. The entry e is the node C + e.
use Prim.Native.Nat.{ℕ, suc, ◌+◌, ◌<◌}
use mathlib.Core.Path.{◌≡◌, refl, sym, ap, ◌∙◌, subst}
use mathlib.Core.Logic.{◌≢◌, ◌⊎◌, inl, inr, ⊎_elim}
use mathlib.Core.List.{List, [], ◌∷◌, ◌++◌}
use native.Mathlib.Omega.{arith}
use native.Mathlib.Decide.{ℕ_discrete}
use lib.ListN.{length}
use Rattle.multi_cycle_list.specs.Lists.{without}
use Rattle.multi_cycle_list.proofs.Lists.{In, Below, NoDup, without-same, without_other}

abbrev pub Joined : (ℕ → ℕ) → (ℕ → ℕ) → ℕ → ℕ → Type 0
Joined nx pv a b = (nx a ≡ b) × (pv b ≡ a)

abbrev pub Chain : ℕ → (ℕ → ℕ) → (ℕ → ℕ) → ℕ → List ℕ → ℕ → Type 0
Chain C nx pv a [] b = Joined nx pv a b
Chain C nx pv a (e ∷ es) b = Joined nx pv a (C + e) × Chain C nx pv (C + e) es b

-- ---- one chain from a to a class: its list is one, and has each entry once

module _ (C : ℕ) (nx pv : ℕ → ℕ) where
  pub same_length : (xs ys : List ℕ) (a b b' : ℕ) → b < C → b' < C → Chain C nx pv a xs b → Chain C nx pv a ys b' → length xs ≡ length ys
  same_length [] [] a b b' h h' p q = refl
  same_length [] (y ∷ ys) a b b' h h' p q = absurd (omega (arith, p.0, q.0.0))
  same_length (x ∷ xs) [] a b b' h h' p q = absurd (omega (arith, q.0, p.0.0))
  same_length (x ∷ xs) (y ∷ ys) a b b' h h' p q =
      let e : y ≡ x = omega (arith, p.0.0, q.0.0) in
      ap suc (same_length xs ys (C + x) b b' h h' p.1 (subst (λ (z : ℕ). Chain C nx pv (C + z) ys b') e q.1))

  -- from an entry of the chain on
  pub tail_from : (ys : List ℕ) (a b e : ℕ) → Chain C nx pv a ys b → In e ys → (vs : List ℕ) × (Chain C nx pv (C + e) vs b) × (length vs < length ys)
  tail_from [] a b e p i = absurd i
  tail_from (y ∷ ys) a b e p i =
      ⊎_elim
      (λ q. (ys, subst (λ (z : ℕ). Chain C nx pv (C + z) ys b) (sym q) p.1, omega arith))
      (λ j. let r = tail_from ys (C + y) b e p.1 j in (r.0, r.1, omega (arith, r.2)))
      i

  pub chain_nodup : (ys : List ℕ) (a b : ℕ) → b < C → Chain C nx pv a ys b → NoDup ys
  chain_nodup [] a b h p = tt
  chain_nodup (y ∷ ys) a b h p = (
    λ i. let r = tail_from ys (C + y) b y p.1 i in omega (arith, r.2, same_length ys r.0 (C + y) b b h h p.1 r.1),
    chain_nodup ys (C + y) b h p.1,
  )

  -- each node of the chain is linked on, and back
  pub out_at : (N E : ℕ) → N ≡ C + E → (ys : List ℕ) (a b : ℕ) → b < N → Below E ys → Chain C nx pv a ys b → (nx a < N) × (pv (nx a) ≡ a)
  out_at N E n [] a b h w p = (subst (λ (z : ℕ). z < N) (sym p.0) h, ap pv p.0 ∙ p.1)
  out_at N E n (y ∷ ys) a b h w p = (omega (arith, p.0.0, w.0), ap pv p.0.0 ∙ p.0.1)

  pub out_in : (N E : ℕ) → N ≡ C + E → (ys : List ℕ) (a b : ℕ) → b < N → Below E ys → Chain C nx pv a ys b → (e : ℕ) → In e ys → (nx (C + e) < N) × (pv (nx (C + e)) ≡ C + e)
  out_in N E n [] a b h w p e i = absurd i
  out_in N E n (y ∷ ys) a b h w p e i =
      ⊎_elim
      (λ q. subst (λ (z : ℕ). (nx (C + z) < N) × (pv (nx (C + z)) ≡ C + z)) (sym q) (out_at N E n ys (C + y) b h w.1 p.1))
      (λ j. out_in N E n ys (C + y) b h w.1 p.1 e j)
      i

  pub back_at : (N E : ℕ) → N ≡ C + E → (ys : List ℕ) (a b : ℕ) → a < N → Below E ys → Chain C nx pv a ys b → (pv b < N) × (nx (pv b) ≡ b)
  back_at N E n [] a b h w p = (subst (λ (z : ℕ). z < N) (sym p.1) h, ap nx p.1 ∙ p.0)
  back_at N E n (y ∷ ys) a b h w p = back_at N E n ys (C + y) b (omega (arith, w.0)) w.1 p.1

  pub back_in : (N E : ℕ) → N ≡ C + E → (ys : List ℕ) (a b : ℕ) → a < N → Below E ys → Chain C nx pv a ys b → (e : ℕ) → In e ys → (pv (C + e) < N) × (nx (pv (C + e)) ≡ C + e)
  back_in N E n [] a b h w p e i = absurd i
  back_in N E n (y ∷ ys) a b h w p e i =
      ⊎_elim
      (λ q. subst (λ (z : ℕ). (pv (C + z) < N) × (nx (pv (C + z)) ≡ C + z)) (sym q) (subst (λ (z : ℕ). z < N) (sym p.0.1) h, ap nx p.0.1 ∙ p.0.0))
      (λ j. back_in N E n ys (C + y) b (omega (arith, w.0)) w.1 p.1 e j)
      i

  same_end : (xs ys : List ℕ) (a b b' : ℕ) → b < C → b' < C → Chain C nx pv a xs b → Chain C nx pv a ys b' → b ≡ b'
  same_end [] [] a b b' h h' p q = sym p.0 ∙ q.0
  same_end [] (y ∷ ys) a b b' h h' p q = absurd (omega (arith, p.0, q.0.0))
  same_end (x ∷ xs) [] a b b' h h' p q = absurd (omega (arith, q.0, p.0.0))
  same_end (x ∷ xs) (y ∷ ys) a b b' h h' p q =
      let e : y ≡ x = omega (arith, p.0.0, q.0.0) in
      same_end xs ys (C + x) b b' h h' p.1 (subst (λ (z : ℕ). Chain C nx pv (C + z) ys b') e q.1)

  -- an entry stands in one class's list alone
  pub one_class : (ls : ℕ → List ℕ) (e c d : ℕ) → c < C → d < C → Chain C nx pv c (ls c) c → Chain C nx pv d (ls d) d → In e (ls c) → In e (ls d) → c ≡ d
  one_class ls e c d hc hd p q i j =
      let u = tail_from (ls c) c c e p i in
      let v = tail_from (ls d) d d e q j in
      same_end u.0 v.0 (C + e) c d hc hd u.1 v.1

-- ---- the node x taken out

pub record Unbinds (nx pv nx' pv' : ℕ → ℕ) (x : ℕ) : Type 0 where
  pub back : pv (nx x) ≡ x
  pub forth : nx (pv x) ≡ x
  pub n-at : nx' x ≡ x
  pub n-prev : nx' (pv x) ≡ nx x
  pub n-other : (a : ℕ) → a ≢ x → a ≢ pv x → nx' a ≡ nx a
  pub p-at : pv' x ≡ x
  pub p-next : pv' (nx x) ≡ pv x
  pub p-other : (b : ℕ) → b ≢ x → b ≢ nx x → pv' b ≡ pv b

module _ (C : ℕ) (nx pv nx' pv' : ℕ → ℕ) (e : ℕ) (u : Unbinds nx pv nx' pv' (C + e)) where
  pub link_kept : (a b : ℕ) → Joined nx pv a b → a ≢ C + e → b ≢ C + e → Joined nx' pv' a b
  link_kept a b l na nb = (
    u.n-other a na (λ q. nb (sym l.0 ∙ ap nx q ∙ u.forth)) ∙ l.0,
    u.p-other b nb (λ q. na (sym l.1 ∙ ap pv q ∙ u.back)) ∙ l.1,
  )

  record Both (es : List ℕ) (b : ℕ) : Type 0 where
    from : (a : ℕ) → a ≢ C + e → Chain C nx pv a es b → Chain C nx' pv' a (without e es) b
    over : Chain C nx pv (C + e) es b → (a : ℕ) → a ≢ C + e → a ≡ pv (C + e) → Chain C nx' pv' a (without e es) b

  both : (es : List ℕ) (b : ℕ) → b ≢ C + e → Both es b
  unfolding without
  both [] b nb =
      record {
        from = λ a na l. link_kept a b l na nb;
        over = λ l a na q. (ap nx' q ∙ u.n-prev ∙ l.0, ap pv' (sym l.0) ∙ u.p-next ∙ sym q);
      }
  both (y ∷ ys) b nb =
      let r = both ys b nb in
      elim (ℕ_discrete y e) [
        | yes q ↦ record {
          from = λ a na p. rw (without-same e y ys q)
              (r.over (subst (λ (z : ℕ). Chain C nx pv (C + z) ys b) q p.1) a na (sym p.0.1 ∙ ap (λ (z : ℕ). pv (C + z)) q));
          over = λ p a na h. absurd (na (h ∙ ap pv (sym (p.0.0 ∙ ap (λ (z : ℕ). C + z) q)) ∙ u.back));
        }
        | no q ↦ record {
          from = λ a na p. rw (without_other e y ys q) (link_kept a (C + y) p.0 na (λ z. q (omega arith)), r.from (C + y) (λ z. q (omega arith)) p.1);
          over = λ p a na h. rw (without_other e y ys q)
              ((ap nx' h ∙ u.n-prev ∙ p.0.0, ap pv' (sym p.0.0) ∙ u.p-next ∙ sym h), r.from (C + y) (λ z. q (omega arith)) p.1);
        }
      ]

  pub chain-without : (es : List ℕ) (a b : ℕ) → a ≢ C + e → b ≢ C + e → Chain C nx pv a es b → Chain C nx' pv' a (without e es) b
  chain-without es a b na nb p = (both es b nb).from a na p

-- ---- the lone node x put in between a and b

pub record Binds (nx pv nx' pv' : ℕ → ℕ) (x a b : ℕ) : Type 0 where
  pub lone : Joined nx pv x x
  pub cut : Joined nx pv a b
  pub n-a : nx' a ≡ x
  pub n-at : nx' x ≡ b
  pub n-other : (c : ℕ) → c ≢ x → c ≢ a → nx' c ≡ nx c
  pub p-b : pv' b ≡ x
  pub p-at : pv' x ≡ a
  pub p-other : (c : ℕ) → c ≢ x → c ≢ b → pv' c ≡ pv c

module _ (C : ℕ) (nx pv nx' pv' : ℕ → ℕ) (e a b : ℕ) (u : Binds nx pv nx' pv' (C + e) a b) where
  bound_link : (c d : ℕ) → Joined nx pv c d → c ≢ C + e → c ≢ a → Joined nx' pv' c d
  bound_link c d l ne na = (
    u.n-other c ne na ∙ l.0,
    u.p-other d (λ z. ne (sym l.1 ∙ ap pv z ∙ u.lone.1)) (λ z. na (sym l.1 ∙ ap pv z ∙ u.cut.1)) ∙ l.1,
  )

  -- what leads elsewhere than to b does not come from a
  not-from : (c d : ℕ) → Joined nx pv c d → d ≢ b → c ≢ a
  not-from c d l nb z = nb (sym l.0 ∙ ap nx z ∙ u.cut.0)

  -- the links that stay where a or b is the class q: those that touch no q, and from another node to q where a is q
  pub kept : (q : ℕ) → (a ≡ q) ⊎ (b ≡ q) → (c d : ℕ) → Joined nx pv c d → c ≢ C + e → c ≢ q → (a ≡ q) ⊎ (d ≢ q) → Joined nx' pv' c d
  kept q t c d l ne nc nd =
      let from : a ≡ q → c ≢ a = λ y z. nc (z ∙ y) in
      bound_link c d l ne (⊎_elim from (λ (n : d ≢ q). ⊎_elim from (λ y. not-from c d l (λ z. n (z ∙ y))) t) nd)

  pub kept-chain : (q : ℕ) → q < C → (a ≡ q) ⊎ (b ≡ q) → (es : List ℕ) (c d : ℕ) → Chain C nx pv c es d → c ≢ C + e → c ≢ q → (a ≡ q) ⊎ (d ≢ q) → (In e es → ⊥)
      → Chain C nx' pv' c es d
  kept-chain q hq t [] c d p ne nc nd out = kept q t c d p ne nc nd
  kept-chain q hq t (y ∷ ys) c d p ne nc nd out = (
    kept q t c (C + y) p.0 ne nc (inr (omega arith)),
    kept-chain q hq t ys (C + y) d p.1 (λ z. out (inl (omega arith))) (omega arith) nd (λ i. out (inr i)),
  )

  -- from x on to where a led
  on : (d : ℕ) → nx a ≡ d → Joined nx' pv' (C + e) d
  on d h = (u.n-at ∙ sym u.cut.0 ∙ h, ap pv' (sym h ∙ u.cut.0) ∙ u.p-b)

  pub bound-front : a < C → (es : List ℕ) → (In e es → ⊥) → Chain C nx pv a es a → Chain C nx' pv' a (e ∷ es) a
  bound-front h [] out p = ((u.n-a, u.p-at), on a p.0)
  bound-front h (y ∷ ys) out p =
      ((u.n-a, u.p-at), (on (C + y) p.0.0, kept-chain a h (inl refl) ys (C + y) a p.1 (λ z. out (inl (omega arith))) (omega arith) (inl refl) (λ i. out (inr i))))

  pub bound-back : b < C → (es : List ℕ) (c : ℕ) → c ≢ C + e → (In e es → ⊥) → Chain C nx pv c es b → Chain C nx' pv' c (es ++ (e ∷ [])) b
  bound-back h [] c ne out p =
      let q : c ≡ a = sym p.1 ∙ u.cut.1 in
      ((ap nx' q ∙ u.n-a, u.p-at ∙ sym q), (u.n-at, u.p-b))
  bound-back h (y ∷ ys) c ne out p = (
    bound_link c (C + y) p.0 ne (not-from c (C + y) p.0 (omega arith)),
    bound-back h ys (C + y) (λ z. out (inl (omega arith))) (λ i. out (inr i)) p.1,
  )
