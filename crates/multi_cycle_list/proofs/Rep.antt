-- The links nx, pv of C classes and E entries stand for the lists ls: each class heads the cycle of its list, and each entry is in a list or alone.
use Prim.Native.Nat.{ℕ, ◌+◌, ◌-◌, ◌<◌, ◌≤◌}
use mathlib.Core.Path.{◌≡◌, refl, sym, ap, ◌∙◌, subst}
use mathlib.Core.Logic.{◌≢◌, ◌⊎◌, inl, inr, ⊎_elim}
use mathlib.Core.List.{List, [], ◌∷◌, ◌++◌}
use mathlib.Core.Bool.{cond}
use native.Mathlib.Omega.{arith}
use native.Mathlib.Decide.{ℕ_discrete, dec_lt}
use lib.ListN.{length}
use lib.Dec.{eqb}
use borrow.Author.Tests.{eq-eqb, ne_eqb}
use Rattle.multi_cycle_list.specs.Lists.{without}
use Rattle.multi_cycle_list.proofs.Lists.{In, Below, in_without, pigeon, below_of_without, in_snoc_old, in_snoc_new, below_snoc}
use Rattle.multi_cycle_list.proofs.Chain.{Joined, Chain, chain_nodup, out_at, out_in, back_at, back_in, Unbinds, link_kept, chain-without, Binds, kept, kept-chain, bound-front, bound-back}

pub record Rep (C E : ℕ) (nx pv : ℕ → ℕ) (ls : ℕ → List ℕ) : Type 0 where
  pub chains : (c : ℕ) → c < C → Chain C nx pv c (ls c) c
  pub inside : (c : ℕ) → c < C → Below E (ls c)
  pub places : (e : ℕ) → e < E → ((c : ℕ) × (c < C) × In e (ls c)) ⊎ Joined nx pv (C + e) (C + e)

-- f with v at q
abbrev pub upd : (ℕ → List ℕ) → ℕ → List ℕ → ℕ → List ℕ
upd f q v c = cond (eqb c q) v (f c)

pub upd_same : (f : ℕ → List ℕ) (q : ℕ) (v : List ℕ) (c : ℕ) → c ≡ q → upd f q v c ≡ v
upd_same f q v c h = rw (eq-eqb c q h)

pub upd_other : (f : ℕ → List ℕ) (q : ℕ) (v : List ℕ) (c : ℕ) → c ≢ q → upd f q v c ≡ f c
upd_other f q v c h = rw (ne_eqb c q h)

module _ (C E : ℕ) (nx pv : ℕ → ℕ) (ls : ℕ → List ℕ) (r : Rep C E nx pv ls) where
  pub rep_length : (c : ℕ) → c < C → length (ls c) ≤ E
  rep_length c h = pigeon E (ls c) (chain_nodup C nx pv (ls c) c c h (r.chains c h)) (r.inside c h)

  -- what holds of each class, each entry of a list and each lone entry holds of each node
  each_node : (P : ℕ → Type 0) → ((c : ℕ) → c < C → P c) → ((c : ℕ) → c < C → (e : ℕ) → In e (ls c) → P (C + e)) → ((e : ℕ) → e < E → Joined nx pv (C + e) (C + e) → P (C + e))
      → (i : ℕ) → i < C + E → P i
  each_node P f g k i h =
      elim (dec_lt i C) [
        | yes l ↦ f i l
        | no l ↦
            (let q : C + (i - C) ≡ i = omega arith in
            let he : i - C < E = omega arith in
            subst P q (⊎_elim (λ w. g w.0 w.1 (i - C) w.2) (λ w. k (i - C) he w) (r.places (i - C) he)))
      ]

  pub rep_next : (i : ℕ) → i < C + E → (nx i < C + E) × (pv (nx i) ≡ i)
  rep_next =
      each_node (λ i. (nx i < C + E) × (pv (nx i) ≡ i))
      (λ c h. out_at C nx pv (C + E) E refl (ls c) c c (omega arith) (r.inside c h) (r.chains c h))
      (λ c h. out_in C nx pv (C + E) E refl (ls c) c c (omega arith) (r.inside c h) (r.chains c h))
      (λ e h l. (omega arith, ap pv l.0 ∙ l.1))

  pub rep_prev : (i : ℕ) → i < C + E → (pv i < C + E) × (nx (pv i) ≡ i)
  rep_prev =
      each_node (λ i. (pv i < C + E) × (nx (pv i) ≡ i))
      (λ c h. back_at C nx pv (C + E) E refl (ls c) c c (omega arith) (r.inside c h) (r.chains c h))
      (λ c h. back_in C nx pv (C + E) E refl (ls c) c c (omega arith) (r.inside c h) (r.chains c h))
      (λ e h l. (omega arith, ap nx l.1 ∙ l.0))

  pub rep_without : (nx' pv' : ℕ → ℕ) (e : ℕ) → Unbinds nx pv nx' pv' (C + e) → Rep C E nx' pv' (λ c. without e (ls c))
  rep_without nx' pv' e u =
      record {
        chains = λ c h. chain-without C nx pv nx' pv' e u (ls c) c c (omega arith) (omega arith) (r.chains c h);
        inside = λ c h. below_of_without E e (ls c) (r.inside c h);
        places = λ k h.
            elim (ℕ_discrete k e) [
              | yes q ↦ inr (subst (λ (z : ℕ). Joined nx' pv' (C + z) (C + z)) (sym q) (u.n-at, u.p-at))
              | no q ↦
                  ⊎_elim
                  (λ w. inl (w.0, w.1, in_without e (ls w.0) k w.2 q))
                  (λ l. inr (link_kept C nx pv nx' pv' e u (C + k) (C + k) l (λ z. q (omega arith)) (λ z. q (omega arith))))
                  (r.places k h)
            ];
      }

  -- the entry e of no list put in between a and b, of which one is the class q, whose list becomes v
  module _ (nx' pv' : ℕ → ℕ) (e q a b : ℕ) (he : e < E) (hq : q < C) (out : (c : ℕ) → c < C → In e (ls c) → ⊥) (u : Binds nx pv nx' pv' (C + e) a b) where
    rep_bound : (a ≡ q) ⊎ (b ≡ q) → (v : List ℕ) → Chain C nx' pv' q v q → Below E v → In e v → ((k : ℕ) → In k (ls q) → In k v) → Rep C E nx' pv' (upd ls q v)
    rep_bound t v chain below new old =
        record {
          chains = λ c h.
              elim (ℕ_discrete c q) [
                | yes z ↦ rw (upd_same ls q v c z) (subst (λ (y : ℕ). Chain C nx' pv' y v y) (sym z) chain)
                | no z ↦ rw (upd_other ls q v c z) (kept-chain C nx pv nx' pv' e a b u q hq t (ls c) c c (r.chains c h) (omega arith) z (inr z) (out c h))
              ];
          inside = λ c h. elim (ℕ_discrete c q) [ yes z ↦ rw (upd_same ls q v c z) below | no z ↦ rw (upd_other ls q v c z) (r.inside c h) ];
          places = λ k h.
              elim (ℕ_discrete k e) [
                | yes z ↦ inl (q, hq, rw (upd_same ls q v q refl) (subst (λ (d : ℕ). In d v) (sym z) new))
                | no z ↦
                    ⊎_elim
                    (λ (w : (c : ℕ) × (c < C) × In k (ls c)). inl (
                      w.0,
                      w.1,
                      elim (ℕ_discrete w.0 q) [
                        | yes y ↦ rw (upd_same ls q v w.0 y) (old k (subst (λ (d : ℕ). In k (ls d)) y w.2))
                        | no y ↦ rw (upd_other ls q v w.0 y) w.2
                      ],
                    ))
                    (λ l. inr (kept C nx pv nx' pv' e a b u q t (C + k) (C + k) l (omega arith) (omega arith) (inr (omega arith))))
                    (r.places k h)
              ];
        }

    pub rep_front : a ≡ q → Rep C E nx' pv' (upd ls q (e ∷ ls q))
    rep_front z =
        rep_bound (inl z) (e ∷ ls q)
        (subst (λ (y : ℕ). Chain C nx' pv' y (e ∷ ls q) y) z (bound-front C nx pv nx' pv' e a b u (omega arith) (ls q) (out q hq) (subst (λ (y : ℕ). Chain C nx pv y (ls q) y) (sym z) (r.chains q hq))))
        (he, r.inside q hq) (inl refl) (λ k i. inr i)

    pub rep_back : b ≡ q → Rep C E nx' pv' (upd ls q (ls q ++ (e ∷ [])))
    rep_back z =
        rep_bound (inr z) (ls q ++ (e ∷ []))
        (subst (λ (y : ℕ). Chain C nx' pv' q (ls q ++ (e ∷ [])) y) z (bound-back C nx pv nx' pv' e a b u (omega arith) (ls q) q (omega arith) (out q hq) (subst (λ (y : ℕ). Chain C nx pv q (ls q) y) (sym z) (r.chains q hq))))
        (below_snoc E (ls q) e he (r.inside q hq)) (in_snoc_new (ls q) e e refl) (λ k i. in_snoc_old (ls q) k e i)
