-- A chain and a trace.
use Prim.Native.Nat.{ℕ, zero, suc, ◌+◌, ◌-◌, ◌<◌, ◌≤◌}
use mathlib.Core.Path.{◌≡◌, refl, sym, ap, ◌∙◌, subst}
use mathlib.Core.List.{List, [], ◌∷◌, map}
use native.Mathlib.Omega.{arith}
use native.Mathlib.Decide.{dec_lt}
use native.Mathlib.Nat.{not-suc-le-zero}
use borrow.Author.Tests.{lt-ltb, le-ltb}
use lib.ListN.{length}
use Rattle.multi_cycle_list.specs.Nodes.{next, prev, trace, trace_end}
use Rattle.multi_cycle_list.proofs.Lists.{Below}
use Rattle.multi_cycle_list.proofs.Chain.{Joined, Chain}

end_stop : (k c : ℕ) (s : List ℕ) (a : ℕ) → a < c → trace_end k c s a ≡ a
unfolding trace_end
end_stop zero c s a h = refl
end_stop (suc k) c s a h = rw (lt-ltb a c h)

trace_stop : (k c : ℕ) (s : List ℕ) (a : ℕ) → a < c → trace k c s a ≡ []
unfolding trace
trace_stop zero c s a h = refl
trace_stop (suc k) c s a h = rw (lt-ltb a c h)

trace-cons : (k c : ℕ) (s : List ℕ) (a : ℕ) → c ≤ a → trace (suc k) c s a ≡ a ∷ trace k c s (next s a)
unfolding trace
trace-cons k c s a h = rw (le-ltb a c h)

end_cons : (k c : ℕ) (s : List ℕ) (a : ℕ) → c ≤ a → trace_end (suc k) c s a ≡ trace_end k c s (next s a)
unfolding trace_end
end_cons k c s a h = rw (le-ltb a c h)

module _ (C : ℕ) (s : List ℕ) where
  pub chain_end : (es : List ℕ) (k a b : ℕ) → b < C → length es ≤ k → Chain C (next s) (prev s) a es b → trace_end k C s (next s a) ≡ b
  chain_end [] k a b h l p = ap (trace_end k C s) p.0 ∙ end_stop k C s b h
  chain_end (e ∷ es) zero a b h l p = absurd (not-suc-le-zero l)
  chain_end (e ∷ es) (suc k) a b h l p =
      ap (trace_end (suc k) C s) p.0.0 ∙ end_cons k C s (C + e) (omega arith) ∙ chain_end es k (C + e) b h (omega arith) p.1

  pub chain-trace : (es : List ℕ) (k a b : ℕ) → b < C → length es ≤ k → Chain C (next s) (prev s) a es b → trace k C s (next s a) ≡ map (λ e. C + e) es
  chain-trace [] k a b h l p = ap (trace k C s) p.0 ∙ trace_stop k C s b h
  chain-trace (e ∷ es) zero a b h l p = absurd (not-suc-le-zero l)
  chain-trace (e ∷ es) (suc k) a b h l p =
      ap (trace (suc k) C s) p.0.0 ∙ trace-cons k C s (C + e) (omega arith) ∙ ap (λ (t : List ℕ). (C + e) ∷ t) (chain-trace es k (C + e) b h (omega arith) p.1)

  pub trace-chain : (n : ℕ) → ((i : ℕ) → i < n → (next s i < n) × (prev s (next s i) ≡ i)) → (k p a b : ℕ) → a < n → b < C → Joined (next s) (prev s) p a → trace_end k C s a ≡ b
      → Chain C (next s) (prev s) p (map (λ x. x - C) (trace k C s a)) b
  unfolding trace trace_end
  trace-chain n links zero p a b ha hb l e = subst (λ (z : ℕ). Joined (next s) (prev s) p z) e l
  trace-chain n links (suc k) p a b ha hb l e =
      elim (dec_lt a C) [
        | yes w ↦ rw (trace_stop (suc k) C s a w) (subst (λ (z : ℕ). Joined (next s) (prev s) p z) (sym (end_stop (suc k) C s a w) ∙ e) l)
        | no w ↦
            (let q : C + (a - C) ≡ a = omega arith in
            rw (trace-cons k C s a (omega arith)) (
              subst (λ (z : ℕ). Joined (next s) (prev s) p z) (sym q) l,
              subst (λ (z : ℕ). Chain C (next s) (prev s) z (map (λ x. x - C) (trace k C s (next s a))) b) (sym q)
                  (trace-chain n links k a (next s a) b (links a ha).0 hb (refl, (links a ha).1) (sym (end_cons k C s a (omega arith)) ∙ e)),
            ))
      ]

  pub trace-inside : (n E : ℕ) → n ≡ C + E → ((i : ℕ) → i < n → next s i < n) → (k a : ℕ) → a < n → Below E (map (λ x. x - C) (trace k C s a))
  unfolding trace
  trace-inside n E hn links zero a ha = tt
  trace-inside n E hn links (suc k) a ha =
      elim (dec_lt a C) [
        | yes w ↦ rw (trace_stop (suc k) C s a w) tt
        | no w ↦ rw (trace-cons k C s a (omega arith)) (omega arith, trace-inside n E hn links k (next s a) (links a ha))
      ]

pub map_back : (C : ℕ) (es : List ℕ) → map (λ x. x - C) (map (λ e. C + e) es) ≡ es
map_back C [] = refl
map_back C (e ∷ es) =
    let q : C + e - C ≡ e = omega arith in
    ap (λ (z : ℕ). z ∷ map (λ x. x - C) (map (λ e. C + e) es)) q ∙ ap (λ (t : List ℕ). e ∷ t) (map_back C es)
