-- Fresh bytes are whole, and every class is empty.
use Prim.Native.Nat.{ℕ, zero, suc, ◌+◌, ◌*◌, ◌<◌, ◌≤◌}
use mathlib.Core.Path.{◌≡◌, sym, ap, ◌∙◌, subst}
use mathlib.Core.Logic.{inr}
use mathlib.Core.List.{List, []}
use mathlib.Core.Bool.{true}
use native.Mathlib.Omega.{arith}
use native.Mathlib.Decide.{ℕ_discrete}
use native.Mathlib.Nat.{not-suc-le-zero}
use lib.ListN.{length, set, length-set}
use lib.Seq.{get_or-set_same, get_or-set_other}
use Rattle.multi_cycle_list.specs.Nodes.{classes, entries, next, prev, whole_b, lists_of, list_of}
use Rattle.multi_cycle_list.specs.Inner.{link_b, alone_to}
use Rattle.state.specs.Seq.{each}
use Rattle.multi_cycle_list.proofs.Chain.{Joined}
use Rattle.multi_cycle_list.proofs.Stores.{Same, same_self, link_same, link_next, link_prev}
use Rattle.multi_cycle_list.proofs.Sound.{Stands, complete, list-is}
use Rattle.state.proofs.Seq.{each_same}

module _ (s : List ℕ) where
  alone-same : (n : ℕ) → Same (alone_to s n) s
  unfolding alone_to
  alone-same zero = same_self s
  alone-same (suc n) = link_same _ s n n (alone-same n)

  alone_at : (n k : ℕ) → k < n → 2 + 2 * n ≤ length s → Joined (next (alone_to s n)) (prev (alone_to s n)) k k
  unfolding alone_to
  alone_at zero k h l = absurd (not-suc-le-zero h)
  alone_at (suc n) k h l =
      let t = alone_to s n in
      let f : 3 + 2 * n < length t = omega (arith, (alone-same n).len) in
      let x = link_next t n n f f in
      let y = link_prev t n n f f in
      elim (ℕ_discrete k n) [
        | yes q ↦ subst (λ (j : ℕ). Joined (next (link_b t n n)) (prev (link_b t n n)) j j) (sym q) (x.at, y.at)
        | no q ↦ (let w = alone_at n k (omega arith) (omega arith) in (x.other k q ∙ w.0, y.other k q ∙ w.1))
      ]

pub record Opened (t : List ℕ) (c e : ℕ) : Type 0 where
  pub is_whole : whole_b t ≡ true
  pub sized : entries t ≡ e
  pub empty : lists_of t ≡ each c (λ k. [])

module _ (s : List ℕ) (c e : ℕ) (h1 : 1 ≤ c) (h2 : c ≤ 32) (h3 : e ≤ 224) (l : length s ≡ 2 + 2 * (c + e)) where
  h : List ℕ
  h = set (set s 0 c) 1 e

  len : length h ≡ 2 + 2 * (c + e)
  unfolding h
  len = simp length-set l

  cs : classes (alone_to h (c + e)) ≡ c
  unfolding h
  cs = (alone-same h (c + e)).cs ∙ get_or-set_other (set s 0 c) 1 0 e 0 (omega arith) ∙ get_or-set_same s 0 c 0 (omega arith)

  es : entries (alone_to h (c + e)) ≡ e
  unfolding h
  es = (alone-same h (c + e)).es ∙ get_or-set_same (set s 0 c) 1 e 0 (simp length-set (omega arith))

  stands : Stands (alone_to h (c + e)) (λ k. [])
  stands =
      let t = alone_to h (c + e) in
      let fit : 2 + 2 * (c + e) ≤ length h = omega (arith, len) in
      record {
        chains = λ k hk. alone_at h (c + e) k (omega (arith, cs)) fit;
        inside = λ k hk. tt;
        places = λ k hk. inr (alone_at h (c + e) (classes t + k) (omega (arith, cs, es)) fit);
      }

  pub opened : Opened (alone_to (set (set s 0 c) 1 e) (c + e)) c e
  unfolding lists_of h
  opened =
      let t = alone_to h (c + e) in
      record {
        is_whole = complete t (λ k. []) (record {
          some = omega (arith, cs);
          most = omega (arith, cs);
          fewer = omega (arith, es);
          sized = (alone-same h (c + e)).len ∙ len ∙ sym (ap (λ (n : ℕ). 2 + 2 * n) (ap (λ (n : ℕ). n + entries t) cs ∙ ap (λ (n : ℕ). c + n) es));
        }) stands;
        sized = es;
        empty = each_same (classes t) (list_of t) (λ k. []) (λ k hk. list-is t (λ j. []) stands k hk) ∙ ap (λ (n : ℕ). each n (λ k. [])) cs;
      }
