-- The stores of link, unbind and bind, as facts about the links.
use Prim.Native.Nat.{ℕ, ◌+◌, ◌*◌, ◌<◌, ◌≤◌}
use mathlib.Core.Path.{◌≡◌, refl, sym, ap, ◌∙◌}
use mathlib.Core.Logic.{◌≢◌}
use mathlib.Core.List.{List}
use native.Mathlib.Omega.{arith}
use native.Mathlib.Decide.{ℕ_discrete}
use lib.ListN.{length, set, length-set}
use lib.Seq.{get_or-set_same, get_or-set_other}
use Rattle.multi_cycle_list.specs.Nodes.{classes, entries, next, prev}
use Rattle.multi_cycle_list.specs.Inner.{Around, link_b, unbind_b, bind_b}
use Rattle.multi_cycle_list.proofs.Chain.{Joined, Unbinds, Binds}

-- g is f with v at a
pub record Stored (f g : ℕ → ℕ) (a v : ℕ) : Type 0 where
  pub at : g a ≡ v
  pub other : (c : ℕ) → c ≢ a → g c ≡ f c

module _ (s : List ℕ) (a b : ℕ) (ha : 3 + 2 * a < length s) (hb : 3 + 2 * b < length s) where
  pub link_next : Stored (next s) (next (link_b s a b)) a b
  link_next =
      record {
        at = get_or-set_same (set s (3 + 2 * b) a) (2 + 2 * a) b 0 (simp length-set (omega arith));
        other = λ c n. get_or-set_other (set s (3 + 2 * b) a) (2 + 2 * a) (2 + 2 * c) b 0 (omega arith) ∙ get_or-set_other s (3 + 2 * b) (2 + 2 * c) a 0 (omega arith);
      }

  pub link_prev : Stored (prev s) (prev (link_b s a b)) b a
  link_prev =
      record {
        at = get_or-set_other (set s (3 + 2 * b) a) (2 + 2 * a) (3 + 2 * b) b 0 (omega arith) ∙ get_or-set_same s (3 + 2 * b) a 0 hb;
        other = λ c n. get_or-set_other (set s (3 + 2 * b) a) (2 + 2 * a) (3 + 2 * c) b 0 (omega arith) ∙ get_or-set_other s (3 + 2 * b) (3 + 2 * c) a 0 (omega arith);
      }

-- one store after another
module _ {f g h : ℕ → ℕ} {a v b w : ℕ} (p : Stored f g a v) (q : Stored g h b w) where
  both-other : (c : ℕ) → c ≢ a → c ≢ b → h c ≡ f c
  both-other c na nb = q.other c nb ∙ p.other c na

  first-at : (a ≡ b → w ≡ v) → h a ≡ v
  first-at e = elim (ℕ_discrete a b) [ yes z ↦ ap h z ∙ q.at ∙ e z | no z ↦ q.other a z ∙ p.at ]

link_length : (s : List ℕ) (a b : ℕ) → length (link_b s a b) ≡ length s
link_length s a b = simp length-set

pub unbinds : (s : List ℕ) (i : ℕ) → Around s i → prev s (next s i) ≡ i → next s (prev s i) ≡ i → Unbinds (next s) (prev s) (next (unbind_b s i)) (prev (unbind_b s i)) i
unbinds s i r back forth =
    let l = link_length s i i in
    let n = link_next s i i (omega arith) (omega arith) in
    let p = link_prev s i i (omega arith) (omega arith) in
    let n' = link_next (link_b s i i) (prev s i) (next s i) (omega arith) (omega arith) in
    let p' = link_prev (link_b s i i) (prev s i) (next s i) (omega arith) (omega arith) in
    record {
      back = back;
      forth = forth;
      n-at = first-at n n' (λ z. ap (next s) z ∙ forth);
      n-prev = n'.at;
      n-other = both-other n n';
      p-at = first-at p p' (λ z. ap (prev s) z ∙ back);
      p-next = p'.at;
      p-other = both-other p p';
    }

-- the lone node i between a and b
pub binds : (s : List ℕ) (i a b : ℕ) → 3 + 2 * i < length s → 3 + 2 * a < length s → 3 + 2 * b < length s → Joined (next s) (prev s) i i → Joined (next s) (prev s) a b → a ≢ i
    → Binds (next s) (prev s) (next (bind_b s i a b)) (prev (bind_b s i a b)) i a b
binds s i a b hi ha hb lone cut apart =
    let l = link_length s i b in
    let n = link_next s i b hi hb in
    let p = link_prev s i b hi hb in
    let n' = link_next (link_b s i b) a i (omega arith) (omega arith) in
    let p' = link_prev (link_b s i b) a i (omega arith) (omega arith) in
    record {
      lone = lone;
      cut = cut;
      n-a = n'.at;
      n-at = first-at n n' (λ z. absurd (apart (sym z)));
      n-other = both-other n n';
      p-b = first-at p p' (λ z. absurd (apart (sym cut.1 ∙ ap (prev s) z ∙ lone.1)));
      p-at = p'.at;
      p-other = λ c ni nb. both-other p p' c nb ni;
    }

-- the sizes stay
pub record Same (t s : List ℕ) : Type 0 where
  pub cs : classes t ≡ classes s
  pub es : entries t ≡ entries s
  pub len : length t ≡ length s

same_more : (t s : List ℕ) (k v : ℕ) → 2 ≤ k → Same t s → Same (set t k v) s
same_more t s k v h w =
    record { cs = get_or-set_other t k 0 v 0 (omega arith) ∙ w.cs; es = get_or-set_other t k 1 v 0 (omega arith) ∙ w.es; len = length-set t k v ∙ w.len }

pub link_same : (t s : List ℕ) (a b : ℕ) → Same t s → Same (link_b t a b) s
link_same t s a b w = same_more _ s (2 + 2 * a) b (omega arith) (same_more t s (3 + 2 * b) a (omega arith) w)

pub same_self : (s : List ℕ) → Same s s
same_self s = record { cs = refl; es = refl; len = refl }

pub unbind_same : (s : List ℕ) (i : ℕ) → Same (unbind_b s i) s
unbind_same s i = link_same _ s (prev s i) (next s i) (link_same s s i i (same_self s))

pub bind_same : (t s : List ℕ) (i a b : ℕ) → Same t s → Same (bind_b t i a b) s
bind_same t s i a b w = link_same _ s a i (link_same t s i b w)
