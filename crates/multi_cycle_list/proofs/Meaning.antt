-- What the stores do to the lists that the bytes stand for; and the ends of a chain.
use Prim.Native.Nat.{ℕ, ◌+◌, ◌-◌, ◌*◌, ◌<◌}
use mathlib.Core.Path.{◌≡◌, refl, sym, ap, ◌∙◌}
use mathlib.Core.Logic.{◌⊎◌, inl, inr, ⊎_elim}
use mathlib.Core.List.{List, [], ◌∷◌, ◌++◌}
use mathlib.Core.Bool.{true}
use native.Mathlib.Omega.{arith}
use lib.ListN.{get_or, set}
use borrow.Author.Tests.{lt-ltb, le-ltb}
use Rattle.multi_cycle_list.specs.Nodes.{classes, entries, next, prev, whole_b, list_of, lists_of}
use Rattle.multi_cycle_list.specs.Inner.{unbind_b, bind_b, as_entry, Sizes}
use Rattle.state.specs.Seq.{each}
use Rattle.state.proofs.Seq.{each_same, map_each, get_d_each, set-each}
use Rattle.multi_cycle_list.specs.Lists.{without, removed, first, last}
use Rattle.multi_cycle_list.proofs.WholeTools.{whole-sizes}
use Rattle.multi_cycle_list.proofs.Lists.{In, of_without}
use Rattle.multi_cycle_list.proofs.Chain.{Joined, Chain, Binds}
use Rattle.multi_cycle_list.proofs.Stores.{unbinds, binds, Same, unbind_same, bind_same}
use Rattle.multi_cycle_list.proofs.Rep.{Rep, upd, upd_same, upd_other, rep_without, rep_front, rep_back, rep_next, rep_prev}
use Rattle.multi_cycle_list.proofs.Sound.{Stands, linked_in, whole_around, sound, complete, list-is}

-- ---- the bytes t, with the sizes of s, stand for ls

pub record Turned (s t : List ℕ) (ls : ℕ → List ℕ) : Type 0 where
  pub same : Same t s
  pub stands : Rep (classes s) (entries s) (next t) (prev t) ls

stands_in : (s t : List ℕ) (ls : ℕ → List ℕ) → Turned s t ls → Stands t ls
stands_in s t ls w =
    rw (w.same.cs, w.same.es) w.stands

turned-sizes : (s t : List ℕ) → Same t s → Sizes s → Sizes t
turned-sizes s t w z =
    record { some = omega (arith, w.cs, z.some); most = omega (arith, w.cs, z.most); fewer = omega (arith, w.es, z.fewer); sized = w.len ∙ z.sized ∙ sym (ap (λ (n : ℕ). 2 + 2 * n) (ap (λ (n : ℕ). n + entries t) w.cs ∙ ap (λ (n : ℕ). classes s + n) w.es)) }

pub turned-whole : (s t : List ℕ) (ls : ℕ → List ℕ) → Sizes s → Turned s t ls → whole_b t ≡ true
turned-whole s t ls z w = complete t ls (turned-sizes s t w.same z) (stands_in s t ls w)

pub turned-lists : (s t : List ℕ) (ls : ℕ → List ℕ) → Turned s t ls → lists_of t ≡ each (classes s) ls
unfolding lists_of
turned-lists s t ls w =
    each_same (classes t) (list_of t) ls (λ c h. list-is t ls (stands_in s t ls w) c h) ∙ ap (λ (n : ℕ). each n ls) w.same.cs

-- ---- the stores

-- the entry's node, and the bytes without it
abbrev pub node_of : List ℕ → ℕ → ℕ
node_of s e = classes s + e

abbrev pub unbound : List ℕ → ℕ → List ℕ
unbound s e = unbind_b s (node_of s e)

module _ (s : List ℕ) (e : ℕ) (h : whole_b s ≡ true) (he : e < entries s) where
  pub taken : ℕ → List ℕ
  taken c = without e (list_of s c)

  pub unbound-turned : Turned s (unbound s e) taken
  unfolding taken
  unbound-turned =
      let l = linked_in s h (node_of s e) (omega arith) in
      record {
        same = unbind_same s (node_of s e);
        stands = rep_without (classes s) (entries s) (next s) (prev s) (list_of s) (sound s h) (next (unbound s e)) (prev (unbound s e)) e
            (unbinds s (node_of s e) (whole_around s h (node_of s e) (omega arith)) l.back l.forth);
      }

  gone : (c : ℕ) → c < classes s → In e (taken c) → ⊥
  unfolding taken
  gone c hc i = (of_without e (list_of s c) e i).1 refl

  pub removed-is : each (classes s) taken ≡ removed e (lists_of s)
  unfolding taken lists_of
  removed-is = sym (map_each (without e) (classes s) (list_of s))

  -- the entry alone
  lone : Joined (next (unbound s e)) (prev (unbound s e)) (node_of s e) (node_of s e)
  lone = ⊎_elim (λ w. absurd (gone w.0 w.1 w.2)) (λ l. l) (unbound-turned.stands.places e he)

  module _ (c : ℕ) (hc : c < classes s) where
    -- the entry between a and b, of which one is the class c
    bound : (a b : ℕ) → a < classes s + entries s → b < classes s + entries s → Joined (next (unbound s e)) (prev (unbound s e)) a b → (a ≡ c) ⊎ (b ≡ c)
        → Binds (next (unbound s e)) (prev (unbound s e)) (next (bind_b (unbound s e) (node_of s e) a b)) (prev (bind_b (unbound s e) (node_of s e) a b)) (node_of s e) a b
    bound a b ha hb cut t =
        let n = unbound-turned.same.len ∙ (whole-sizes s h).sized in
        binds (unbound s e) (node_of s e) a b (omega arith) (omega arith) (omega arith) lone cut
        (λ z. ⊎_elim (λ (y : a ≡ c). omega arith) (λ (y : b ≡ c). omega (arith, sym cut.0 ∙ ap (next (unbound s e)) z ∙ lone.0)) t)

    pub front-turned : Turned s (bind_b (unbound s e) (node_of s e) c (next (unbound s e) c)) (upd taken c (e ∷ taken c))
    front-turned =
        let u = unbound-turned in
        let o = rep_next (classes s) (entries s) (next (unbound s e)) (prev (unbound s e)) taken u.stands c (omega arith) in
        record {
          same = bind_same (unbound s e) s _ _ _ u.same;
          stands = rep_front (classes s) (entries s) _ _ taken u.stands _ _ e c _ _ he hc gone (bound c _ (omega arith) o.0 (refl, o.1) (inl refl)) refl;
        }

    pub back-turned : Turned s (bind_b (unbound s e) (node_of s e) (prev (unbound s e) c) c) (upd taken c (taken c ++ (e ∷ [])))
    back-turned =
        let u = unbound-turned in
        let o = rep_prev (classes s) (entries s) (next (unbound s e)) (prev (unbound s e)) taken u.stands c (omega arith) in
        record {
          same = bind_same (unbound s e) s _ _ _ u.same;
          stands = rep_back (classes s) (entries s) _ _ taken u.stands _ _ e c _ _ he hc gone (bound _ c o.0 (omega arith) (o.1, refl) (inr refl)) refl;
        }

    pub pushed-is : (v : List ℕ) → each (classes s) (upd taken c v) ≡ set (removed e (lists_of s)) c v
    pushed-is v =
        sym (ap (λ (l : List (List ℕ)). set l c v) (sym removed-is) ∙ set-each (classes s) taken (upd taken c v) c v (upd_same taken c v c refl) (λ k n. upd_other taken c v k n) hc)

    pub taken_is : taken c ≡ get_or (removed e (lists_of s)) c []
    taken_is = sym (ap (λ (l : List (List ℕ)). get_or l c []) (sym removed-is) ∙ get_d_each (classes s) taken c [] hc)

-- ---- the answers

pub list_at : (s : List ℕ) (c : ℕ) → c < classes s → get_or (lists_of s) c [] ≡ list_of s c
unfolding lists_of
list_at s c hc = get_d_each (classes s) (list_of s) c [] hc

-- the node after a, from which a chain leads to the class c
pub first-from : (s : List ℕ) (a c : ℕ) (es : List ℕ) → c < classes s → Chain (classes s) (next s) (prev s) a es c → as_entry s (next s a) ≡ first es
first-from s a c [] hc p = rw (p.0, lt-ltb c (classes s) hc)
first-from s a c (x ∷ xs) hc p =
    let q : classes s + x - classes s ≡ x = omega arith in
    rw (p.0.0, le-ltb (classes s + x) (classes s) (omega arith), q)

pub first_of : (s : List ℕ) (c : ℕ) (es : List ℕ) → c < classes s → Chain (classes s) (next s) (prev s) c es c → as_entry s (next s c) ≡ first es
first_of s c es hc p = first-from s c c es hc p

pub last_node : ℕ → ℕ → List ℕ → ℕ
last_node C a [] = a
last_node C a (e ∷ es) = last_node C (C + e) es

pub last_link : (C : ℕ) (nx pv : ℕ → ℕ) (es : List ℕ) (a b : ℕ) → Chain C nx pv a es b → pv b ≡ last_node C a es
unfolding last_node
last_link C nx pv [] a b p = p.1
last_link C nx pv (e ∷ es) a b p = last_link C nx pv es (C + e) b p.1

last-node : (s : List ℕ) (x : ℕ) (xs : List ℕ) → as_entry s (last_node (classes s) (classes s + x) xs) ≡ last (x ∷ xs)
unfolding last_node
last-node s x [] =
    let q : classes s + x - classes s ≡ x = omega arith in
    rw (le-ltb (classes s + x) (classes s) (omega arith), q)
last-node s x (y ∷ ys) = last-node s y ys

pub last_of : (s : List ℕ) (c : ℕ) (es : List ℕ) → c < classes s → Chain (classes s) (next s) (prev s) c es c → as_entry s (prev s c) ≡ last es
unfolding last_node
last_of s c [] hc p = rw (p.1, lt-ltb c (classes s) hc)
last_of s c (x ∷ xs) hc p = ap (as_entry s) (last_link (classes s) (next s) (prev s) (x ∷ xs) c c p) ∙ last-node s x xs
