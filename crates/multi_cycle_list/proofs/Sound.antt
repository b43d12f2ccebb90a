-- The bytes are whole exactly where their links stand for lists, and then for the lists that `list_of` reads off them.
use Prim.Native.Nat.{ℕ, suc, ◌+◌, ◌-◌, ◌*◌, ◌<◌}
use mathlib.Core.Path.{◌≡◌, refl, sym, ap, ◌∙◌, subst}
use mathlib.Core.Logic.{◌⊎◌, inl, inr, ⊎_elim}
use mathlib.Core.List.{List, map}
use mathlib.Core.Bool.{Bool, true, false, ◌&&◌, ◌||◌, not, or-true}
use native.Mathlib.Omega.{arith}
use lib.ListN.{length, get_or}
use lib.Dec.{eqb, ltb}
use borrow.Author.Tests.{lt-ltb, ltb-true, eq-eqb, ne_eqb, eqb-true}
use Rattle.multi_cycle_list.specs.Nodes.{classes, entries, next, prev, sizes_b, linked_at, closes, placed, whole_b, list_of}
use Rattle.multi_cycle_list.specs.Inner.{Around, marks_of, meets_at, placed_by, Marked, Whole, Sizes}
use Rattle.multi_cycle_list.specs.Lists.{count}
use Rattle.state.specs.Seq.{all_b, some_b}
use Rattle.state.proofs.Seq.{all_true, all-at, some-true, some_at}
use Rattle.state.proofs.Tests.{or_split, and_l, and_r, false_of, not-both, same_test}
use Rattle.multi_cycle_list.proofs.WholeTools.{LinkedAt, Parts, parts_of, sizes_of, sizes-last, linked_of, whole-sizes}
use Rattle.multi_cycle_list.proofs.Lists.{In, count_in, in_count}
use Rattle.multi_cycle_list.proofs.Chain.{one_class}
use Rattle.multi_cycle_list.proofs.Trace.{chain_end, chain-trace, trace-chain, trace-inside, map_back}
use Rattle.multi_cycle_list.proofs.Marks.{Met, Unmet, closed_at, marked_by, meets_of}
use Rattle.multi_cycle_list.proofs.Rep.{Rep, rep_length, rep_next, rep_prev}

-- what the bytes s stand for
abbrev pub Stands : List ℕ → (ℕ → List ℕ) → Type 0
Stands s ls = Rep (classes s) (entries s) (next s) (prev s) ls

pub linked_in : (s : List ℕ) → whole_b s ≡ true → (i : ℕ) → i < classes s + entries s → LinkedAt s (classes s + entries s) i
linked_in s h i hi = linked_of s _ i (all-at _ _ (parts_of s h).links i hi)

pub whole_around : (s : List ℕ) → whole_b s ≡ true → (i : ℕ) → i < classes s + entries s → Around s i
whole_around s h i hi =
    let z = whole-sizes s h in
    let l = linked_in s h i hi in
    record { at = (omega arith, omega arith); after = (omega arith, omega arith); before = (omega arith, omega arith) }

pub sound : (s : List ℕ) → whole_b s ≡ true → Stands s (list_of s)
unfolding list_of
sound s h =
    let w = parts_of s h in
    let z = sizes_of s w.sizes in
    record {
      chains = λ c hc.
          let l = linked_in s h c (omega arith) in
          trace-chain (classes s) s (classes s + entries s) (λ i hi. ((linked_in s h i hi).next_in, (linked_in s h i hi).back)) (entries s) c (next s c) c l.next_in hc (refl, l.back)
          (eqb-true _ _ (all-at (classes s) (closes s) w.cycles c hc));
      inside = λ c hc. trace-inside (classes s) s (classes s + entries s) (entries s) refl (λ i hi. (linked_in s h i hi).next_in) (entries s) (next s c) (linked_in s h c (omega arith)).next_in;
      places = λ e he.
          ⊎_elim
          (λ q.
          let n = eqb-true (next s (classes s + e)) (classes s + e) q in
          inr (n, ap (prev s) (sym n) ∙ (linked_in s h (classes s + e) (omega arith)).back))
          (λ m.
          let r = some_at (classes s) (λ c. ltb 0 (count e (list_of s c))) m in
          inl (r.0, r.1, count_in e (list_of s r.0) (ltb-true 0 (count e (list_of s r.0)) r.2)))
          (or_split _ _ (all-at (entries s) (placed s) w.places e he));
    }

pub list-is : (s : List ℕ) (ls : ℕ → List ℕ) → Stands s ls → (c : ℕ) → c < classes s → list_of s c ≡ ls c
unfolding list_of
list-is s ls r c h =
    ap (map (λ x. x - classes s))
    (chain-trace (classes s) s (ls c) (entries s) c c h (rep_length (classes s) (entries s) (next s) (prev s) ls r c h) (r.chains c h))
    ∙ map_back (classes s) (ls c)

sizes-true : (s : List ℕ) → Sizes s → sizes_b s ≡ true
sizes-true s z = sizes-last s z.some z.most z.fewer ∙ eq-eqb (length s) (2 + 2 * (classes s + entries s)) z.sized

linked-true : (s : List ℕ) (n i : ℕ) → LinkedAt s n i → linked_at s n i ≡ true
unfolding linked_at
linked-true s n i l = rw (lt-ltb (next s i) n l.next_in, lt-ltb (prev s i) n l.prev_in, eq-eqb (prev s (next s i)) i l.back, eq-eqb (next s (prev s i)) i l.forth)

whole-true : (s : List ℕ) → Parts s → whole_b s ≡ true
unfolding whole_b
whole-true s p = rw (p.sizes, p.links, p.cycles, p.places)

pub complete : (s : List ℕ) (ls : ℕ → List ℕ) → Sizes s → Stands s ls → whole_b s ≡ true
complete s ls z r =
    let C = classes s in
    let E = entries s in
    whole-true s
    (record {
      sizes = sizes-true s z;
      links = all_true (C + E) (linked_at s (C + E)) (λ i hi.
          let a = rep_next C E (next s) (prev s) ls r i hi in
          let b = rep_prev C E (next s) (prev s) ls r i hi in
          linked-true s (C + E) i (record { next_in = a.0; prev_in = b.0; back = a.1; forth = b.1 }));
      cycles = all_true C (closes s) (λ c hc. eq-eqb _ c (chain_end C s (ls c) E c c hc (rep_length C E (next s) (prev s) ls r c hc) (r.chains c hc)));
      places = all_true E (placed s) (λ e he.
          ⊎_elim
          (λ (w : (c : ℕ) × (c < C) × In e (ls c)).
          ap (λ (b : Bool). eqb (next s (C + e)) (C + e) || b)
          (some-true C (λ c. ltb 0 (count e (list_of s c))) w.0 w.1
          (lt-ltb 0 (count e (list_of s w.0)) (in_count e (list_of s w.0) (subst (λ (t : List ℕ). In e t) (sym (list-is s ls r w.0 w.1)) w.2))))
          ∙ or-true (eqb (next s (C + e)) (C + e)))
          (λ l. ap (λ (b : Bool). b || some_b C (λ c. ltb 0 (count e (list_of s c)))) (eq-eqb (next s (C + e)) (C + e) l.0))
          (r.places e he));
    })

-- ---- the test of the code

pub not_whole_marked : (s seen : List ℕ) → whole_b s ≡ false → Whole s seen false
not_whole_marked s seen h = record { test = sym h; marked = λ t. not-both (sym t) }

pub whole_no_cycles : (s : List ℕ) → sizes_b s ≡ true → all_b (classes s) (meets_at s) ≡ false → whole_b s ≡ false
whole_no_cycles s h q =
    false_of (whole_b s) (λ w.
    let r = sound s w in
    not-both (sym (all_true (classes s) (meets_at s) (λ c hc. meets_of s (sizes_of s h) c hc (r.chains c hc) (r.inside c hc))) ∙ q))

pub ruleset not_whole = (not_whole_marked, whole_no_cycles)

module _ (s : List ℕ) (z : Sizes s) (m : (c : ℕ) → c < classes s → meets_at s c ≡ true) where
  mark : ℕ → ℕ
  mark e = get_or (marks_of s (classes s)) (classes s + e) 0

  by : (e : ℕ) → e < entries s → Met s (classes s) e (mark e) ⊎ Unmet s (classes s) e (mark e)
  unfolding mark
  by e he = marked_by s z (classes s) e (omega arith) he m

  -- an entry that is marked, or linked to itself, is in its place
  placed-stands : ((e : ℕ) → e < entries s → placed_by s (marks_of s (classes s)) (classes s + e) ≡ true) → Stands s (list_of s)
  unfolding mark
  placed-stands p =
      record {
        chains = λ c hc. (closed_at s z c hc (m c hc)).chain;
        inside = λ c hc. (closed_at s z c hc (m c hc)).inside;
        places = λ e he.
            let x = classes s + e in
            ⊎_elim
            (λ (w : Met s (classes s) e (mark e)). inl (w.class, w.below, w.met))
            (λ (w : Unmet s (classes s) e (mark e)).
            ⊎_elim
            (λ q. not-both (sym q ∙ ap not (eq-eqb (mark e) 0 w.is)))
            (λ q. inr (eqb-true (next s x) x (and_l (eqb (next s x) x) (eqb (prev s x) x) q), eqb-true (prev s x) x (and_r (eqb (next s x) x) (eqb (prev s x) x) q)))
            (or_split (not (eqb (mark e) 0)) (eqb (next s x) x && eqb (prev s x) x) (p e he)))
            (by e he);
      }

  stands-placed : Stands s (list_of s) → (e : ℕ) → e < entries s → placed_by s (marks_of s (classes s)) (classes s + e) ≡ true
  unfolding mark
  stands-placed r e he =
      let x = classes s + e in
      ⊎_elim
      (λ (w : Met s (classes s) e (mark e)). rw (ne_eqb (mark e) 0 (omega (arith, w.is))))
      (λ (w : Unmet s (classes s) e (mark e)).
      ⊎_elim
      (λ (i : (c : ℕ) × (c < classes s) × In e (list_of s c)). absurd (w.none i.0 i.1 i.2))
      (λ l. rw (eq-eqb (next s x) x l.0, eq-eqb (prev s x) x l.1, or-true))
      (r.places e he))
      (by e he)

  marks_tell : Stands s (list_of s) → Marked s (marks_of s (classes s))
  unfolding mark
  marks_tell r =
      let C = classes s in
      record {
        in_class = λ e c he hc i.
            ⊎_elim
            (λ (w : Met s C e (mark e)).
            w.is ∙ ap suc (one_class C (next s) (prev s) (list_of s) e w.class c w.below hc (r.chains w.class w.below) (r.chains c hc) w.met (count_in e (list_of s c) i)))
            (λ (w : Unmet s C e (mark e)). absurd (w.none c hc (count_in e (list_of s c) i)))
            (by e he);
        of_class = λ e c he q.
            ⊎_elim
            (λ (w : Met s C e (mark e)).
            let k : w.class ≡ c = omega (arith, w.is) in
            subst (λ (d : ℕ). (d < C) × (0 < count e (list_of s d))) k (w.below, in_count e (list_of s w.class) w.met))
            (λ (w : Unmet s C e (mark e)). absurd (omega (arith, w.is)))
            (by e he);
      }

pub whole_marked : (s seen : List ℕ) (r : Bool) → sizes_b s ≡ true → all_b (classes s) (meets_at s) ≡ true → seen ≡ marks_of s (classes s)
    → r ≡ all_b (entries s) (λ k. placed_by s seen (classes s + k)) → Whole s seen r
whole_marked s seen r h1 h2 q p =
    let C = classes s in
    let z = sizes_of s h1 in
    let m = all-at C (meets_at s) h2 in
    let f : ℕ → Bool = λ k. placed_by s (marks_of s C) (C + k) in
    let t : r ≡ whole_b s =
    p
    ∙ ap (λ (l : List ℕ). all_b (entries s) (λ k. placed_by s l (C + k))) q
    ∙ same_test (all_b (entries s) f) (whole_b s)
    (λ h. complete s (list_of s) z (placed-stands s z m (all-at (entries s) f h)))
    (λ h. all_true (entries s) f (stands-placed s z m (sound s h))) in
    record { test = t; marked = λ h. subst (λ (l : List ℕ). Marked s l) (sym q) (marks_tell s z m (sound s (sym t ∙ h))) }
