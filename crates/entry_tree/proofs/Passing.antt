-- What it tells that every pair of a tree was met once, with a mark from low to high.
use Prim.Native.Nat.{ℕ, suc, ◌+◌, ◌-◌, ◌<◌, ◌≤◌}
use mathlib.Core.Path.{◌≡◌, refl, sym, ap, ◌∙◌}
use mathlib.Core.Logic.{◌≢◌}
use mathlib.Core.List.{List, [], ◌∷◌}
use mathlib.Core.Bool.{Bool, true, false, ◌&&◌}
use native.Mathlib.Omega.{arith}
use native.Mathlib.Decide.{ℕ_discrete}
use lib.Dec.{leb}
use lib.ListN.{length, length-set}
use lib.Seq.{get_or-set_same, get_or-set_other}
use borrow.Author.Tests.{leb-true, eq-eqb, ne_eqb, le-leb}
use Rattle.state.specs.Seq.{to_nat}
use Rattle.state.proofs.Tests.{and_l, and_r, and-true, same_test}
use Rattle.entry_tree.specs.Pairs.{Pair, count, is_entry, in_range, in_order, rising}
use Rattle.entry_tree.specs.Testing.{mark_of, gap_b, pair_b, meets, pairs_b, seen_after, order_b, gaps_b}
use Rattle.entry_tree.specs.declared.whole.Check.{Check}
use Rattle.entry_tree.proofs.Changes.{range-parts, range_cons}

-- ---- counts of entries

pub count-own : (e : ℕ) (p : Pair) (l : List Pair) → e ≡ p.entry → count (is_entry e) (p ∷ l) ≡ suc (count (is_entry e) l)
count-own e p l q = rw (eq-eqb e p.entry q) (omega arith)

pub count-off : (e : ℕ) (p : Pair) (l : List Pair) → e ≢ p.entry → count (is_entry e) (p ∷ l) ≡ count (is_entry e) l
count-off e p l q = rw (ne_eqb e p.entry q) (omega arith)

pub range_inside : (most : ℕ) (l : List Pair) → in_range most l ≡ true → (e : ℕ) → 0 < count (is_entry e) l → e ≤ 127
range_inside most [] h e i = absurd (omega (arith, i))
range_inside most (p ∷ l) h e i =
    let r = range-parts most p l h in
    elim (ℕ_discrete e p.entry) [ yes q ↦ omega (arith, r.0) | no q ↦ range_inside most l r.2 e (omega (arith, count-off e p l q)) ]

-- ---- a pair's test

pub record Fits (c : Check) (seen : List ℕ) (from : ℕ) (p : Pair) : Type 0 where
  pub entry : p.entry ≤ 127
  pub subject : p.subject ≤ c.most
  pub order : from ≤ p.subject + to_nat c.same
  pub least : c.low ≤ mark_of seen p.entry
  pub most-mark : mark_of seen p.entry ≤ c.high
  pub gap : gap_b seen from p ≡ true

module _ (c : Check) (from : ℕ) (seen : List ℕ) (p : Pair) where
  abbrev m : ℕ
  m = mark_of seen p.entry

  abbrev r5 : Bool
  r5 = leb m c.high && gap_b seen from p

  abbrev r4 : Bool
  r4 = leb c.low m && r5

  abbrev r3 : Bool
  r3 = leb from (p.subject + to_nat c.same) && r4

  abbrev r2 : Bool
  r2 = leb p.subject c.most && r3

  pub fits_of : pair_b c seen from p ≡ true → Fits c seen from p
  fits_of h =
      let h2 = and_r (leb p.entry 127) r2 h in
      let h3 = and_r (leb p.subject c.most) r3 h2 in
      let h4 = and_r (leb from (p.subject + to_nat c.same)) r4 h3 in
      let h5 = and_r (leb c.low m) r5 h4 in
      record {
        entry = leb-true p.entry 127 (and_l (leb p.entry 127) r2 h);
        subject = leb-true p.subject c.most (and_l (leb p.subject c.most) r3 h2);
        order = leb-true from (p.subject + to_nat c.same) (and_l (leb from (p.subject + to_nat c.same)) r4 h3);
        least = leb-true c.low m (and_l (leb c.low m) r5 h4);
        most-mark = leb-true m c.high (and_l (leb m c.high) (gap_b seen from p) h5);
        gap = and_r (leb m c.high) (gap_b seen from p) h5;
      }

  pub of_fits : Fits c seen from p → pair_b c seen from p ≡ true
  of_fits f = rw (le-leb p.entry 127 f.entry, le-leb p.subject c.most f.subject, le-leb from (p.subject + to_nat c.same) f.order, le-leb c.low (mark_of seen p.entry) f.least, le-leb (mark_of seen p.entry) c.high f.most-mark, f.gap)

-- ---- marks after a pair was met

mark-own : (seen : List ℕ) (met e : ℕ) (p : Pair) → length seen ≡ 256 → p.entry ≤ 127 → e ≡ p.entry → mark_of (meets met seen p) e ≡ met
mark-own seen met e p l h q = ap (λ (z : ℕ). mark_of (meets met seen p) z) q ∙ get_or-set_same seen (2 + p.entry) met 0 (omega arith)

mark-off : (seen : List ℕ) (met e : ℕ) (p : Pair) → e ≢ p.entry → mark_of (meets met seen p) e ≡ mark_of seen e
mark-off seen met e p q = get_or-set_other seen (2 + p.entry) (2 + e) met 0 (λ z. q (omega arith))

-- ---- a tree's test

pub record Pass (c : Check) (seen : List ℕ) (from : ℕ) (l : List Pair) : Type 0 where
  pub range : in_range c.most l ≡ true
  pub order : order_b c.same from l ≡ true
  pub once : (e : ℕ) → count (is_entry e) l ≤ 1
  pub marks : (e : ℕ) → 0 < count (is_entry e) l → (c.low ≤ mark_of seen e) × (mark_of seen e ≤ c.high)
  pub gaps : gaps_b seen from l ≡ true

-- marks that agree on a list's entries ask for the same gaps
gaps-same : (seen seen' : List ℕ) (from : ℕ) (l : List Pair) → ((e : ℕ) → 0 < count (is_entry e) l → mark_of seen e ≡ mark_of seen' e) → gaps_b seen from l ≡ gaps_b seen' from l
gaps-same seen seen' from [] f = refl
gaps-same seen seen' from (p ∷ l) f =
    rw (f p.entry (omega (arith, count-own p.entry p l refl)), gaps-same seen seen' (suc p.subject) l (λ e i. f e (omega (arith, i)))) refl

module _ (c : Check) (above : c.high < c.met) where
  pub pass_of : (seen : List ℕ) (from : ℕ) (l : List Pair) → length seen ≡ 256 → pairs_b c seen from l ≡ true → Pass c seen from l
  unfolding pairs_b
  pass_of seen from [] n h = record { range = refl; order = refl; once = λ e. omega arith; marks = λ e i. absurd (omega (arith, i)); gaps = refl }
  pass_of seen from (p ∷ l) n h =
      let f = fits_of c from seen p (and_l (pair_b c seen from p) (pairs_b c (meets c.met seen p) (suc p.subject) l) h) in
      let r = pass_of (meets c.met seen p) (suc p.subject) l (length-set seen (2 + p.entry) c.met ∙ n) (and_r (pair_b c seen from p) (pairs_b c (meets c.met seen p) (suc p.subject) l) h) in
      let gone : count (is_entry p.entry) l < 1 = gone_if f (r.marks p.entry) in
      let off : (e : ℕ) → 0 < count (is_entry e) l → e ≢ p.entry = λ e i z. omega (arith, i, gone, ap (λ (y : ℕ). count (is_entry y) l) z) in
      record {
        range = range_cons c.most p l f.entry f.subject r.range;
        order = and-true (leb from (p.subject + to_nat c.same)) (order_b c.same (suc p.subject) l) (le-leb from (p.subject + to_nat c.same) f.order) r.order;
        once = λ e. elim (ℕ_discrete e p.entry) [
          | yes q ↦ omega (arith, count-own e p l q, ap (λ (z : ℕ). count (is_entry z) l) q, gone)
          | no q ↦ omega (arith, count-off e p l q, r.once e)
        ];
        marks = λ e i. elim (ℕ_discrete e p.entry) [
          | yes q ↦ (omega (arith, f.least, ap (mark_of seen) q), omega (arith, f.most-mark, ap (mark_of seen) q))
          | no q ↦
              let k = r.marks e (omega (arith, count-off e p l q)) in
              (omega (arith, k.0, mark-off seen c.met e p q), omega (arith, k.1, mark-off seen c.met e p q))
        ];
        gaps = and-true (gap_b seen from p) (gaps_b seen (suc p.subject) l) f.gap (gaps-same seen (meets c.met seen p) (suc p.subject) l (λ e i. sym (mark-off seen c.met e p (off e i))) ∙ r.gaps);
      }
    where
      gone_if : Fits c seen from p → (0 < count (is_entry p.entry) l → (c.low ≤ mark_of (meets c.met seen p) p.entry) × (mark_of (meets c.met seen p) p.entry ≤ c.high)) → count (is_entry p.entry) l < 1
      gone_if f g = elim (ℕ_discrete (count (is_entry p.entry) l) 0) [
        | yes q ↦ omega arith
        | no q ↦ absurd (omega (arith, above, (g (omega arith)).1, mark-own seen c.met p.entry p n f.entry refl))
      ]

  -- and back
  pub of_pass : (seen : List ℕ) (from : ℕ) (l : List Pair) → length seen ≡ 256 → Pass c seen from l → pairs_b c seen from l ≡ true
  unfolding pairs_b
  of_pass seen from [] n w = refl
  of_pass seen from (p ∷ l) n w =
      let own : 0 < count (is_entry p.entry) (p ∷ l) = omega (arith, count-own p.entry p l refl) in
      let out : count (is_entry p.entry) l < 1 = omega (arith, count-own p.entry p l refl, w.once p.entry) in
      let r = range-parts c.most p l w.range in
      let off : (e : ℕ) → 0 < count (is_entry e) l → e ≢ p.entry = λ e i z. omega (arith, i, out, ap (λ (y : ℕ). count (is_entry y) l) z) in
      and-true (pair_b c seen from p) (pairs_b c (meets c.met seen p) (suc p.subject) l)
      (of_fits c from seen p (record {
        entry = r.0;
        subject = r.1;
        order = leb-true from (p.subject + to_nat c.same) (and_l (leb from (p.subject + to_nat c.same)) (order_b c.same (suc p.subject) l) w.order);
        least = (w.marks p.entry own).0;
        most-mark = (w.marks p.entry own).1;
        gap = and_l (gap_b seen from p) (gaps_b seen (suc p.subject) l) w.gaps;
      }))
      (of_pass (meets c.met seen p) (suc p.subject) l (length-set seen (2 + p.entry) c.met ∙ n)
      (record {
        range = r.2;
        order = and_r (leb from (p.subject + to_nat c.same)) (order_b c.same (suc p.subject) l) w.order;
        once = λ e. elim (ℕ_discrete (count (is_entry e) l) 0) [ yes z ↦ omega arith | no z ↦ omega (arith, w.once e, count-off e p l (off e (omega arith))) ];
        marks = λ e i.
            let b = w.marks e (omega (arith, i, count-off e p l (off e i))) in
            (omega (arith, b.0, mark-off seen c.met e p (off e i)), omega (arith, b.1, mark-off seen c.met e p (off e i)));
        gaps = sym (gaps-same seen (meets c.met seen p) (suc p.subject) l (λ e i. sym (mark-off seen c.met e p (off e i)))) ∙ and_r (gap_b seen from p) (gaps_b seen (suc p.subject) l) w.gaps;
      }))

-- ---- the marks that are left

pub after-out : (met : ℕ) (seen : List ℕ) (l : List Pair) (e : ℕ) → count (is_entry e) l ≡ 0 → mark_of (seen_after met seen l) e ≡ mark_of seen e
unfolding seen_after
after-out met seen [] e z = refl
after-out met seen (p ∷ l) e z = elim (ℕ_discrete e p.entry) [
  | yes q ↦ absurd (omega (arith, count-own e p l q))
  | no q ↦ after-out met (meets met seen p) l e (omega (arith, count-off e p l q)) ∙ mark-off seen met e p q
]

pub after_in : (most met : ℕ) (seen : List ℕ) (l : List Pair) (e : ℕ) → length seen ≡ 256 → in_range most l ≡ true → 0 < count (is_entry e) l → mark_of (seen_after met seen l) e ≡ met
unfolding seen_after
after_in most met seen [] e n h i = absurd (omega (arith, i))
after_in most met seen (p ∷ l) e n h i =
    let r = range-parts most p l h in
    elim (ℕ_discrete (count (is_entry e) l) 0) [
      | yes z ↦ elim (ℕ_discrete e p.entry) [
        | yes q ↦ after-out met (meets met seen p) l e z ∙ mark-own seen met e p n r.0 q
        | no q ↦ absurd (omega (arith, i, count-off e p l q))
      ]
      | no z ↦ after_in most met (meets met seen p) l e (length-set seen (2 + p.entry) met ∙ n) r.2 (omega arith)
    ]

pub after-length : (met : ℕ) (seen : List ℕ) (l : List Pair) → length (seen_after met seen l) ≡ length seen
unfolding seen_after
after-length met seen [] = refl
after-length met seen (p ∷ l) = after-length met (meets met seen p) l ∙ length-set seen (2 + p.entry) met

-- ---- order

-- pairs that may share a subject
pub order_same : (from : ℕ) (l : List Pair) → order_b true from l ≡ in_order (from - 1) l
order_same from [] = refl
order_same from (p ∷ l) =
    let x : suc p.subject - 1 ≡ p.subject = omega arith in
    rw (same_test (leb from (p.subject + 1)) (leb (from - 1) p.subject) (λ h. le-leb (from - 1) p.subject (omega (arith, leb-true from (p.subject + 1) h))) (λ h. le-leb from (p.subject + 1) (omega (arith, leb-true (from - 1) p.subject h))), order_same (suc p.subject) l, x) refl

-- pairs that may not
pub order-rising : (from : ℕ) (l : List Pair) → order_b false from l ≡ rising from l
order-rising from [] = refl
order-rising from (p ∷ l) =
    let x : p.subject + 0 ≡ p.subject = omega arith in
    rw (x, order-rising (suc p.subject) l) refl
