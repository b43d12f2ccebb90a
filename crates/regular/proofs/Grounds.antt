-- The whole test's steps, in the code's order.
use Prim.Native.Nat.{ℕ, suc, ◌+◌, ◌-◌, ◌<◌, ◌≤◌}
use mathlib.Core.Path.{◌≡◌, refl, sym, ap, ◌∙◌}
use mathlib.Core.Logic.{◌≢◌}
use mathlib.Core.List.{List}
use Rattle.std.specs.Prelude.{Option, None, Some}
use mathlib.Core.Bool.{Bool, true, false, ◌&&◌}
use native.Mathlib.Omega.{arith}
use native.Mathlib.Decide.{ℕ_discrete}
use lib.Dec.{eqb, leb, ltb}
use lib.ListN.{length, get_or}
use borrow.Author.Tests.{ltb-true, leb-true, eqb-true, le-leb, eq-eqb, ne_eqb}
use Rattle.state.specs.Seq.{all_b, each}
use Rattle.state.proofs.Tests.{and_l, and_r, and4, not-both, false_of, same_test, by_cond}
use Rattle.multi_cycle_list.specs.Lists as lists
use Rattle.multi_cycle_list.specs.Nodes as nodes
use Rattle.multi_cycle_list.specs.Inner.{Marked, Whole}
use Rattle.multi_cycle_list.proofs.Laid.{read-valid}
use Rattle.entry_tree.specs.Places as tree
use Rattle.regular.specs.Registry as registry
use Rattle.entry_tree.specs.Inner.{IsTree}
use Rattle.entry_tree.specs.Testing.{mark_of, pairs_b, seen_after, pointed_b}
use Rattle.regular.specs.Registry.{last_b}
use Rattle.regular.specs.Bytes.{active_part, inactive_part, queue_part, read, sizes_b, whole_b}
use Rattle.regular.specs.Inner.{met_b}
use Rattle.regular.proofs.Parts.{split}
use Rattle.regular.proofs.Testing.{Marks, Tested, active, inactive, sound, complete}

-- ---- sizes

pub record Sizes (s : List ℕ) : Type 0 where
  pub active : tree.size (active_part s) ≤ 128
  pub inactive : tree.size (inactive_part s) ≤ 128
  pub classes : nodes.classes (queue_part s) ≡ 2
  pub entries : nodes.entries (queue_part s) ≡ 128

pub sizes_of : (s : List ℕ) → sizes_b s ≡ true → Sizes s
unfolding sizes_b
sizes_of s h =
    let r = and4 (leb (tree.size (active_part s)) 128) (leb (tree.size (inactive_part s)) 128) (eqb (nodes.classes (queue_part s)) 2) (eqb (nodes.entries (queue_part s)) 128) h in
    record {
      active = leb-true (tree.size (active_part s)) 128 r.0;
      inactive = leb-true (tree.size (inactive_part s)) 128 r.1;
      classes = eqb-true (nodes.classes (queue_part s)) 2 r.2;
      entries = eqb-true (nodes.entries (queue_part s)) 128 r.3;
    }

pub of_sizes : (s : List ℕ) → Sizes s → sizes_b s ≡ true
unfolding sizes_b
of_sizes s z = rw (le-leb (tree.size (active_part s)) 128 z.active, le-leb (tree.size (inactive_part s)) 128 z.inactive, eq-eqb (nodes.classes (queue_part s)) 2 z.classes, eq-eqb (nodes.entries (queue_part s)) 128 z.entries)

-- the trees
pub active-tree : (s : List ℕ) → length s ≡ 1036 → sizes_b s ≡ true → IsTree (active_part s)
active-tree s l h = record { len = (split s l).long-a; few = (sizes_of s h).active }

pub inactive-tree : (s : List ℕ) → length s ≡ 1036 → sizes_b s ≡ true → IsTree (inactive_part s)
inactive-tree s l h = record { len = (split s l).long-i; few = (sizes_of s h).inactive }

pub active_few : (s : List ℕ) → sizes_b s ≡ true → tree.size (active_part s) ≤ 128
active_few s h = (sizes_of s h).active

-- what is asked of the parts that the tests go over
pub ruleset grounds = (active-tree, inactive-tree, active_few)

-- ---- the queue

-- two classes: their counts
pub two-counts : (q : List ℕ) (e : ℕ) → nodes.classes q ≡ 2 → lists.counts e (nodes.lists_of q) ≡ lists.count e (nodes.list_of q 0) + lists.count e (nodes.list_of q 1)
unfolding nodes.lists_of each lists.counts
two-counts q e h = ap (λ (c : ℕ). lists.counts e (each c (nodes.list_of q))) h ∙ omega arith

-- the queue is whole, and what its test marked
pub record Ground (s seen : List ℕ) : Type 0 where
  pub long : length s ≡ 1036
  pub sizes : sizes_b s ≡ true
  pub queue : nodes.whole_b (queue_part s) ≡ true
  pub marked : Marked (queue_part s) seen
  pub room : length seen ≡ 256

-- what the queue's test, with the answer true, leaves
pub ground_of : (s seen : List ℕ) (r : Bool) → length s ≡ 1036 → sizes_b s ≡ true → Whole (queue_part s) seen r → r ≡ true → length seen ≡ 256 → Ground s seen
ground_of s seen r l z w q n = record { long = l; sizes = z; queue = sym w.test ∙ q; marked = w.marked q; room = n }

module _ (s seen : List ℕ) (g : Ground s seen) where
  Z : Sizes s
  Z = sizes_of s g.sizes

  at : (e : ℕ) → get_or seen (nodes.classes (queue_part s) + e) 0 ≡ mark_of seen e
  at e = ap (λ (c : ℕ). get_or seen (c + e) 0) Z.classes

  in_class : (e c : ℕ) → e < 128 → c < 2 → 0 < lists.count e (nodes.list_of (queue_part s) c) → mark_of seen e ≡ suc c
  in_class e c l k i = sym (at e) ∙ g.marked.in_class e c (omega (arith, Z.entries)) (omega (arith, Z.classes)) i

  of_class : (e c : ℕ) → e < 128 → mark_of seen e ≡ suc c → (c < 2) × (0 < lists.count e (nodes.list_of (queue_part s) c))
  of_class e c l q = let r = g.marked.of_class e c (omega (arith, Z.entries)) (at e ∙ q) in (omega (arith, r.0, Z.classes), r.1)

  pub marks : Marks (read s).clean_up (read s).activation seen
  marks = record {
    in_clean_up = λ e l i. in_class e 0 l (omega arith) i;
    in_activation = λ e l i. in_class e 1 l (omega arith) i;
    of_clean_up = λ e l q. (of_class e 0 l q).1;
    of_activation = λ e l q. (of_class e 1 l q).1;
    most = λ e l. elim (ℕ_discrete (mark_of seen e) 0) [ yes z ↦ omega arith | no z ↦ omega (arith, (of_class e (mark_of seen e - 1) l (omega arith)).0) ];
    once = λ e. omega (arith, two-counts (queue_part s) e Z.classes, (read-valid (queue_part s) g.queue).once e);
  }

  pointed : (e : ℕ) → (read s).walk ≡ Some e → e < 128
  pointed e = by_cond (λ (o : Option ℕ). o ≡ Some e → e < 128) (ltb (get_or s 1035 0) 128) {a = Some (get_or s 1035 0)} {b = None}
      (λ t q. let z : get_or s 1035 0 ≡ e = cc in omega (arith, ltb-true (get_or s 1035 0) 128 t))
      (λ t q. absurd (none-some e q))
    where
      is_none : Option ℕ → ℕ
      is_none None = 0
      is_none (Some x) = 1

      none-some : (e : ℕ) → None ≡ Some e → ⊥
      none-some e q = let z : ◌≡◌ {A = ℕ} 0 1 = ap is_none q in omega arith

  pub tested : whole_b s ≡ true → Tested (read s) seen
  unfolding whole_b
  tested h =
      let r = and_r (nodes.whole_b (queue_part s)) (registry.whole_b (read s)) (and_r (sizes_b s) (nodes.whole_b (queue_part s) && registry.whole_b (read s)) (and_r (eqb (length s) 1036) (sizes_b s && (nodes.whole_b (queue_part s) && registry.whole_b (read s))) h)) in
      complete (read s) seen g.room marks pointed r

  pub whole_by : Tested (read s) seen → whole_b s ≡ true
  unfolding whole_b
  whole_by t = rw (eq-eqb (length s) 1036 g.long, g.sizes, g.queue) (sound (read s) seen g.room marks pointed t)

  -- ---- each test that fails

  pub no-active : pairs_b active seen 0 (read s).active ≡ false → whole_b s ≡ false
  no-active f = false_of (whole_b s) (λ h. not-both (sym (tested h).active ∙ f))

  pub no-inactive : (two : List ℕ) → two ≡ seen_after 3 seen (read s).active → pairs_b inactive two 0 (read s).inactive ≡ false → whole_b s ≡ false
  no-inactive two q f = false_of (whole_b s) (λ h. not-both (sym (tested h).inactive ∙ ap (λ (z : List ℕ). pairs_b inactive z 0 (read s).inactive) (sym q) ∙ f))

  points : (marks : List ℕ) (o : Option ℕ) → pointed_b marks o ≡ true → (e : ℕ) → o ≡ Some e → mark_of marks e ≡ 3
  points marks None h e q = absurd (let z : ◌≡◌ {A = ℕ} 0 1 = cc in omega arith)
  points marks (Some w) h e q = let z : w ≡ e = cc in ap (mark_of marks) (sym z) ∙ eqb-true (mark_of marks w) 3 h

  of_points : (marks : List ℕ) (o : Option ℕ) → ((e : ℕ) → o ≡ Some e → mark_of marks e ≡ 3) → pointed_b marks o ≡ true
  of_points ms None f = refl
  of_points ms (Some w) f = eq-eqb (mark_of ms w) 3 (f w refl)

  -- the last three tests, on the marks `two` and `three` after each tree
  pub whole_last : pairs_b active seen 0 (read s).active ≡ true → (two : List ℕ) → two ≡ seen_after 3 seen (read s).active
      → pairs_b inactive two 0 (read s).inactive ≡ true → (three : List ℕ) → three ≡ seen_after 4 two (read s).inactive
      → whole_b s ≡ (all_b 128 (met_b three) && (last_b (read s) && pointed_b three (read s).walk))
  whole_last a two q2 i three q3 =
      let w = (read s).walk in
      let at : three ≡ seen_after 4 (seen_after 3 seen (read s).active) (read s).inactive = q3 ∙ ap (λ (z : List ℕ). seen_after 4 z (read s).inactive) q2 in
      let t = all_b 128 (met_b three) in
      let l = last_b (read s) in
      same_test (whole_b s) (t && (l && pointed_b three w))
      (λ h. rw (at, (tested h).all-met, (tested h).last) (of_points _ w (tested h).walk))
      (λ h. whole_by (record {
        active = a;
        inactive = ap (λ (z : List ℕ). pairs_b inactive z 0 (read s).inactive) (sym q2) ∙ i;
        all-met = ap (λ (z : List ℕ). all_b 128 (met_b z)) (sym at) ∙ and_l t (l && pointed_b three w) h;
        last = and_l l (pointed_b three w) (and_r t (l && pointed_b three w) h);
        walk = λ e q. ap (λ (z : List ℕ). mark_of z e) (sym at) ∙ points three w (and_r l (pointed_b three w) (and_r t (l && pointed_b three w) h)) e q;
      }))

-- ---- the first tests

pub no_length : (s : List ℕ) → length s ≢ 1036 → whole_b s ≡ false
unfolding whole_b
no_length s h = rw (ne_eqb (length s) 1036 h)

pub no-sizes : (s : List ℕ) → length s ≡ 1036 → sizes_b s ≡ false → whole_b s ≡ false
unfolding whole_b
no-sizes s l h = rw (eq-eqb (length s) 1036 l, h)

pub no-queue : (s : List ℕ) → length s ≡ 1036 → sizes_b s ≡ true → nodes.whole_b (queue_part s) ≡ false → whole_b s ≡ false
unfolding whole_b
no-queue s l z h = rw (eq-eqb (length s) 1036 l, z, h)
