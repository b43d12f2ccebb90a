-- What a whole registry is, and the code's test of it.
use Prim.Native.Nat.{ℕ, ◌<◌, ◌≤◌}
use mathlib.Core.Path.{◌≡◌, refl, sym, ap, ◌∙◌}
use mathlib.Core.List.{List}
use mathlib.Core.Bool.{Bool, true, false, cond, not, ◌&&◌, beq}
use native.Mathlib.Omega.{arith}
use lib.Dec.{eqb, leb}
use lib.ListN.{length, get_or}
use lib.Seq.{get_or-take}
use borrow.Author.Tests.{leb-true, eqb-true, le-leb, eq-eqb}
use Rattle.state.specs.Seq.{all_b}
use Rattle.state.proofs.Seq.{all_true, all-at}
use Rattle.state.proofs.Tests.{and_l, and_r, and4, same_test}
use Rattle.entry_tree.specs.Pairs.{Pair, has_entry, rising, in_range, once_b}
use Rattle.entry_tree.specs.Places as tree
use Rattle.entry_tree.specs.Testing.{pairs_fit_b, Fit}
use Rattle.entry_tree.proofs.Once.{Once, once_of, of_once, few}
use Rattle.entry_tree.proofs.Passing.{order-rising}
use Rattle.tx_queue.specs.TxQueue as plain
use Rattle.tx_queue.specs.TxQueue.{TxQueue, sets_of}
use Rattle.tx_queue.specs.Steps.{is_registered}
use Rattle.tx_queue.specs.Bytes as queue
use Rattle.tx_queue.specs.Bytes.{flag_at}
use Rattle.tx_queue.proofs.Reading.{known}
use Rattle.tx_change.proofs.Looks.{registered_is}
use Rattle.tx_msg.specs.Registry as registry
use Rattle.tx_msg.specs.Registry.{Registry, subject_b}
use Rattle.tx_msg.specs.Bytes.{tree_part, queue_part, whole_b, read}
use Rattle.tx_msg.specs.Inner.{same_b}

-- ---- the meaning

-- the entries that have a subject are those that are registered
abbrev pub Named : List Pair → TxQueue → Type 0
Named l q = (e : ℕ) → e < 128 → is_registered (sets_of q e) ≡ has_entry e l

pub record Facts (m : Registry) : Type 0 where
  pub queue : plain.whole_b m.queue ≡ true
  pub range : in_range 8191 m.subjects ≡ true
  pub once : Once m.subjects
  pub rises : rising 0 m.subjects ≡ true
  pub named : Named m.subjects m.queue

are_same : (a b : Bool) → cond a b (not b) ≡ true → a ≡ b
are_same true b h = sym h
are_same false true h = h
are_same false false h = refl

of_same : (a b : Bool) → a ≡ b → cond a b (not b) ≡ true
of_same true b q = sym q
of_same false b q = ap not (sym q)

pub facts_of : (m : Registry) → registry.whole_b m ≡ true → Facts m
unfolding registry.whole_b
facts_of m h =
    let r = and4 (plain.whole_b m.queue) (in_range 8191 m.subjects) (all_b 128 (once_b m.subjects)) (rising 0 m.subjects && all_b 128 (subject_b m)) h in
    let s = and_r (rising 0 m.subjects) (all_b 128 (subject_b m)) r.3 in
    record {
      queue = r.0;
      range = r.1;
      once = once_of 8191 m.subjects r.1 r.2;
      rises = and_l (rising 0 m.subjects) (all_b 128 (subject_b m)) r.3;
      named = λ e l. are_same (is_registered (sets_of m.queue e)) (has_entry e m.subjects) (all-at 128 (subject_b m) s e l);
    }

pub of_facts : (m : Registry) → Facts m → registry.whole_b m ≡ true
unfolding registry.whole_b
of_facts m f = rw (f.queue, f.range, of_once m.subjects f.once, f.rises)
    (all_true 128 (subject_b m) (λ e l. of_same (is_registered (sets_of m.queue e)) (has_entry e m.subjects) (f.named e l)))

pub at_most : (m : Registry) → Facts m → length m.subjects ≤ 128
at_most m f = few 8191 m.subjects f.range f.once

-- ---- whole bytes

pub record Whole (b : List ℕ) : Type 0 where
  pub long : length b ≡ 1062
  pub size : tree.size (tree_part b) ≤ 128
  pub queue : queue.whole_b (queue_part b) ≡ true
  pub means : registry.whole_b (read b) ≡ true

pub whole_of : (b : List ℕ) → whole_b b ≡ true → Whole b
unfolding whole_b
whole_of b h =
    let n = tree.size (tree_part b) in
    let r = and4 (eqb (length b) 1062) (leb n 128) (queue.whole_b (queue_part b)) (registry.whole_b (read b)) h in
    record { long = eqb-true (length b) 1062 r.0; size = leb-true n 128 r.1; queue = r.2; means = r.3 }

pub of_whole : (b : List ℕ) → Whole b → whole_b b ≡ true
unfolding whole_b
of_whole b w = rw (eq-eqb (length b) 1062 w.long, le-leb (tree.size (tree_part b)) 128 w.size, w.queue, w.means)

-- ---- the code's test

pub size_is : (b : List ℕ) → tree.size (tree_part b) ≡ get_or b 0 0
size_is b = get_or-take 385 b 0 0 (omega arith)

-- its comparison of an entry's mark with its flag
pub agree : (g f : Bool) → beq g (not f) ≡ cond f (not g) g
agree true true = refl
agree true false = refl
agree false true = refl
agree false false = refl

module _ (b : List ℕ) (l : length b ≡ 1062) (h : get_or b 0 0 ≤ 128) where
  abbrev m : Registry
  m = read b

  abbrev Q : List ℕ
  Q = queue_part b

  -- the queue is whole; the tree's test came to r
  module _ (w : queue.whole_b Q ≡ true) (seen : List ℕ) (r : Bool) (f : Fit 8191 false seen m.subjects r) where
    tested : whole_b b ≡ (r && all_b 128 (subject_b m))
    unfolding whole_b registry.whole_b pairs_fit_b
    tested =
        rw (eq-eqb (length b) 1062 l, le-leb (tree.size (tree_part b)) 128 (omega (arith, size_is b)), w, (known Q w).means, f.test, order-rising 0 m.subjects)
        (assoc (in_range 8191 m.subjects) (all_b 128 (once_b m.subjects)) (rising 0 m.subjects) (all_b 128 (subject_b m)))
      where
        assoc : (p q r w : Bool) → (p && (q && (r && w))) ≡ ((p && (q && r)) && w)
        assoc true true r w = refl
        assoc true false r w = refl
        assoc false q r w = refl

    pub no_pairs : r ≡ false → whole_b b ≡ false
    no_pairs q = tested ∙ ap (λ (t : Bool). t && all_b 128 (subject_b m)) q

    module _ (q : r ≡ true) where
      same_at : (e : ℕ) → e < 128 → same_b Q seen e ≡ subject_b m e
      same_at e i =
          ap (λ (t : Bool). cond (eqb (flag_at Q e) 0) (not t) t) (f.marks q e)
          ∙ flip (eqb (flag_at Q e) 0) (has_entry e m.subjects)
          ∙ ap (λ (t : Bool). cond t (has_entry e m.subjects) (not (has_entry e m.subjects))) (registered_is Q e i)
        where
          flip : (t u : Bool) → cond t (not u) u ≡ cond (not t) u (not u)
          flip true u = refl
          flip false u = refl

      pub whole-last : all_b 128 (same_b Q seen) ≡ whole_b b
      whole-last =
          same_test (all_b 128 (same_b Q seen)) (all_b 128 (subject_b m))
          (λ t. all_true 128 (subject_b m) (λ e i. sym (same_at e i) ∙ all-at 128 (same_b Q seen) t e i))
          (λ t. all_true 128 (same_b Q seen) (λ e i. same_at e i ∙ all-at 128 (subject_b m) t e i))
          ∙ sym (tested ∙ ap (λ (t : Bool). t && all_b 128 (subject_b m)) q)
