-- Whatever is valid is laid out as whole bytes, which mean it; so the theorem of the registry's specs/Calls.antt.
use Prim.Native.Nat.{ℕ, zero, suc, ◌+◌, ◌*◌, ◌/◌, ◌%◌, ◌<◌, ◌≤◌}
use mathlib.Core.Path.{◌≡◌, refl, sym, ap, ◌∙◌, subst}
use mathlib.Core.List.{List, [], ◌∷◌, ◌++◌}
use Rattle.std.specs.Prelude.{Some}
use mathlib.Core.Bool.{Bool, true, false, not, cond}
use native.Mathlib.Omega.{arith}
use lib.Dec.{eqb, ltb}
use lib.ListN.{length, get_or, replicate, length-replicate}
use borrow.Author.Tests.{ltb-false, eqb-true, eq-eqb, ne_eqb}
use Rattle.state.proofs.Filled.{zero-bytes}
use Rattle.state.specs.Lengths.{regular_length}
use Rattle.state.specs.Outcome.{refuse, done, Bytes}
use Rattle.state.specs.declared.Refusal.TheVariants.{NotWhole, Range}
use Rattle.state.proofs.Outcomes.{means_of}
use Rattle.multi_cycle_list.specs.Lists as plain
use Rattle.multi_cycle_list.specs.Nodes as nodes
use Rattle.multi_cycle_list.specs.Laid as lists
use Rattle.multi_cycle_list.proofs.Laid as lists_laid
use Rattle.multi_cycle_list.proofs.Meaning.{list_at}
use Rattle.entry_tree.specs.Places as tree
use Rattle.entry_tree.proofs.Laid as tree_laid
use Rattle.entry_tree.specs.Walks.{walk_of, walk_over}
use Rattle.state.proofs.Bytes.{bytes-part, bytes-append}
use Rattle.entry_tree.proofs.Walking.{walk-back, walk-byte}
use Rattle.regular.specs.Registry as registry
use Rattle.regular.specs.Registry.{Registry, fresh}
use Rattle.regular.specs.Bytes.{active_part, inactive_part, queue_part, read, whole_b, flag_over, queue_of, laid}
use Rattle.regular.specs.Steps.{step}
use Rattle.regular.specs.Calls.{opening}
use Rattle.regular_valid.specs.Means.{Valid, Sized, RegularMeans}
use Rattle.regular.proofs.Parts.{join, Joined, split, active-is, inactive-is, queue-is, tail_at, long}
use Rattle.regular.proofs.Grounds.{of_sizes}
use Rattle.regular.proofs.Testing.{conditions}
use Rattle.regular_valid.proofs.Facts.{Facts, at_most}
use Rattle.regular_valid.proofs.Sound.{fresh-facts}
use Rattle.regular_valid.proofs.Valid.{valid-whole, whole_valid, step_valid}
use Rattle.regular_valid.proofs.Reading.{parts, read_whole, queue-valid}
use Rattle.regular_valid.proofs.Round.{tail_laid, flag-back, laid-joined, laid_read}

-- ---- bytes

bytes-four : (x0 x1 x2 x3 : ℕ) → x0 < 256 → x1 < 256 → x2 < 256 → x3 < 256 → Bytes (x0 ∷ (x1 ∷ (x2 ∷ (x3 ∷ []))))
bytes-four x0 x1 x2 x3 h0 h1 h2 h3 zero = h0
bytes-four x0 x1 x2 x3 h0 h1 h2 h3 (suc zero) = h1
bytes-four x0 x1 x2 x3 h0 h1 h2 h3 (suc (suc zero)) = h2
bytes-four x0 x1 x2 x3 h0 h1 h2 h3 (suc (suc (suc zero))) = h3
bytes-four x0 x1 x2 x3 h0 h1 h2 h3 (suc (suc (suc (suc i)))) = omega arith

flag-byte : (f : Bool) (v : ℕ) → v < 256 → flag_over f v < 256
flag-byte false v h = omega arith
flag-byte true zero h = omega arith
flag-byte true (suc v) h = rw (ne_eqb (suc v) 0 (λ q. omega arith)) h

-- ---- what is laid reads back

-- the lists of the laid queue
row_laid : (q : plain.Lists) → plain.Valid q → (c : ℕ) → c < length q.rows → nodes.list_of (lists.laid q) c ≡ get_or q.rows c []
row_laid q f c h =
    let z = lists_laid.out-sizes (length q.rows) q.entries (lists.arcs (length q.rows) 0 q.rows) in
    sym (list_at (lists.laid q) c (omega (arith, z.0))) ∙ ap (λ (x : plain.Lists). get_or x.rows c []) (lists_laid.read_laid q f)

module _ (m : Registry) (b : List ℕ) (y : Bytes b) (f : Valid m) (l : length b ≡ regular_length) where
  w : Facts m
  w = (valid-whole m f).facts

  few : (length m.active ≤ 128) × (length m.inactive ≤ 128)
  few = (omega (arith, at_most m w), omega (arith, at_most m w))

  t : List ℕ
  t = laid m b

  A : List ℕ
  A = tree.laid m.active (active_part b)

  I : List ℕ
  I = tree.laid m.inactive (inactive_part b)

  Q : List ℕ
  Q = lists.laid (queue_of m)

  T : List ℕ
  T = tail_laid m b

  j : Joined t A I Q T
  unfolding t A I Q T
  j = laid-joined m b l few.0 few.1

  walks : (e : ℕ) → m.walk ≡ Some e → e < 128
  walks e q = omega (arith, w.entries e (omega (arith, w.walks e q)))

  pub read_laid : read (laid m b) ≡ m
  unfolding t A I Q T
  read_laid =
      let s = split b l in
      let t0 : get_or t 1032 0 ≡ m.slots % 256 = tail_at t A I Q T j 0 in
      let t1 : get_or t 1033 0 ≡ m.slots / 256 = tail_at t A I Q T j 1 in
      let i : tree.read (inactive_part t) ≡ m.inactive = ap tree.read (inactive-is t A I Q T j) ∙ tree_laid.read_laid (inactive_part b) s.long-i m.inactive few.1 in
      let a : tree.read (active_part t) ≡ m.active = ap tree.read (active-is t A I Q T j) ∙ tree_laid.read_laid (active_part b) s.long-a m.active few.0 in
      let q1 : nodes.list_of (queue_part t) 1 ≡ m.activation = ap (λ (z : List ℕ). nodes.list_of z 1) (queue-is t A I Q T j) ∙ row_laid (queue_of m) (queue-valid m w) 1 (omega arith) in
      let q0 : nodes.list_of (queue_part t) 0 ≡ m.clean_up = ap (λ (z : List ℕ). nodes.list_of z 0) (queue-is t A I Q T j) ∙ row_laid (queue_of m) (queue-valid m w) 0 (omega arith) in
      let g : not (eqb (get_or t 1034 0) 0) ≡ m.last_gap = ap (λ (v : ℕ). not (eqb v 0)) (tail_at t A I Q T j 2) ∙ flag-back m.last_gap (get_or b 1034 0) in
      let n : get_or t 1032 0 + 256 * get_or t 1033 0 ≡ m.slots = omega arith in
      let p : walk_of (get_or t 1035 0) ≡ m.walk = ap walk_of (tail_at t A I Q T j 3) ∙ walk-back m.walk (get_or b 1035 0) walks in
      λ k. record { inactive = i k; active = a k; activation = q1 k; clean_up = q0 k; last_gap = g k; slots = n k; walk = p k }

  pub laid_whole : whole_b (laid m b) ≡ true
  unfolding whole_b t A I Q T
  laid_whole =
      let s = split b l in
      let z = lists_laid.out-sizes 2 128 (lists.arcs 2 0 (queue_of m).rows) in
      let ls : length t ≡ regular_length = long t A I Q T j in
      let sizes = of_sizes t (record {
        active = omega (arith, ap tree.size (active-is t A I Q T j), tree_laid.size-laid (active_part b) s.long-a m.active few.0, few.0);
        inactive = omega (arith, ap tree.size (inactive-is t A I Q T j), tree_laid.size-laid (inactive_part b) s.long-i m.inactive few.1, few.1);
        classes = ap nodes.classes (queue-is t A I Q T j) ∙ z.0;
        entries = ap nodes.entries (queue-is t A I Q T j) ∙ z.1;
      }) in
      let queue : nodes.whole_b (queue_part t) ≡ true = ap nodes.whole_b (queue-is t A I Q T j) ∙ lists_laid.laid_whole (queue_of m) (queue-valid m w) in
      let means : registry.whole_b (read t) ≡ true = ap registry.whole_b read_laid ∙ f.whole in
      rw (eq-eqb (length t) regular_length ls, sizes, queue, means)

  pub laid_bytes : Bytes (laid m b)
  unfolding join t A I Q T
  laid_bytes =
      let s = split b l in
      let c = conditions m f.whole in
      subst Bytes (sym j.is)
      (bytes-append A (I ++ (Q ++ T)) (tree_laid.bytes-laid (active_part b) s.long-a m.active few.0 8191 (bytes-part 0 385 b y) (omega arith) c.range-a)
      (bytes-append I (Q ++ T) (tree_laid.bytes-laid (inactive_part b) s.long-i m.inactive few.1 8191 (bytes-part 385 385 b y) (omega arith) c.range-i)
      (bytes-append Q T (lists_laid.whole-bytes Q (lists_laid.laid_whole (queue_of m) (queue-valid m w)))
      (bytes-four (m.slots % 256) (m.slots / 256) (flag_over m.last_gap (get_or b 1034 0)) (walk_over m.walk (get_or b 1035 0))
      (omega arith) (omega (arith, f.room)) (flag-byte m.last_gap (get_or b 1034 0) (y 1034)) (walk-byte m.walk (get_or b 1035 0) walks (y 1035))))))

-- ---- the theorem

read-valid : (b : List ℕ) → Bytes b → whole_b b ≡ true → Valid (read b)
read-valid b y h = whole_valid (read b) (read_whole b y h)

open_inv : (p q : Bool) (m₀ : Registry) (a : Unit {0}) (m : Registry) → cond p (cond q (refuse Range) (done tt m₀)) (refuse NotWhole) ≡ done a m → (p ≡ true) × ((q ≡ false) × (m₀ ≡ m))
open_inv true false m₀ a m h = (refl, (refl, cc))
open_inv true true m₀ a m h = absurd (let z : ◌≡◌ {A = ℕ} 0 1 = cc in omega arith)
open_inv false q m₀ a m h = absurd (let z : ◌≡◌ {A = ℕ} 0 1 = cc in omega arith)

pub fresh-valid : (n : ℕ) → n ≤ 65535 → Valid (fresh n)
fresh-valid n h = whole_valid (fresh n) (record { facts = fresh-facts n; room = h })

opened : (b n : ℕ) (a : Unit {0}) (m : Registry) → opening b n ≡ done a m → whole_b (laid m (replicate b 0)) ≡ true
unfolding opening
opened b n a m q =
    let i = open_inv (eqb b regular_length) (ltb 65535 n) (fresh n) a m q in
    subst (λ (x : Registry). whole_b (laid x (replicate b 0)) ≡ true) i.1.1
    (laid_whole (fresh n) (replicate b 0) (zero-bytes b) (fresh-valid n (ltb-false 65535 n i.1.0)) (length-replicate {A = ℕ} b 0 ∙ eqb-true b regular_length i.0))

pub means : RegularMeans
means =
    record {
      opened = opened;
      meaning = means_of whole_b read laid Valid Sized laid_bytes laid_whole read_laid step read-valid (λ b h. (parts b h).bytes) laid_read step_valid (λ k m n f z. z);
    }
