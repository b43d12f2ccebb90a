-- The registry's bytes part by part: whole bytes are those of what they mean, and what is laid reads back.
use Prim.Native.Nat.{ℕ, zero, suc, ◌/◌, ◌%◌, ◌≤◌}
use mathlib.Core.Path.{◌≡◌, refl, sym, ap, ◌∙◌, subst}
use mathlib.Core.Logic.{◌⊎◌, ⊎_elim}
use mathlib.Core.List.{List, [], ◌∷◌, ◌++◌}
use Rattle.std.specs.Prelude.{Option, None, Some}
use mathlib.Core.Bool.{Bool, true, false, not}
use native.Mathlib.Omega.{arith}
use native.Mathlib.Decide.{dec_lt}
use lib.Dec.{eqb}
use lib.ListN.{length, get_or, drop}
use lib.Seq.{get_or-drop}
use borrow.Author.Tests.{lt-ltb, le-ltb, ne_eqb}
use Rattle.state.specs.Outcome.{Bytes}
use Rattle.state.specs.Seq.{each}
use Rattle.state.proofs.Tests.{not-both}
use Rattle.multi_cycle_list.specs.Nodes as nodes
use Rattle.multi_cycle_list.specs.Laid as lists
use Rattle.multi_cycle_list.proofs.Laid as lists_laid
use Rattle.entry_tree.specs.Places as tree
use Rattle.entry_tree.proofs.Laid as tree_laid
use Rattle.entry_tree.specs.Walks.{walk_over}
use Rattle.state.proofs.Bytes.{bytes-part}
use Rattle.entry_tree.proofs.Walking.{walk_same}
use Rattle.regular.specs.Registry.{Registry}
use Rattle.regular.specs.Bytes.{active_part, inactive_part, queue_part, read, whole_b, flag_over, queue_of, laid}
use Rattle.regular.proofs.Parts.{join, Joined, split, active-is, inactive-is, tail_at, long}
use Rattle.regular.proofs.Grounds.{sizes_of}
use Rattle.regular_valid.proofs.Reading.{parts}

-- ---- the last four bytes

-- as they stand, and as they are laid
abbrev pub tail_of : List ℕ → List ℕ
tail_of b = get_or b 1032 0 ∷ (get_or b 1033 0 ∷ (get_or b 1034 0 ∷ (get_or b 1035 0 ∷ [])))

abbrev pub tail_laid : Registry → List ℕ → List ℕ
tail_laid m b = m.slots % 256 ∷ (m.slots / 256 ∷ (flag_over m.last_gap (get_or b 1034 0) ∷ (walk_over m.walk (get_or b 1035 0) ∷ [])))

four : (t : List ℕ) → length t ≡ 4 → t ≡ get_or t 0 0 ∷ (get_or t 1 0 ∷ (get_or t 2 0 ∷ (get_or t 3 0 ∷ [])))
four [] h = absurd (omega arith)
four (t0 ∷ []) h = absurd (omega arith)
four (t0 ∷ (t1 ∷ [])) h = absurd (omega arith)
four (t0 ∷ (t1 ∷ (t2 ∷ []))) h = absurd (omega arith)
four (t0 ∷ (t1 ∷ (t2 ∷ (t3 ∷ [])))) h = refl
four (t0 ∷ (t1 ∷ (t2 ∷ (t3 ∷ (t4 ∷ t))))) h = absurd (omega arith)

same-four : {x0 x1 x2 x3 y0 y1 y2 y3 : ℕ} → x0 ≡ y0 → x1 ≡ y1 → x2 ≡ y2 → x3 ≡ y3 → ◌≡◌ {A = List ℕ} (x0 ∷ (x1 ∷ (x2 ∷ (x3 ∷ [])))) (y0 ∷ (y1 ∷ (y2 ∷ (y3 ∷ []))))
same-four p0 p1 p2 p3 = λ i. p0 i ∷ (p1 i ∷ (p2 i ∷ (p3 i ∷ [])))

tail-is : (b : List ℕ) → length (drop 1032 b) ≡ 4 → drop 1032 b ≡ tail_of b
tail-is b l = four (drop 1032 b) l ∙ same-four (get_or-drop 1032 b 0 0) (get_or-drop 1032 b 1 0) (get_or-drop 1032 b 2 0) (get_or-drop 1032 b 3 0)

pub split-long : (b : List ℕ) → length b ≡ 1036 → Joined b (active_part b) (inactive_part b) (queue_part b) (tail_of b)
split-long b l =
    let s = split b l in
    subst (λ (t : List ℕ). Joined b (active_part b) (inactive_part b) (queue_part b) t) (tail-is b s.long-t) s

-- ---- the flag's byte

pub flag-back : (f : Bool) (v : ℕ) → not (eqb (flag_over f v) 0) ≡ f
flag-back false v = refl
flag-back true zero = refl
flag-back true (suc v) = let n = ne_eqb (suc v) 0 (λ q. omega arith) in rw (n, n)

flag-own : (v : ℕ) → v ≡ flag_over (not (eqb v 0)) v
flag-own zero = refl
flag-own (suc v) = let n = ne_eqb (suc v) 0 (λ q. omega arith) in rw (n, n)

-- a byte laid twice
flag-again : (f g : Bool) (v : ℕ) → (g ≡ false) ⊎ (g ≡ f) → flag_over g (flag_over f v) ≡ flag_over g v
flag-again f false v h = refl
flag-again true true zero h = refl
flag-again true true (suc v) h = let n = ne_eqb (suc v) 0 (λ q. omega arith) in rw (n, n)
flag-again false true v h = ⊎_elim (λ q. not-both q) (λ q. not-both q) h

walk-again : (w : Option ℕ) (v : ℕ) → walk_over w (walk_over w v) ≡ walk_over w v
walk-again None v = elim (dec_lt v 128) [ yes l ↦ rw (lt-ltb v 128 l) | no l ↦ rw (le-ltb v 128 (omega arith), le-ltb v 128 (omega arith)) ]
walk-again (Some e) v = refl

-- ---- what is laid

pub laid-joined : (m : Registry) (b : List ℕ) → length b ≡ 1036 → length m.active ≤ 128 → length m.inactive ≤ 128
    → Joined (laid m b) (tree.laid m.active (active_part b)) (tree.laid m.inactive (inactive_part b)) (lists.laid (queue_of m)) (tail_laid m b)
unfolding laid join
laid-joined m b l a i =
    let s = split b l in
    record {
      is = refl;
      long-a = tree_laid.length-laid (active_part b) s.long-a m.active a;
      long-i = tree_laid.length-laid (inactive_part b) s.long-i m.inactive i;
      long-q = lists_laid.out-length 2 128 (lists.arcs 2 0 (queue_of m).rows);
      long-t = refl;
    }

-- bytes whose parts are laid
pub laid_from : {s A I Q : List ℕ} {t0 t1 t2 t3 : ℕ} (m : Registry) (b : List ℕ) → Joined s A I Q (t0 ∷ (t1 ∷ (t2 ∷ (t3 ∷ []))))
    → A ≡ tree.laid m.active (active_part b) → I ≡ tree.laid m.inactive (inactive_part b) → Q ≡ lists.laid (queue_of m)
    → t0 ≡ m.slots % 256 → t1 ≡ m.slots / 256 → t2 ≡ flag_over m.last_gap (get_or b 1034 0) → t3 ≡ walk_over m.walk (get_or b 1035 0) → s ≡ laid m b
unfolding laid join
laid_from m b j a i q p0 p1 p2 p3 = j.is ∙ λ k. a k ++ (i k ++ (q k ++ (p0 k ∷ (p1 k ∷ (p2 k ∷ (p3 k ∷ []))))))

-- laid over what was laid
pub laid-again : (m m' : Registry) (b : List ℕ) → length b ≡ 1036 → length m'.inactive ≤ 128 → length m.inactive ≤ 128 → length m.inactive ≤ tree.size (inactive_part b)
    → length m.active ≤ length m'.active → length m'.active ≤ 128 → m'.walk ≡ m.walk → (m'.last_gap ≡ false) ⊎ (m'.last_gap ≡ m.last_gap)
    → laid m' (laid m b) ≡ laid m' b
laid-again m m' b l i' n i a a' w f =
    let s = split b l in
    let j = laid-joined m b l (omega arith) n in
    let t = laid m b in
    let A = tree.laid m.active (active_part b) in
    let I = tree.laid m.inactive (inactive_part b) in
    let Q = lists.laid (queue_of m) in
    let T = tail_laid m b in
    laid_from m' b (laid-joined m' t (long t A I Q T j) a' i')
    (ap (λ (z : List ℕ). tree.laid m'.active z) (active-is t A I Q T j) ∙ tree_laid.laid_longer (active_part b) s.long-a m.active (omega arith) m'.active a' a)
    (ap (λ (z : List ℕ). tree.laid m'.inactive z) (inactive-is t A I Q T j) ∙ tree_laid.laid-shorter (inactive_part b) s.long-i m.inactive n m'.inactive i' (omega arith))
    refl
    refl
    refl
    (ap (flag_over m'.last_gap) (tail_at t A I Q T j 2) ∙ flag-again m.last_gap m'.last_gap (get_or b 1034 0) f)
    (ap (walk_over m'.walk) (tail_at t A I Q T j 3) ∙ rw w (walk-again m.walk (get_or b 1035 0)))

-- ---- whole bytes

queue-same : (q : List ℕ) → nodes.classes q ≡ 2 → nodes.entries q ≡ 128 → nodes.read q ≡ record { entries = 128; rows = nodes.list_of q 0 ∷ (nodes.list_of q 1 ∷ []) }
unfolding nodes.lists_of each
queue-same q c e = ap (λ (n : ℕ). lists_laid.lists (nodes.entries q) (each n (nodes.list_of q))) c ∙ ap (λ (n : ℕ). lists_laid.lists n (nodes.list_of q 0 ∷ (nodes.list_of q 1 ∷ []))) e

pub queue-read : (b : List ℕ) → whole_b b ≡ true → nodes.read (queue_part b) ≡ queue_of (read b)
queue-read b h = let z = sizes_of b (parts b h).sizes in queue-same (queue_part b) z.classes z.entries

module _ (b : List ℕ) (y : Bytes b) (h : whole_b b ≡ true) where
  pub split-whole : Joined b (active_part b) (inactive_part b) (queue_part b) (get_or b 1032 0 ∷ (get_or b 1033 0 ∷ (get_or b 1034 0 ∷ (get_or b 1035 0 ∷ []))))
  split-whole = split-long b (parts b h).bytes

  -- each part is that of the meaning, laid over itself
  pub active-self : active_part b ≡ tree.laid (read b).active (active_part b)
  active-self = sym (tree_laid.laid_read (active_part b) split-whole.long-a (sizes_of b (parts b h).sizes).active (bytes-part 0 385 b y))

  pub inactive-self : inactive_part b ≡ tree.laid (read b).inactive (inactive_part b)
  inactive-self = sym (tree_laid.laid_read (inactive_part b) split-whole.long-i (sizes_of b (parts b h).sizes).inactive (bytes-part 385 385 b y))

  pub queue-self : queue_part b ≡ lists.laid (queue_of (read b))
  queue-self = sym (ap lists.laid (sym (queue-read b h)) ∙ lists_laid.laid_read (queue_part b) (parts b h).queue)

  pub low-self : get_or b 1032 0 ≡ (read b).slots % 256
  low-self = omega (arith, y 1032, y 1033)

  pub high-self : get_or b 1033 0 ≡ (read b).slots / 256
  high-self = omega (arith, y 1032, y 1033)

  pub flag-self : get_or b 1034 0 ≡ flag_over (read b).last_gap (get_or b 1034 0)
  flag-self = flag-own (get_or b 1034 0)

  pub walk-self : get_or b 1035 0 ≡ walk_over (read b).walk (get_or b 1035 0)
  walk-self = walk_same (get_or b 1035 0)

  pub laid_read : laid (read b) b ≡ b
  laid_read = sym (laid_from (read b) b split-whole active-self inactive-self queue-self low-self high-self flag-self walk-self)
