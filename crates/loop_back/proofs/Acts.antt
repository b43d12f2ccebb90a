-- What each change leaves: one law for each, from the parts that it stores.
use Prim.Native.Nat.{ℕ, ◌<◌, ◌≤◌}
use mathlib.Core.Path.{◌≡◌, refl, sym, ap, ◌∙◌}
use mathlib.Core.List.{List}
use Rattle.std.specs.Prelude.{Option, None, Some, is_some, position}
use mathlib.Core.Bool.{Bool, true, false, cond}
use native.Mathlib.Omega.{arith}
use lib.Dec.{eqb}
use lib.ListN.{length, get_or, set, drop, replicate, length-replicate, get_or-replicate}
use borrow.Rule.Slice.PartMut.{put_mid}
use Rattle.state.specs.Outcome.{Bytes}
use Rattle.state.proofs.Bytes.{bytes-part}
use Rattle.state.proofs.Filled.{zero-bytes}
use Rattle.entry_tree.specs.Pairs.{Pair, pair, is_entry, has_entry, in_order, inserted, place_of}
use Rattle.entry_tree.specs.Places as tree
use Rattle.entry_tree.specs.Walks.{moved_past, walk_over}
use Rattle.entry_tree.specs.Inner as inner
use Rattle.entry_tree.specs.Inner.{IsTree, removed_at, with_walk_past}
use Rattle.entry_tree.proofs.Changes.{inserted-length, removed-length}
use Rattle.entry_tree.proofs.Count.{true-any}
use Rattle.entry_tree.proofs.Lists.{first_of, placed}
use Rattle.entry_tree.proofs.Finding.{place_in, place-rest-at, removed-is}
use Rattle.entry_tree.proofs.Laid as trees
use Rattle.entry_tree.proofs.Once as once
use Rattle.entry_tree.proofs.Once.{empty_tree}
use Rattle.entry_tree.proofs.Reading.{read_length}
use Rattle.entry_tree.proofs.Walking.{walk_same, past-over}
use Rattle.loop_back.specs.Registry.{Registry, fresh}
use Rattle.loop_back.specs.Bytes.{tree_part, whole_b, read, laid}
use Rattle.loop_back.specs.Steps.{joins, goes_on, leaves, with_walk}
use Rattle.loop_back.proofs.Parts.{Joined, tree_is, put_tree, set-byte, split, laid_from}
use Rattle.loop_back.proofs.Facts.{Facts, facts_of, Whole, whole_of, size_is}
use Rattle.loop_back.proofs.Mean.{tree_self}

-- bytes that are 0 get the walk's byte
module _ (n : ℕ) (l : n ≡ 389) where
  zeros : List ℕ
  zeros = replicate n 0

  zero-at : (i : ℕ) → i < 389 → get_or zeros i 0 ≡ 0
  unfolding zeros
  zero-at i h = get_or-replicate {A = ℕ} n i 0 0 (omega (arith, l))

  pub opened : (t : List ℕ) → t ≡ replicate n 0 → set t 385 255 ≡ laid fresh (replicate n 0)
  unfolding zeros
  opened t z =
      let j = split zeros (length-replicate {A = ℕ} n 0 ∙ l) in
      ap (λ (x : List ℕ). set x 385 255) z
      ∙ laid_from fresh zeros (set-byte zeros (tree_part zeros) (get_or zeros 385 0) (drop 386 zeros) j 255)
      (empty_tree (tree_part zeros) j.long-t (bytes-part 0 385 zeros (zero-bytes n)) (size_is zeros ∙ zero-at 0 (omega arith)))
      (ap (walk_over None) (sym (zero-at 385 (omega arith))))
      refl

module _ (b : List ℕ) (h : whole_b b ≡ true) where
  abbrev m : Registry
  m = read b

  abbrev T : List ℕ
  T = tree_part b

  W : Whole b
  W = whole_of b h

  F : Facts m
  F = facts_of m W.means

  J : Joined b T (get_or b 385 0) (drop 386 b)
  J = split b W.long

  pub long : length b ≡ 389
  long = W.long

  pub long_tree : length T ≡ 385
  long_tree = J.long-t

  pub few_pairs : tree.size T ≤ 128
  few_pairs = W.size

  pub is_tree : IsTree T
  is_tree = record { len = long_tree; few = few_pairs }

  -- the walk's byte
  pub walk-laid : Bytes b → (w : Option ℕ) → inner.with_walk 385 b w ≡ laid (with_walk w m) b
  walk-laid y w = laid_from (with_walk w m) b (set-byte b T (get_or b 385 0) (drop 386 b) J (walk_over w (get_or b 385 0))) (tree_self b y h) refl refl

  -- the entry that the walk points at has a place
  pub has-place : (e : ℕ) (o : Option ℕ) → m.walk ≡ Some e → o ≡ position (is_entry e) m.entries → is_some o ≡ true
  has-place e o q p = placed (is_entry e) m.entries o p (true-any (is_entry e) m.entries (F.walks e q))

  -- ---- an entry joins

  module _ (e : ℕ) (he : e < 128) (out : has_entry e m.entries ≡ false) where
    pub room : (tree.size T < 128) × (in_order 0 (tree.read T) ≡ true)
    room = (omega (arith, read_length T, once.room 8191 m.entries F.range F.once e he out), F.order)

    pub joined : (x : ℕ) (t : List ℕ) → t ≡ tree.laid (inserted (pair e x) (tree.read T)) T → put_mid 0 385 b t ≡ laid (joins e x m) b
    joined x t q =
        let l = inserted (pair e x) m.entries in
        let n = trees.length-laid T long_tree l (omega (arith, inserted-length (pair e x) m.entries, read_length T, room.0)) in
        laid_from (joins e x m) b (put_tree b T (get_or b 385 0) (drop 386 b) J t (ap length q ∙ n)) q (walk_same (get_or b 385 0)) refl

  -- ---- an entry leaves

  -- the walk's byte is moved past it to s, then the tree becomes t
  module _ (e i : ℕ) (he : e < 128) (at : position (is_entry e) m.entries ≡ Some i) (w : Option ℕ) (s : List ℕ) (moved : s ≡ with_walk_past 385 b e w) where
    v : ℕ
    v = cond (eqb (get_or b 385 0) e) (walk_over w (get_or b 385 0)) (get_or b 385 0)

    J1 : Joined s T v (drop 386 b)
    unfolding v
    J1 = rw moved (go (eqb (get_or b 385 0) e))
      where
        go : (t : Bool) → Joined (cond t (inner.with_walk 385 b w) b) T (cond t (walk_over w (get_or b 385 0)) (get_or b 385 0)) (drop 386 b)
        go true = set-byte b T (get_or b 385 0) (drop 386 b) J (walk_over w (get_or b 385 0))
        go false = J

    -- the tree is as it was when the walk has moved
    tree_then : tree_part s ≡ T
    tree_then = tree_is s T v (drop 386 b) J1

    pub tree_stays : IsTree (tree_part s) × (i < tree.size (tree_part s))
    tree_stays = rw tree_then (is_tree, place_in T (is_entry e) i at)

    pub left : w ≡ goes_on (place_of e m.entries) → (t : List ℕ) → t ≡ tree.laid (removed_at i (tree.read (tree_part s))) (tree_part s) → put_mid 0 385 s t ≡ laid (leaves e m) b
    unfolding v
    left q t r =
        let is : t ≡ tree.laid (removed_at i m.entries) T = r ∙ ap (λ (z : List ℕ). tree.laid (removed_at i (tree.read z)) z) tree_then in
        let few : length (removed_at i m.entries) ≤ 128 = omega (arith, removed-length i m.entries (first_of (is_entry e) m.entries i at).within, read_length T, few_pairs) in
        laid_from (leaves e m) b
        (put_tree s T v (drop 386 b) J1 t (ap length is ∙ trees.length-laid T long_tree (removed_at i m.entries) few))
        (is ∙ ap (λ (k : List Pair). tree.laid k T) (removed-is T e i at (F.once e)))
        (past-over (get_or b 385 0) e w he ∙ ap (λ (o : Option ℕ). walk_over (moved_past e o m.walk) (get_or b 385 0)) q)
        refl

-- what the parts of whole bytes are
pub ruleset parts = (long, is_tree)

-- the pairs after an entry's place
pub ruleset after = (place_in, place-rest-at)
