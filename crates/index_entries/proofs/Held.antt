-- The entry that has a key, by the index; and what an entry holds, by its word.
use Prim.Native.Nat.{ℕ, ◌-◌, ◌<◌, ◌≤◌}
use mathlib.Core.Path.{◌≡◌, ap, ◌∙◌}
use mathlib.Core.Bool.{true}
use mathlib.Core.List.{List}
use native.Mathlib.Omega.{arith}
use borrow.Author.Tests.{lt-ltb, le-ltb}
use Rattle.std.specs.Prelude.{Some, None}
use Rattle.index_entries.specs.Keys.{slot, found}
use Rattle.index_entries.specs.Bytes.{k_max, entries, key_word, value, index, read, whole_b}
use Rattle.index_entries.specs.Inner.{index_of, held_of}
use Rattle.index_entries.specs.declared.look.Held.TheVariants.{Value, Spent, Free}
use Rattle.index_entries.proofs.Facts.{facts_of, slot_in, found-index, found-no-index, found-past}

module _ (s : List ℕ) (k : ℕ) (h : whole_b s ≡ true) where
  pub index_in : k ≤ k_max s → index (entries s) s k < entries s → index_of (found (read s) k) ≡ Some (index (entries s) s k)
  index_in a b = ap index_of (found-index s (facts_of s h) k a b)

  pub index_out : entries s ≤ index (entries s) s k → index_of (found (read s) k) ≡ None
  index_out a = ap index_of (found-no-index s (facts_of s h) k a)

  pub index_past : k_max s < k → index_of (found (read s) k) ≡ None
  index_past a = ap index_of (found-past s (facts_of s h) k a)

module _ (s : List ℕ) (i : ℕ) (h : i < entries s) where
  pub held_value : key_word (entries s) s i < 8192 → held_of (slot (read s) i) ≡ Value (key_word (entries s) s i) (value (entries s) s i)
  held_value l = ap held_of (slot_in s i h) ∙ rw (lt-ltb (key_word (entries s) s i) 8192 l)

  pub held_spent : 8192 ≤ key_word (entries s) s i → key_word (entries s) s i < 16384 → held_of (slot (read s) i) ≡ Spent (key_word (entries s) s i - 8192)
  held_spent a b = ap held_of (slot_in s i h) ∙ rw (le-ltb (key_word (entries s) s i) 8192 a, lt-ltb (key_word (entries s) s i) 16384 b)

  pub held_free : 16384 ≤ key_word (entries s) s i → held_of (slot (read s) i) ≡ Free
  held_free a = ap held_of (slot_in s i h) ∙ rw (le-ltb (key_word (entries s) s i) 8192 (omega arith), le-ltb (key_word (entries s) s i) 16384 a)

pub ruleset looks = (index_in, index_out, index_past, held_value, held_spent, held_free)
