-- What the inner functions require and answer. No contract of a public call cites this.
use Rattle.std.specs.Prelude.{ℕ, ◌+◌, ◌<◌, ◌≤◌, ◌≡◌, List, Bool, true, length, get_or, eqb}
use Rattle.state.specs.Lengths.{keys_length}
use Rattle.index_entries.specs.Bytes.{k_max, entries, is_listed, lists_b}

-- the sizes that the bytes name are allowed, and the length is theirs
pub record Sized (b : List ℕ) : Type 0 where
  pub few : entries b ≤ 222
  pub most : k_max b ≤ 8191
  pub long : length b ≡ keys_length (k_max b) (entries b)

-- the mark of an entry is 2 exactly if it is free
abbrev pub Freed : List ℕ → List ℕ → Type 0
Freed b seen = (i : ℕ) → i < entries b → eqb (get_or seen (2 + i) 0) 2 ≡ is_listed b i

-- a test of the list part, which leaves the marks
pub record Listed (b seen : List ℕ) (r : Bool) : Type 0 where
  pub test : r ≡ lists_b b
  pub freed : r ≡ true → Freed b seen
