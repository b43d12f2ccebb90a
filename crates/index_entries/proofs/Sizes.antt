-- What whole bytes have for sizes.
use Prim.Native.Nat.{ℕ, ◌≤◌}
use mathlib.Core.Path.{◌≡◌}
use mathlib.Core.Bool.{true}
use mathlib.Core.List.{List}
use lib.ListN.{length}
use Rattle.state.specs.Lengths.{keys_length}
use Rattle.index_entries.specs.Bytes.{k_max, entries, whole_b}
use Rattle.index_entries.proofs.Facts.{facts_of}

module _ (s : List ℕ) (h : whole_b s ≡ true) where
  pub length_is : length s ≡ keys_length (k_max s) (entries s)
  length_is = (facts_of s h).len

  pub few_entries : entries s ≤ 222
  few_entries = (facts_of s h).few

  pub low_keys : k_max s ≤ 8191
  low_keys = (facts_of s h).low

pub ruleset sizes = (length_is, few_entries, low_keys)
