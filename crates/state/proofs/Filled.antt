-- A list of one byte many times.
use Prim.Native.Nat.{ℕ, zero, suc, ◌<◌}
use mathlib.Core.Path.{◌≡◌, sym, ◌∙◌}
use mathlib.Core.List.{List}
use native.Mathlib.Omega.{arith}
use lib.ListN.{length, get_or, replicate, length-replicate, get_or-replicate}
use lib.Seq.{ext_get_or}
use Rattle.state.specs.Outcome.{Bytes}

pub filled-all : (s : List ℕ) (n v : ℕ) → length s ≡ n → ((k : ℕ) → k < length s → get_or s k 0 ≡ v) → s ≡ replicate n v
filled-all s n v q f = ext_get_or 0 s (replicate n v) (q ∙ sym (length-replicate {A = ℕ} n v)) (λ k l. f k l ∙ sym (get_or-replicate {A = ℕ} n k v 0 (omega arith)))

pub zero-bytes : (n : ℕ) → Bytes (replicate n 0)
zero-bytes zero i = omega arith
zero-bytes (suc n) zero = omega arith
zero-bytes (suc n) (suc i) = zero-bytes n i
