-- Lists of bytes: their parts, and one after the other.
use Prim.Native.Nat.{ℕ, zero, suc, ◌+◌}
use mathlib.Core.List.{List, [], ◌∷◌, ◌++◌}
use native.Mathlib.Omega.{arith}
use lib.ListN.{take, drop}
use lib.Seq.{get_or-drop}
use Rattle.state.specs.Outcome.{Bytes}

bytes_take : (n : ℕ) (l : List ℕ) → Bytes l → Bytes (take n l)
bytes_take zero l y i = omega arith
bytes_take (suc n) [] y i = omega arith
bytes_take (suc n) (x ∷ l) y zero = y 0
bytes_take (suc n) (x ∷ l) y (suc i) = bytes_take n l (λ j. y (suc j)) i

pub bytes-part : (k n : ℕ) (b : List ℕ) → Bytes b → Bytes (take n (drop k b))
bytes-part k n b y = bytes_take n (drop k b) (λ i. rw (get_or-drop k b i 0) (y (k + i)))

pub bytes-append : (l k : List ℕ) → Bytes l → Bytes k → Bytes (l ++ k)
bytes-append [] k y z i = z i
bytes-append (x ∷ l) k y z zero = y 0
bytes-append (x ∷ l) k y z (suc i) = bytes-append l k (λ j. y (suc j)) z i
