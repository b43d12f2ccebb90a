-- Two rules that agree on a table, which antt computes, agree at each number below its size. Assumes nothing.
use mathlib.Core.Path.{◌≡◌}
use mathlib.Core.List.{List, [], ◌∷◌}
use mathlib.Core.Logic.{◌⊎◌, inl, inr}
use Prim.Native.Nat.{ℕ, zero, suc, ◌<◌}
use native.Mathlib.Nat.{eq-or-lt_of_le}
use native.Mathlib.Omega.{arith}

abbrev pub tab : {A : Type 0} → ℕ → (ℕ → A) → List A
tab zero f = []
tab (suc n) f = f n ∷ tab n f

pub agree : {A : Type 0} (n : ℕ) (f g : ℕ → A) → tab n f ≡ tab n g → (i : ℕ) → i < n → f i ≡ g i
agree zero f g e i l = absurd (omega arith)
agree (suc n) f g e i l = go (agree n f g (cc) i) (eq-or-lt_of_le (omega arith))
  where
    go : (i < n → f i ≡ g i) → (i ≡ n) ⊎ (i < n) → f i ≡ g i
    go h (inl q) = rw q (cc)
    go h (inr q) = h q

-- the same of two numbers
pub agree2 : {A : Type 0} (m n : ℕ) (f g : ℕ → ℕ → A) → tab m (λ x. tab n (f x)) ≡ tab m (λ x. tab n (g x)) → (x : ℕ) → x < m → (y : ℕ) → y < n → f x y ≡ g x y
agree2 m n f g e x l = agree n (f x) (g x) (agree m (λ x. tab n (f x)) (λ x. tab n (g x)) e x l)
