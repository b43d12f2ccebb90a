-- A test as a number; tests and lists over the numbers below n.
use Rattle.std.specs.Prelude.{ℕ, zero, suc, List, [], ◌∷◌, Bool, true, false, cond, ◌&&◌, ◌||◌}

abbrev pub to_nat : Bool → ℕ
to_nat b = cond b 1 0

-- f holds at each number below n
unfoldable pub all_b : ℕ → (ℕ → Bool) → Bool
all_b zero f = true
all_b (suc n) f = f n && all_b n f

-- f holds at some number below n
unfoldable pub some_b : ℕ → (ℕ → Bool) → Bool
some_b zero f = false
some_b (suc n) f = f n || some_b n f

-- f 0, f 1, .. below n
unfoldable pub each : {A : Type 0} → ℕ → (ℕ → A) → List A
each zero f = []
each (suc n) f = f 0 ∷ each n (λ k. f (suc k))
