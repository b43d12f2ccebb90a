-- How often an entry stands in a queue after each change.
use Prim.Native.Nat.{ℕ, suc, ◌≤◌}
use mathlib.Core.Path.{◌≡◌, refl, sym, ◌∙◌}
use mathlib.Core.Logic.{◌≢◌}
use mathlib.Core.List.{List, [], ◌∷◌, ◌++◌}
use mathlib.Core.Bool.{Bool, true, false, cond}
use native.Mathlib.Omega.{arith}
use native.Mathlib.Decide.{ℕ_discrete}
use Rattle.state.specs.Seq.{to_nat}
use Rattle.multi_cycle_list.specs.Lists.{count}
use Rattle.multi_cycle_list.proofs.Lists.{count_same, count-other, count-append}

pub count-first : (e : ℕ) (l : List ℕ) → count e (e ∷ l) ≡ suc (count e l)
count-first e l = count_same e e l refl

pub count-le : (e x : ℕ) (l : List ℕ) → count e l ≤ count e (x ∷ l)
count-le e x l = elim (ℕ_discrete x e) [ yes q ↦ omega (arith, count_same e x l q) | no q ↦ omega (arith, count-other e x l q) ]

pub count-nil : (e : ℕ) → count e [] ≡ 0
unfolding count
count-nil e = refl

-- a number that joins at the back
pub count-back : (x e : ℕ) (l : List ℕ) → x ≢ e → count x (l ++ (e ∷ [])) ≡ count x l
count-back x e l n = omega (arith, count-append x l (e ∷ []), count-other x e [] (λ q. n (sym q)), count-nil x)

pub count-joined : (e : ℕ) (l : List ℕ) → count e (l ++ (e ∷ [])) ≡ suc (count e l)
count-joined e l = omega (arith, count-append e l (e ∷ []), count-first e [], count-nil e)

-- a number that may join
pub count_maybe_other : (x y : ℕ) (b : Bool) → x ≢ y → count x (cond b (y ∷ []) []) ≡ 0
count_maybe_other x y true n = count-other x y [] (λ q. n (sym q)) ∙ count-nil x
count_maybe_other x y false n = count-nil x

pub count_maybe : (y : ℕ) (b : Bool) → count y (cond b (y ∷ []) []) ≡ to_nat b
count_maybe y true = omega (arith, count-first y [], count-nil y)
count_maybe y false = count-nil y
