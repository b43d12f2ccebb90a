-- How often an entry stands in the second of two lists after each change.
use Prim.Native.Nat.{ℕ}
use mathlib.Core.Path.{◌≡◌, refl, sym, ap, ◌∙◌}
use mathlib.Core.Logic.{◌≢◌}
use mathlib.Core.List.{List, [], ◌∷◌, ◌++◌}
use native.Mathlib.Omega.{arith}
use lib.ListN.{length, get_or, length-map, get_or-map}
use lib.Seq.{get_or-set_same, get_or-set_other}
use Rattle.multi_cycle_list.specs.Lists.{Lists, count, without, removed, row, without_entry, moved_front, moved_back}
use Rattle.multi_cycle_list.proofs.Lists.{count_same, count-other}

pub count-one : (e x : ℕ) → e ≢ x → count e (x ∷ []) ≡ 0
unfolding count
count-one e x n = count-other e x [] (λ z. n (sym z))

pub count-self : (e : ℕ) → count e (e ∷ []) ≡ 1
unfolding count
count-self e = count_same e e [] refl

module _ (e : ℕ) (m : Lists) where
  removed-row : (c : ℕ) → get_or (removed e m.rows) c [] ≡ without e (row m c)
  unfolding without
  removed-row c = get_or-map (without e) m.rows c []

  pub gone-row : row (without_entry e m) 1 ≡ without e (row m 1)
  gone-row = removed-row 1

  pub front-row : row (moved_front 0 e m) 1 ≡ without e (row m 1)
  front-row = get_or-set_other (removed e m.rows) 0 1 (e ∷ get_or (removed e m.rows) 0 []) [] (omega arith) ∙ removed-row 1

  pub back-row : row (moved_back 0 e m) 1 ≡ without e (row m 1)
  back-row = get_or-set_other (removed e m.rows) 0 1 (get_or (removed e m.rows) 0 [] ++ (e ∷ [])) [] (omega arith) ∙ removed-row 1

  pub freed-row : length m.rows ≡ 2 → row (moved_back 1 e m) 1 ≡ without e (row m 1) ++ (e ∷ [])
  freed-row h =
      get_or-set_same (removed e m.rows) 1 (get_or (removed e m.rows) 1 [] ++ (e ∷ [])) [] (omega (arith, length-map m.rows (without e)))
      ∙ ap (λ (l : List ℕ). l ++ (e ∷ [])) (removed-row 1)
