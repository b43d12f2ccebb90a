-- The bytes of lists: what `read` of specs/Nodes.antt reads back.
use Rattle.std.specs.Prelude.{ℕ, zero, suc, ◌+◌, List, [], ◌∷◌, ◌++◌, cond, length, eqb}
use Rattle.multi_cycle_list.specs.Lists.{Lists}

-- an arc from a node to a node
pub data Arc : Type 0 where
  arc : ℕ → ℕ → Arc

-- from the node a by the entries es to the node b
unfoldable pub path : ℕ → ℕ → List ℕ → ℕ → List Arc
path C a [] b = arc a b ∷ []
path C a (e ∷ es) b = arc a (C + e) ∷ path C (C + e) es b

-- for each class, counted from k: from the class by its entries back to it
unfoldable pub arcs : ℕ → ℕ → List (List ℕ) → List Arc
arcs C k [] = []
arcs C k (r ∷ rs) = path C k r k ++ arcs C (suc k) rs

-- where the arc from i leads; where the arc to i comes from; i itself where there is none
unfoldable pub after : List Arc → ℕ → ℕ
after [] i = i
after (arc a b ∷ l) i = cond (eqb a i) b (after l i)

unfoldable pub before : List Arc → ℕ → ℕ
before [] i = i
before (arc a b ∷ l) i = cond (eqb b i) a (before l i)

-- f 0, g 0, f 1, g 1, .. below n
unfoldable pub twos : ℕ → (ℕ → ℕ) → (ℕ → ℕ) → List ℕ
twos zero f g = []
twos (suc n) f g = f 0 ∷ (g 0 ∷ twos n (λ k. f (suc k)) (λ k. g (suc k)))

unfoldable pub laid_out : ℕ → ℕ → List Arc → List ℕ
laid_out C E l = (C ∷ (E ∷ [])) ++ twos (C + E) (after l) (before l)

abbrev pub laid : Lists → List ℕ
laid m = laid_out (length m.rows) m.entries (arcs (length m.rows) 0 m.rows)
