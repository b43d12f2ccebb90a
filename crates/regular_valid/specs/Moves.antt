-- Document 01's two lists of registered pairs, *waiting* and *active*, and how they move.
use Rattle.std.specs.Prelude.{ℕ, List, [], ◌∷◌, ◌++◌, cond, not, ◌&&◌}
use Rattle.entry_tree.specs.Pairs.{Pair, has_subject, without}

pub record Registered : Type 0 where
  pub waiting : List Pair
  pub active : List Pair

abbrev pub lists : List Pair → List Pair → Registered
lists w a = record { waiting = w; active = a }

-- an accepted registering joins active if its subject is there and not in waiting, else the back of waiting
abbrev pub joined : Pair → Registered → Registered
joined p r = cond (has_subject p.subject r.active && not (has_subject p.subject r.waiting)) (lists r.waiting (r.active ++ (p ∷ []))) (lists (r.waiting ++ (p ∷ [])) r.active)

-- an accepted removal takes its entry out
abbrev pub taken : ℕ → Registered → Registered
taken e r = lists (without e r.waiting) (without e r.active)

-- pairs move from the front of waiting to active until one has brought a subject new there or none is left
abbrev pub activated : List Pair → List Pair → Registered
activated [] active = lists [] active
activated (p ∷ waiting) active = cond (has_subject p.subject active) (activated waiting (active ++ (p ∷ []))) (lists waiting (active ++ (p ∷ [])))
