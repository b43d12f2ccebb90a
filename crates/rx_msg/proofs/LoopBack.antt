-- What the loop-back calls' answers stand on.
use Prim.Native.Nat.{ℕ}
use mathlib.Core.Path.{◌≡◌, sym, ◌∙◌}
use mathlib.Core.List.{List}
use mathlib.Core.Bool.{Bool, true}
use native.Mathlib.Omega.{arith}
use Rattle.std.proofs.lemmas.Grind.{common_steps}
use Rattle.std.specs.Prelude.{Option, None, Some, is_some, position, Ok}
use Rattle.state.specs.Refusals.{up_to}
use Rattle.state.specs.Outcome.{Bytes}
use Rattle.state.proofs.Outcomes.{Ends, laid_out}
use Rattle.entry_tree.specs.Pairs.{is_entry, has_entry, place_of}
use Rattle.entry_tree.specs.Places as tree
use Rattle.entry_tree.specs.Walks.{first_on}
use Rattle.entry_tree.specs.Inner as inner
use Rattle.entry_tree.proofs.Lists.{any-position}
use Rattle.loop_back.specs.Registry.{Registry}
use Rattle.loop_back.specs.Bytes.{whole_b, read, laid}
use Rattle.loop_back.specs.Steps.{goes_on, with_walk, hub_push_start, hub_push_next}
use Rattle.loop_back.specs.Calls.{on}
use Rattle.loop_back.proofs.Mean.{laid_read}
use Rattle.loop_back.proofs.Acts.{walk-laid}

-- an entry is registered just if it has a place
pub registered : (t : List ℕ) (e : ℕ) → has_entry e (tree.read t) ≡ is_some (position (is_entry e) (tree.read t))
registered t e = sym (any-position (is_entry e) (tree.read t))

pub ruleset steps = (common_steps, registered)

-- a walk goes to w: r is what the code says of that, and t are the bytes that it leaves
module _ (s : List ℕ) (h : whole_b s ≡ true) (y : Bytes s) where
  abbrev m : Registry
  m = read s

  module _ (w : Option ℕ) (r : Bool) (says : r ≡ is_some w) (t : List ℕ) (written : t ≡ inner.with_walk 385 s w) where
    pub started : (x k : ℕ) → up_to 8191 x ≡ Ok k → w ≡ first_on k m.entries → Ends laid s (on (hub_push_start x) s) (Ok r) t
    unfolding hub_push_start
    started x k q f = laid_out whole_b read laid (hub_push_start x) s h r (with_walk w m) t (grind (arith, q, f, says)) (written ∙ walk-laid s h y w)

    pub pushed : (e : ℕ) → m.walk ≡ Some e → w ≡ goes_on (place_of e m.entries) → Ends laid s (on hub_push_next s) (Ok (Some (record { entry = e; more = r }))) t
    unfolding hub_push_next
    pushed e q f = laid_out whole_b read laid hub_push_next s h (Some (record { entry = e; more = r })) (with_walk w m) t (rw (q, says, f)) (written ∙ walk-laid s h y w)

  pub nowhere : m.walk ≡ None → Ends laid s (on hub_push_next s) (Ok None) s
  unfolding hub_push_next
  nowhere q = laid_out whole_b read laid hub_push_next s h None m s (rw q) (sym (laid_read s y h))
