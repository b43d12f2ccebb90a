-- What starting and continuing a walk come to.
use Prim.Native.Nat.{ℕ, suc, ◌<◌, ◌≤◌}
use mathlib.Core.Path.{◌≡◌, refl, sym, ap, ◌∙◌}
use mathlib.Core.List.{List}
use Rattle.std.specs.Prelude.{Option, None, Some, is_some, position, Ok}
use mathlib.Core.Bool.{Bool, true}
use native.Mathlib.Omega.{arith}
use lib.ListN.{get_or, drop}
use borrow.Author.Tests.{le-ltb}
use Rattle.state.specs.Outcome.{done, Bytes}
use Rattle.state.specs.Refusals.{up_to}
use Rattle.rx_msg.proofs.Calls.{up-to-is}
use Rattle.state.proofs.Outcomes.{Ends, laid_out}
use Rattle.entry_tree.specs.Pairs.{is_entry, has_entry, place_of}
use Rattle.entry_tree.specs.Places as tree
use Rattle.entry_tree.specs.Places.{size, subject_at}
use Rattle.entry_tree.specs.Walks.{first_on, next_on, walk_over}
use Rattle.regular.specs.Registry.{Registry}
use Rattle.regular.specs.Bytes.{active_part, inactive_part, queue_part, whole_b, read, laid}
use Rattle.regular.specs.Steps as steps
use Rattle.regular.specs.Steps.{hub_push_start, hub_push_next, push_next}
use Rattle.regular.specs.Calls.{on}
use Rattle.regular.proofs.Parts.{set-tail}
use Rattle.entry_tree.proofs.Count.{true-any}
use Rattle.regular_valid.proofs.Reading.{read-facts}
use Rattle.regular_valid.proofs.Round.{tail_of, split-whole, laid_from, laid_read, active-self, inactive-self, queue-self, low-self, high-self, flag-self}
use Rattle.entry_tree.specs.Inner.{with_walk}
use Rattle.entry_tree.proofs.Finding.{place-next}

-- the walk's byte
pub walk-laid : (s : List ℕ) → Bytes s → whole_b s ≡ true → (w : Option ℕ) → with_walk 1035 s w ≡ laid (steps.with_walk w (read s)) s
walk-laid s y h w =
    laid_from (steps.with_walk w (read s)) s
    (set-tail s (active_part s) (inactive_part s) (queue_part s) (tail_of s) (split-whole s y h) 3 (walk_over w (get_or s 1035 0)) (omega arith))
    (active-self s y h)
    (inactive-self s y h)
    (queue-self s y h)
    (low-self s y h)
    (high-self s y h)
    (flag-self s y h)
    refl

-- ---- starting

start_is : (x : ℕ) (m : Registry) (w : Option ℕ) → x ≤ 8191 → first_on x m.active ≡ w → hub_push_start x m ≡ done (is_some w) (steps.with_walk w m)
unfolding hub_push_start
start_is x m w h q = rw (le-ltb 8191 x h, q)

module _ (s : List ℕ) (h : whole_b s ≡ true) where
  pub started : Bytes s → (x y : ℕ) → up_to 8191 x ≡ Ok y → (w : Option ℕ) → w ≡ first_on y (tree.read (active_part s)) → (r : Bool) → r ≡ is_some w
      → (t : List ℕ) → t ≡ with_walk 1035 s w → Ends laid s (on (hub_push_start x) s) (Ok r) t
  started b x y q w f r z t v =
      let n = up-to-is 8191 x y q in
      laid_out whole_b read laid (hub_push_start x) s h r (steps.with_walk w (read s)) t
      (rw (← n.0, z) (start_is y (read s) w (omega arith) (sym f))) (v ∙ walk-laid s b h w)

-- ---- continuing

next-none : (m : Registry) → m.walk ≡ None → hub_push_next m ≡ done None m
unfolding hub_push_next
next-none m q = ap (λ (w : Option ℕ). push_next w m) q

next-is : (m : Registry) (e : ℕ) (w : Option ℕ) → m.walk ≡ Some e → next_on (place_of e m.active).subject (place_of e m.active).rest ≡ w
    → hub_push_next m ≡ done (Some (record { entry = e; more = is_some w })) (steps.with_walk w m)
unfolding hub_push_next
next-is m e w q v = rw (q, v) refl

module _ (s : List ℕ) (y : Bytes s) (h : whole_b s ≡ true) where
  pub next_nowhere : (read s).walk ≡ None → Ends laid s (on hub_push_next s) (Ok None) s
  next_nowhere w = laid_out whole_b read laid hub_push_next s h None (read s) s (next-none (read s) w) (sym (laid_read s y h))

  module _ (e : ℕ) (pointed : (read s).walk ≡ Some e) where
    pub pointed-there : has_entry e (tree.read (active_part s)) ≡ true
    pointed-there = true-any (is_entry e) (tree.read (active_part s)) ((read-facts s h).walks e pointed)

    pub next-pushed : (i : ℕ) → position (is_entry e) (tree.read (active_part s)) ≡ Some i → (w : Option ℕ) → w ≡ next_on (subject_at (active_part s) i) (drop (suc i) (tree.read (active_part s)))
        → (r : Bool) → r ≡ is_some w → (t : List ℕ) → t ≡ with_walk 1035 s w → Ends laid s (on hub_push_next s) (Ok (Some (record { entry = e; more = r }))) t
    next-pushed i q w v b f t z =
        let A = active_part s in
        let r : next_on (place_of e (tree.read A)).subject (place_of e (tree.read A)).rest ≡ w = place-next A e i q ∙ sym v in
        laid_out whole_b read laid hub_push_next s h (Some (record { entry = e; more = b })) (steps.with_walk w (read s)) t (rw f (next-is (read s) e w pointed r)) (z ∙ walk-laid s y h w)
