-- Laws of a walk: the entries that it names, and the bytes that it leaves.
use Rattle.std.proofs.Common.{◌≡◌, ℕ, zero, suc, ◌+◌, ◌-◌, ◌<◌, ◌≤◌, Bool, true, false, List, [], ◌∷◌, ◌++◌, refl, sym, ap, append-nil, append_assoc, arith, ◌∙◌}
use Rattle.std.specs.Prelude.{Option, None, Some, Result, decimal, unwrap_or}
use Rattle.std.specs.Result.{result_ok}
use Rattle.state.specs.Outcome.{answer}
use Rattle.state.specs.declared.Refusal.{Refusal}
use Rattle.entry_tree.specs.declared.walk.Pushed.{Pushed}
use Rattle.regular.specs.Steps.{hub_push_next}
use Rattle.regular.specs.Calls.{on, bytes}
use Rattle.calls_line.specs.Lines.{spaced, of_pushed, next, more, named, walked}

pub named_end : (n : ℕ) (b : List ℕ) → named n false b ≡ []
unfolding named
named_end zero b = refl
named_end (suc n) b = refl

spaced-end : (n : ℕ) (b : List ℕ) → spaced (named n false b) ≡ []
unfolding spaced
spaced-end n b = rw (named_end n b) refl

pub walked_end : (n : ℕ) (b : List ℕ) → walked n false b ≡ b
unfolding walked
walked_end zero b = refl
walked_end (suc n) b = refl

-- ---- the entries that stand in `out`, and those that follow after i of 128

module _ (o w b : List ℕ) (i : ℕ) (e : o ++ spaced (named (128 - i) true b) ≡ w) where
  none-left : spaced (named (128 - i) true b) ≡ [] → o ≡ w
  none-left z = sym (append-nil o) ∙ rw z at e

  -- no more turns
  pub names_full : 128 ≤ i → o ≡ w
  unfolding named spaced
  names_full h =
      let z : 128 - i ≡ 0 = omega arith in
      none-left (rw z refl)

  -- one turn, whose step answers a
  module _ (h : i < 128) (a : Result (Option Pushed) Refusal) (q : a ≡ answer (on hub_push_next b)) where
    abbrev rest : Bool → List (List ℕ)
    rest t = named (128 - (i + 1)) t (bytes b (on hub_push_next b))

    turn : (p : Option Pushed) → unwrap_or (result_ok a) None ≡ p → spaced (named (128 - i) true b) ≡ spaced (of_pushed p ++ rest (more p))
    unfolding named
    turn p z =
        let n : 128 - i ≡ suc (128 - (i + 1)) = omega arith in
        rw (n, ← z, q) refl

    -- nothing is named
    pub names_stop : unwrap_or (result_ok a) None ≡ None → o ≡ w
    names_stop z = none-left (turn None z ∙ spaced-end (128 - (i + 1)) (bytes b (on hub_push_next b)))

    -- an entry is: a blank and its number then stand in o
    module _ (p : Pushed) (z : unwrap_or (result_ok a) None ≡ Some p) (o' : List ℕ) (u : o' ≡ (o ++ (32 ∷ [])) ++ decimal p.entry) where
      goes_on : o' ++ spaced (rest p.more) ≡ w
      unfolding spaced
      goes_on =
          ap (λ l. l ++ spaced (rest p.more)) (u ∙ append_assoc o (32 ∷ []) (decimal p.entry))
          ∙ append_assoc o (32 ∷ decimal p.entry) (spaced (rest p.more))
          ∙ ap (λ l. o ++ l) (sym (turn (Some p) z))
          ∙ e

      pub names_more : p.more ≡ true → (b' : List ℕ) → b' ≡ bytes b (on hub_push_next b) → o' ++ spaced (named (128 - (i + 1)) true b') ≡ w
      names_more t b' r = rw r (rw t at goes_on)

      pub names_last : p.more ≡ false → o' ≡ w
      names_last f =
          let g : o' ++ spaced (rest false) ≡ w = rw f at goes_on in
          sym (append-nil o') ∙ rw (spaced-end (128 - (i + 1)) (bytes b (on hub_push_next b))) at g

-- ---- the bytes left

module _ (b : List ℕ) (i : ℕ) where
  pub walked_more : i < 128 → walked (128 - i) true b ≡ walked (128 - (i + 1)) (more (next b)) (bytes b (on hub_push_next b))
  unfolding walked
  walked_more h =
      let z : 128 - i ≡ suc (128 - (i + 1)) = omega arith in
      rw z refl

  pub walked_full : 128 ≤ i → walked (128 - i) true b ≡ b
  unfolding walked
  walked_full h =
      let z : 128 - i ≡ 0 = omega arith in
      rw z refl
