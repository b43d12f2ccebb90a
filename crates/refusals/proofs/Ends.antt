-- How a call may end: laws of the form that all calls share.
use Prim.Native.Nat.{ℕ}
use mathlib.Core.Path.{◌≡◌, refl, sym, subst}
use mathlib.Core.Bool.{Bool, true, cond, ◌&&◌}
use mathlib.Core.List.{List}
use native.Mathlib.Omega.{arith}
use lib.Dec.{leb}
use borrow.Author.Tests.{leb-true}
use Rattle.state.specs.declared.Refusal as state
use Rattle.state.specs.Outcome as outcome
use Rattle.state.specs.Outcome.{Outcome, refuse, done, called}
use Rattle.state.proofs.Tests.{by_cond, and_l, and_r}
use Rattle.gomxeli.specs.Answers as packing
use Rattle.gomxeli.specs.Answers.{packed, number}
use Rattle.gomxeli.specs.Calls.{reads, writes}
use Rattle.gomxeli.proofs.Fields.{number_of, refusal_of}
use Rattle.refusals.specs.Refusals.{among, Refusal, Answered, result, refused}

-- a number of document 01's table that is one of l, and an answer whose number is 0
abbrev pub is_refusal : List ℕ → ℕ → Bool
is_refusal l n = leb 1 n && (leb n 16 && among n l)

pub numbered : (l : List ℕ) (n : ℕ) → is_refusal l n ≡ true → Refusal l (packed n 0 0 0)
numbered l n h =
    let s = and_r (leb 1 n) (leb n 16 && among n l) h in
    let least = leb-true 1 n (and_l (leb 1 n) (leb n 16 && among n l) h) in
    let most = leb-true n 16 (and_l (leb n 16) (among n l) s) in
    record {
      listed = subst (λ a. among a l ≡ true) (sym (refusal_of n)) (and_r (leb n 16) (among n l) s);
      least = omega (arith, least, number_of n 0 0 0 (omega (arith, most)));
      most = omega (arith, most, number_of n 0 0 0 (omega (arith, most)));
    }

pub zero_number : (w x y : ℕ) → number (packed 0 w x y) ≡ 0
zero_number w x y = number_of 0 w x y (omega arith)

-- a refusal is one of l, and the number of any other answer is 0
pub data Ends {A M : Type 0} (l : List ℕ) (fields : A → ℕ) : Outcome A M → Type 0 where
  refuses : {r : state.Refusal} → Refusal l (packing.refused r) → Ends l fields (refuse r)
  answers : {a : A} {m : M} → number (fields a) ≡ 0 → Ends l fields (done a m)

module _ {A M : Type 0} {l : List ℕ} {fields : A → ℕ} where
  pub either : (t : Bool) {o p : Outcome A M} → Ends l fields o → Ends l fields p → Ends l fields (cond t o p)
  either t x y = by_cond (Ends l fields) t (λ h. x) (λ h. y)

  -- a refusal that is its number n alone
  pub alone : (n : ℕ) {r : state.Refusal} → packed n 0 0 0 ≡ packing.refused r → is_refusal l n ≡ true → Ends {M = M} l fields (refuse r)
  alone n e h = refuses (subst (Refusal l) e (numbered l n h))

  pub on-bytes : (whole : List ℕ → Bool) (read : List ℕ → M) (g : M → Outcome A M) (b : List ℕ) → is_refusal l 1 ≡ true → ((m : M) → Ends l fields (g m)) → Ends l fields (called whole read g b)
  on-bytes whole read g b p h = either (whole b) (h (read b)) (alone 1 refl p)

  pub asked : {b : List ℕ} {o : Outcome A M} → Ends l fields o → Answered l b (reads fields b o)
  asked (refuses p) = refused _ p
  asked (answers p) = result _ p

  pub changed : (laid : M → List ℕ → List ℕ) {b : List ℕ} {o : Outcome A M} → Ends l fields o → Answered l b (writes fields (outcome.bytes laid) b o)
  changed laid (refuses p) = refused _ p
  changed laid (answers p) = result _ p
