-- Laws of Bool tests.
use Prim.Native.Nat.{ℕ}
use mathlib.Core.Path.{◌≡◌, refl, sym}
use mathlib.Core.Logic.{◌⊎◌, inl, inr}
use mathlib.Core.Bool.{Bool, true, false, cond, ◌&&◌, ◌||◌}
use native.Mathlib.Omega.{arith}
use mir.Val.{Fits}
use mir.Syntax.{w8, w32, w64}

pub byte_fits : {x : ℕ} → Fits w8 x → Fits w64 x
byte_fits h = omega arith

pub byte_fits32 : {x : ℕ} → Fits w8 x → Fits w32 x
byte_fits32 h = omega arith

pub not-both : {A : Type 0} → true ≡ false → A
not-both h = absurd (let z : ◌≡◌ {A = ℕ} 0 1 = cc in omega arith)

pub false_of : (b : Bool) → (b ≡ true → ⊥) → b ≡ false
false_of true h = absurd (h refl)
false_of false h = refl

-- two tests that are true together are the same
pub same_test : (a b : Bool) → (a ≡ true → b ≡ true) → (b ≡ true → a ≡ true) → a ≡ b
same_test true true f g = refl
same_test true false f g = sym (f refl)
same_test false true f g = g refl
same_test false false f g = refl

pub and_l : (a b : Bool) → (a && b) ≡ true → a ≡ true
and_l true b h = refl
and_l false b h = h

pub and_r : (a b : Bool) → (a && b) ≡ true → b ≡ true
and_r true b h = h
and_r false b h = not-both (sym h)

pub and-true : (a b : Bool) → a ≡ true → b ≡ true → (a && b) ≡ true
and-true a b p q = rw (p, q)

pub and4 : (a b c d : Bool) → (a && (b && (c && d))) ≡ true → (a ≡ true) × (b ≡ true) × (c ≡ true) × (d ≡ true)
and4 a b c d h =
    let h2 : (b && (c && d)) ≡ true = and_r a (b && (c && d)) h in
    let h3 : (c && d) ≡ true = and_r b (c && d) h2 in
    (and_l a (b && (c && d)) h, and_l b (c && d) h2, and_l c d h3, and_r c d h3)

pub or_split : (a b : Bool) → (a || b) ≡ true → (a ≡ true) ⊎ (b ≡ true)
or_split true b h = inl refl
or_split false b h = inr h

-- a choice, by cases on its test
pub by_cond : {A : Type 0} (P : A → Type 0) (t : Bool) {a b : A} → (t ≡ true → P a) → (t ≡ false → P b) → P (cond t a b)
by_cond P true f g = f refl
by_cond P false f g = g refl
