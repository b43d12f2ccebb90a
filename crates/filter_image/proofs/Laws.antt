-- Laws of images: an image holds the set that it was made of, and is the image of the set that it holds.
use Prim.Native.Nat.{ℕ, zero, suc, ◌+◌, ◌*◌, ◌/◌, ◌%◌, ◌^◌, ◌<◌, ◌≤◌}
use mathlib.Core.Path.{◌≡◌, refl, sym, ap, ◌∙◌}
use mathlib.Core.Logic.{◌≢◌}
use mathlib.Core.Bool.{false}
use mathlib.Core.List.{List, ◌∷◌}
use native.Mathlib.Omega.{arith}
use native.Mathlib.Nat.{zero-div}
use native.Mathlib.Decide.{dec_lt}
use borrow.Author.Tests.{eq-eqb}
use lib.Dec.{lit<}
use lib.ListN.{length, get_or, set, replicate, get_or-eq_default}
use Rattle.state.specs.Seq.{each}
use Rattle.state.specs.Outcome.{Bytes}
use Rattle.state.proofs.Seq.{get_d_each, length-each, each_get_d, each_same, set-each}
use Rattle.emcyphal_core.specs.Sets.{has, bits, set_of}
use Rattle.emcyphal_core.proofs.Laws.{member, small, whole, same}
use Rattle.filter_image.specs.Image.{Subjects, holds, byte_of, image_of, none, opening, bytes}

-- the subject 8 i + p is bit p of byte i
pub at_bit : (b : List ℕ) (i p : ℕ) → p < 8 → holds b (8 * i + p) ≡ has (get_or b i 0) p
at_bit b i p l = let d : (8 * i + p) / 8 ≡ i = omega arith in let r : (8 * i + p) % 8 ≡ p = omega arith in rw (d, r)

-- ---- the image of a set

pub length-image : (f : Subjects) → length (image_of f) ≡ 1024
unfolding image_of
length-image f = length-each 1024 (byte_of f)

-- byte i of it
image-byte : (f : Subjects) (i : ℕ) → i < 1024 → get_or (image_of f) i 0 ≡ set_of (λ p. f (8 * i + p))
unfolding image_of
image-byte f i l = get_d_each 1024 (byte_of f) i 0 l

past-image : (f : Subjects) (i : ℕ) → 1024 ≤ i → get_or (image_of f) i 0 ≡ 0
past-image f i l = get_or-eq_default (image_of f) 0 {n = i} (omega (arith, length-image f))

pub holds-image : (f : Subjects) (x : ℕ) → x < 8192 → holds (image_of f) x ≡ f x
holds-image f x l =
    let e : 8 * (x / 8) + x % 8 ≡ x = omega arith in
    rw (image-byte f (x / 8) (omega arith)) (member (λ p. f (8 * (x / 8) + p)) (x % 8) (omega arith) ∙ ap f e)

pub holds-past : (f : Subjects) (x : ℕ) → 8192 ≤ x → holds (image_of f) x ≡ false
holds-past f x l = rw (past-image f (x / 8) (omega arith), zero-div (2 ^ (x % 8)))

pub image-bytes : (f : Subjects) → Bytes (image_of f)
image-bytes f i = elim (dec_lt i 1024) [ yes l ↦ rw (image-byte f i l) (small (λ p. f (8 * i + p))) | no h ↦ rw (past-image f i (omega arith)) (lit< tt) ]

-- sets with the same subjects have the same image
pub image-same : (f g : Subjects) → ((x : ℕ) → x < 8192 → f x ≡ g x) → image_of f ≡ image_of g
unfolding image_of
image-same f g h =
    each_same 1024 (byte_of f) (byte_of g)
    (λ i l. same (λ p. f (8 * i + p)) (λ p. g (8 * i + p)) (λ p k. h (8 * i + p) (omega arith)))

-- ---- the set of an image

byte-holds : (b : List ℕ) (i : ℕ) → Bytes b → byte_of (holds b) i ≡ get_or b i 0
byte-holds b i y = same (λ p. holds b (8 * i + p)) (has (get_or b i 0)) (at_bit b i) ∙ whole (get_or b i 0) (y i)

pub image_holds : (b : List ℕ) → length b ≡ 1024 → Bytes b → image_of (holds b) ≡ b
unfolding image_of
image_holds b l y = each_same 1024 (byte_of (holds b)) (λ i. get_or b i 0) (λ i k. byte-holds b i y) ∙ (rw l at (each_get_d 0 b))

-- byte i becomes v: the image of g, whose subjects are those of v there and the old ones elsewhere
pub set-image : (b : List ℕ) (i v : ℕ) (g : Subjects) → length b ≡ 1024 → Bytes b → i < 1024 → v ≡ set_of (λ p. g (8 * i + p))
    → ((x : ℕ) → x / 8 ≢ i → g x ≡ holds b x) → set b i v ≡ image_of g
unfolding image_of
set-image b i v g l y a here there =
    let e : each 1024 (λ k. get_or b k 0) ≡ b = rw l at (each_get_d 0 b) in
    ap (λ (t : List ℕ). set t i v) (sym e)
    ∙ set-each 1024 (λ k. get_or b k 0) (byte_of g) i v
    (sym here)
    (λ k n. same (λ p. g (8 * k + p)) (has (get_or b k 0)) (λ p q. there (8 * k + p) (omega arith) ∙ at_bit b k p q) ∙ whole (get_or b k 0) (y k))
    a

-- ---- the empty image

each-zero : (n : ℕ) → each n (byte_of none) ≡ replicate n 0
unfolding each bits
each-zero zero = refl
each-zero (suc n) = ap (λ (t : List ℕ). 0 ∷ t) (each-zero n)

pub fresh-image : replicate {A = ℕ} 1024 0 ≡ image_of none
unfolding image_of
fresh-image = sym (each-zero 1024)

pub holds-none : (b : List ℕ) → b ≡ image_of none → (x : ℕ) → holds b x ≡ false
holds-none b e x = rw e (elim (dec_lt x 8192) [ yes l ↦ holds-image none x l | no h ↦ holds-past none x (omega arith) ])

-- opening leaves the image of no subject
pub opened-none : (b : List ℕ) → length b ≡ 1024 → image_of none ≡ bytes b (opening b)
unfolding opening
opened-none b h = rw (eq-eqb (length b) 1024 h) refl
