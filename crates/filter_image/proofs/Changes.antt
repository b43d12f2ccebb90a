-- What each store leaves: the image of the changed set.
use Prim.Native.Nat.{ℕ, ◌+◌, ◌*◌, ◌-◌, ◌/◌, ◌%◌, ◌^◌, ◌<◌, ◌≤◌}
use mathlib.Core.Path.{◌≡◌, refl, sym, ap, ◌∙◌}
use mathlib.Core.Bool.{false, not, ◌&&◌, ◌||◌, and_comm, or_comm, and-false}
use mathlib.Core.List.{List}
use native.Mathlib.Omega.{arith}
use native.Mathlib.Decide.{ℕ_discrete, dec_lt}
use lib.Bits.{bit_and, bit_or}
use lib.Dec.{eqb, leb}
use lib.ListN.{length, get_or, set}
use borrow.Author.Tests.{eq-eqb, ne_eqb, le-leb, lt-leb}
use Rattle.state.specs.Outcome.{Bytes}
use Rattle.emcyphal_core.specs.Sets.{has, bits, set_of}
use Rattle.emcyphal_core.proofs.Tables.{agree2}
use Rattle.emcyphal_core.proofs.Laws.{same, of_members, meet, join, only}
use Rattle.filter_image.specs.Image.{Subjects, holds, image_of, with, without_range}
use Rattle.filter_image.proofs.Laws.{at_bit, holds-image, length-image, image-bytes, image-same, image_holds, set-image}

-- ---- a subject more

-- the bit of x, seen in its byte
own_bit : (x p : ℕ) → p < 8 → eqb p (x % 8) ≡ eqb (8 * (x / 8) + p) x
own_bit x p l = elim (ℕ_discrete p (x % 8)) [
  | yes e ↦ rw (eq-eqb p (x % 8) e, eq-eqb (8 * (x / 8) + p) x (omega arith))
  | no n ↦ rw (ne_eqb p (x % 8) n, ne_eqb (8 * (x / 8) + p) x (λ q. omega arith))
]

pub added : (b : List ℕ) (x : ℕ) → length b ≡ 1024 → Bytes b → x ≤ 8191
    → set b (x / 8) (bit_or (get_or b (x / 8) 0) (1 * 2 ^ (x % 8) % 256)) ≡ image_of (with x (holds b))
added b x l y a =
    let i = x / 8 in
    let v = get_or b i 0 in
    let m = 1 * 2 ^ (x % 8) % 256 in
    let f : Subjects = λ p. eqb p (x % 8) in
    set-image b i (bit_or v m) (with x (holds b)) l y (omega arith)
    (of_members ◌||◌ v m (bit_or v m) f (only (x % 8) (omega arith)) (join v m (y i) (omega arith))
    ∙ same (λ p. has v p || f p) (λ p. with x (holds b) (8 * i + p)) (λ p k. or_comm (has v p) (f p) ∙ rw (own_bit x p k, at_bit b i p k)))
    (λ z n. rw (ne_eqb z x (λ q. n (ap (λ (k : ℕ). k / 8) q))))

-- ---- the subjects of a range less

out : (a z : ℕ) (f : Subjects) (y : ℕ) → (a ≤ y → y ≤ z → ⊥) → without_range a z f y ≡ f y
out a z f y h = elim (dec_lt y a) [
  | yes l ↦ rw (lt-leb a y l)
  | no n ↦ elim (dec_lt z y) [ yes l ↦ rw (lt-leb y z l, and-false (leb a y)) | no k ↦ absurd (h (omega arith) (omega arith)) ]
]

within : (a z : ℕ) (f : Subjects) (y : ℕ) → a ≤ y → y ≤ z → without_range a z f y ≡ false
within a z f y h k = rw (le-leb a y h, le-leb y z k)

-- the mask that keeps the bits outside l to h
abbrev pub kept : ℕ → ℕ → ℕ
kept l h = 255 - bit_and (255 * 2 ^ l % 256) (255 / 2 ^ (7 - h))

kept-bits : (l : ℕ) → l < 8 → (h : ℕ) → h < 8 → kept l h ≡ set_of (λ p. not (leb l p && leb p h))
unfolding bits
kept-bits = agree2 8 8 _ _ refl

leb-add : (n a b : ℕ) → leb a b ≡ leb (n + a) (n + b)
leb-add n a b = elim (dec_lt b a) [
  | yes l ↦ rw (lt-leb a b l, lt-leb (n + a) (n + b) (omega arith))
  | no h ↦ rw (le-leb a b (omega arith), le-leb (n + a) (n + b) (omega arith))
]

pub cleared_bits : (b : List ℕ) (i l h : ℕ) → length b ≡ 1024 → Bytes b → i < 1024 → l < 8 → h < 8
    → set b i (bit_and (get_or b i 0) (kept l h)) ≡ image_of (without_range (8 * i + l) (8 * i + h) (holds b))
cleared_bits b i l h n y a lb hb =
    let v = get_or b i 0 in
    let m = kept l h in
    let f : Subjects = λ p. not (leb l p && leb p h) in
    set-image b i (bit_and v m) (without_range (8 * i + l) (8 * i + h) (holds b)) n y a
    (of_members ◌&&◌ v m (bit_and v m) f (kept-bits l lb h hb) (meet v m (y i) (omega arith))
    ∙ same (λ p. has v p && f p) (λ p. without_range (8 * i + l) (8 * i + h) (holds b) (8 * i + p))
    (λ p k. and_comm (has v p) (f p) ∙ rw (leb-add (8 * i) l p, leb-add (8 * i) p h, at_bit b i p k)))
    (λ x q. out (8 * i + l) (8 * i + h) (holds b) x (λ s t. q (omega arith)))

cleared-byte : (b : List ℕ) (i : ℕ) → length b ≡ 1024 → Bytes b → i < 1024 → set b i 0 ≡ image_of (without_range (8 * i) (8 * i + 7) (holds b))
unfolding bits
cleared-byte b i n y a =
    let g = without_range (8 * i) (8 * i + 7) (holds b) in
    set-image b i 0 g n y a
    (same (λ p. false) (λ p. g (8 * i + p)) (λ p k. sym (within (8 * i) (8 * i + 7) (holds b) (8 * i + p) (omega arith) (omega arith))))
    (λ x q. out (8 * i) (8 * i + 7) (holds b) x (λ s t. q (omega arith)))

-- two ranges, one after the other
joined : (b : List ℕ) (a m n z : ℕ) → n ≡ m + 1 → a ≤ n → m ≤ z
    → image_of (without_range n z (holds (image_of (without_range a m (holds b))))) ≡ image_of (without_range a z (holds b))
joined b a m n z e h k =
    let f = holds b in
    let g = holds (image_of (without_range a m f)) in
    image-same (without_range n z g) (without_range a z f) (λ x l.
    let same = holds-image (without_range a m f) x l in
    elim (dec_lt x a) [
      | yes p ↦ out n z g x (λ q r. omega arith) ∙ same ∙ out a m f x (λ q r. omega arith) ∙ sym (out a z f x (λ q r. omega arith))
      | no p ↦ elim (dec_lt m x) [
        | no q ↦ out n z g x (λ r s. omega arith) ∙ same ∙ within a m f x (omega arith) (omega arith) ∙ sym (within a z f x (omega arith) (omega arith))
        | yes q ↦ elim (dec_lt z x) [
          | yes r ↦ out n z g x (λ s t. omega arith) ∙ same ∙ out a m f x (λ s t. omega arith) ∙ sym (out a z f x (λ s t. omega arith))
          | no r ↦ within n z g x (omega arith) (omega arith) ∙ sym (within a z f x (omega arith) (omega arith))
        ]
      ]
    ])

-- ---- the bytes within a range, one by one

pub cleared_none : (b : List ℕ) (i : ℕ) → length b ≡ 1024 → Bytes b → 0 < i → b ≡ image_of (without_range (8 * i) (8 * i - 1) (holds b))
cleared_none b i n y h = sym (image_holds b n y) ∙ image-same (holds b) (without_range (8 * i) (8 * i - 1) (holds b)) (λ x l. sym (out (8 * i) (8 * i - 1) (holds b) x (λ p q. omega arith)))

pub cleared_more : (b t : List ℕ) (first i : ℕ) → 0 < first → first ≤ i → i < 1024 → t ≡ image_of (without_range (8 * first) (8 * i - 1) (holds b))
    → set t i 0 ≡ image_of (without_range (8 * first) (8 * (i + 1) - 1) (holds b))
cleared_more b t first i h k l e =
    let g = without_range (8 * first) (8 * i - 1) (holds b) in
    let q : 8 * i + 7 ≡ 8 * (i + 1) - 1 = omega arith in
    cleared-byte t i (rw e (length-image g)) (rw e (image-bytes g)) l
    ∙ ap (λ (u : List ℕ). image_of (without_range (8 * i) (8 * i + 7) (holds u))) e
    ∙ joined b (8 * first) (8 * i - 1) (8 * i) (8 * i + 7) (omega arith) (omega arith) (omega arith)
    ∙ ap (λ (z : ℕ). image_of (without_range (8 * first) z (holds b))) q

-- ---- a whole range: within one byte, or over more

pub cleared_one : (b t : List ℕ) (a z : ℕ) → a / 8 ≡ z / 8 → t ≡ image_of (without_range (8 * (a / 8) + a % 8) (8 * (a / 8) + z % 8) (holds b))
    → t ≡ image_of (without_range a z (holds b))
cleared_one b t a z e h =
    let p : 8 * (a / 8) + a % 8 ≡ a = omega arith in
    let q : 8 * (a / 8) + z % 8 ≡ z = omega arith in
    h ∙ rw (p, q)

pub cleared_over : (b t u v : List ℕ) (a z : ℕ) → a / 8 < z / 8 → t ≡ image_of (without_range (8 * (a / 8) + a % 8) (8 * (a / 8) + 7) (holds b))
    → u ≡ image_of (without_range (8 * (a / 8 + 1)) (8 * (z / 8) - 1) (holds t)) → v ≡ image_of (without_range (8 * (z / 8) + 0) (8 * (z / 8) + z % 8) (holds u))
    → v ≡ image_of (without_range a z (holds b))
cleared_over b t u v a z l x y w =
    let p : 8 * (a / 8) + a % 8 ≡ a = omega arith in
    let q : 8 * (z / 8) + z % 8 ≡ z = omega arith in
    let e : t ≡ image_of (without_range a (8 * (a / 8) + 7) (holds b)) = x ∙ rw p in
    let f : u ≡ image_of (without_range a (8 * (z / 8) - 1) (holds b)) =
    y ∙ ap (λ (s : List ℕ). image_of (without_range (8 * (a / 8 + 1)) (8 * (z / 8) - 1) (holds s))) e
    ∙ joined b a (8 * (a / 8) + 7) (8 * (a / 8 + 1)) (8 * (z / 8) - 1) (omega arith) (omega arith) (omega arith) in
    w ∙ ap (λ (s : List ℕ). image_of (without_range (8 * (z / 8) + 0) (8 * (z / 8) + z % 8) (holds s))) f
    ∙ joined b a (8 * (z / 8) - 1) (8 * (z / 8) + 0) (8 * (z / 8) + z % 8) (omega arith) (omega arith) (omega arith)
    ∙ rw q
