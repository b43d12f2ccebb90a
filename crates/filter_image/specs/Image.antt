-- The filter image: 1,024 bytes; subject x is bit x mod 8 of byte x div 8. Its calls, on the set of subjects that it holds.
use Rattle.std.specs.Prelude.{ℕ, ◌+◌, ◌*◌, ◌/◌, ◌%◌, List, Bool, false, cond, not, ◌&&◌, ◌||◌, eqb, leb, ltb, length, get_or}
use Rattle.state.specs.Lengths.{image_length}
use Rattle.state.specs.Seq.{each}
use Rattle.state.specs.Outcome as state
use Rattle.state.specs.Outcome.{Outcome, refuse, done}
use Rattle.state.specs.declared.Refusal.TheVariants.{Range, BadImage}
use Rattle.emcyphal_core.specs.Sets.{has, bits}

-- which subjects pass
abbrev pub Subjects : Type 0
Subjects = ℕ → Bool

-- what the bytes mean: the subject x is in
abbrev pub holds : List ℕ → Subjects
holds b x = has (get_or b (x / 8) 0) (x % 8)

-- ---- the bytes of a set

abbrev pub byte_of : Subjects → ℕ → ℕ
byte_of f i = bits 8 (λ p. f (8 * i + p))

unfoldable pub image_of : Subjects → List ℕ
image_of f = each image_length (byte_of f)

-- ---- the calls

-- refused where the length b is not an image's
abbrev pub on_image : {A : Type 0} → ℕ → Outcome A Subjects → Outcome A Subjects
on_image b r = cond (eqb b image_length) r (refuse BadImage)

abbrev pub none : Subjects
none x = false

abbrev pub with : ℕ → Subjects → Subjects
with x f y = eqb y x || f y

abbrev pub without_range : ℕ → ℕ → Subjects → Subjects
without_range first last f y = not (leb first y && leb y last) && f y

unfoldable pub opening : List ℕ → Outcome (Unit {0}) Subjects
opening b = on_image (length b) (done tt none)

-- refused for a subject above 8,191
unfoldable pub add_subject : ℕ → List ℕ → Outcome (Unit {0}) Subjects
add_subject x b = cond (ltb 8191 x) (refuse Range) (on_image (length b) (done tt (with x (holds b))))

-- refused for a subject above 8,191 and for a first above the last
unfoldable pub remove_subject_range : ℕ → ℕ → List ℕ → Outcome (Unit {0}) Subjects
remove_subject_range first last b =
    cond (ltb 8191 first || (ltb 8191 last || ltb last first)) (refuse Range) (
    on_image (length b) (done tt (without_range first last (holds b))))

unfoldable pub has_subject : ℕ → List ℕ → Outcome Bool Subjects
has_subject x b = cond (ltb 8191 x) (refuse Range) (on_image (length b) (done (holds b x) (holds b)))

-- the bytes after a call: those of the set that it leaves
abbrev pub bytes : {A : Type 0} → List ℕ → Outcome A Subjects → List ℕ
bytes b r = state.bytes (λ f x. image_of f) b r
