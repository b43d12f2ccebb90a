-- Laws of the form that all calls share.
use Prim.Native.Nat.{ℕ}
use mathlib.Core.Path.{◌≡◌, refl, sym, ap, ◌∙◌}
use mathlib.Core.Bool.{Bool, true, false, cond}
use mathlib.Core.List.{List}
use native.Mathlib.Omega.{arith}
use lib.ListN.{length}
use Rattle.std.specs.Prelude.{Result, Ok, Err}
use Rattle.state.specs.declared.Refusal.{Refusal}
use Rattle.state.specs.declared.Refusal.TheVariants.{NotWhole}
use Rattle.state.specs.Outcome.{Outcome, refuse, done, called, answer, bytes, left, Means, Bytes}

-- a call's end: its answer and the bytes that it leaves
abbrev pub Ends : {A M : Type 0} → (M → List ℕ → List ℕ) → List ℕ → Outcome A M → Result A Refusal → List ℕ → Type 0
Ends laid b o r t = (r ≡ answer o) × (t ≡ bytes laid b o)

module _ {A M : Type 0} (whole : List ℕ → Bool) (read : List ℕ → M) (laid : M → List ℕ → List ℕ) (f : M → Outcome A M) (b : List ℕ) where
  pub not-whole : whole b ≡ false → Ends laid b (called whole read f b) (Err NotWhole) b
  not-whole h = (rw h, rw h)

  pub is_whole : whole b ≡ true → called whole read f b ≡ f (read b)
  is_whole h = rw h

  -- where the call on the meaning comes to o, so does the call on bytes
  pub ends : whole b ≡ true → (o : Outcome A M) → f (read b) ≡ o → Ends laid b (called whole read f b) (answer o) (bytes laid b o)
  ends h o q =
      let z : called whole read f b ≡ o = is_whole h ∙ q in
      (ap (λ (x : Outcome A M). answer x) (sym z), ap (λ (x : Outcome A M). bytes laid b x) (sym z))

  pub refused : whole b ≡ true → (r : Refusal) → f (read b) ≡ refuse r → Ends laid b (called whole read f b) (Err r) b
  refused h r q = ends h (refuse r) q

  pub laid_out : whole b ≡ true → (a : A) (m : M) (t : List ℕ) → f (read b) ≡ done a m → t ≡ laid m b → Ends laid b (called whole read f b) (Ok a) t
  laid_out h a m t q l = let o = ends h (done a m) q in (o.0, l ∙ o.1)

-- an opening that was not refused: its test held, and it left the meaning m₀
pub opened-is : {A M : Type 0} (p : Bool) (a₀ : A) (r : Refusal) (m₀ : M) (a : A) (m : M) → cond p (done a₀ m₀) (refuse r) ≡ done a m → (p ≡ true) × (m₀ ≡ m)
opened-is true a₀ r m₀ a m h = (refl, cc)
opened-is false a₀ r m₀ a m h = absurd (let z : ◌≡◌ {A = ℕ} 0 1 = cc in omega arith)

-- that a call keeps bytes bytes, whole, and their meaning follows from the rest, for every kind
pub record Kept {A M : Type 0} (whole : List ℕ → Bool) (read : List ℕ → M) (laid : M → List ℕ → List ℕ) (b : List ℕ) (o r : Outcome A M) : Type 0 where
  pub are_bytes : Bytes (bytes laid b o)
  pub are_whole : whole (bytes laid b o) ≡ true
  pub meaning : read (bytes laid b o) ≡ left (read b) r

module _ {M : Type 0} (whole : List ℕ → Bool) (read : List ℕ → M) (laid : M → List ℕ → List ℕ) (Valid : M → Type 0) (Sized : M → ℕ → Type 0)
    (laid_bytes : (m : M) (b : List ℕ) → Bytes b → Valid m → Sized m (length b) → Bytes (laid m b))
    (laid_whole : (m : M) (b : List ℕ) → Bytes b → Valid m → Sized m (length b) → whole (laid m b) ≡ true)
    (read_laid : (m : M) (b : List ℕ) → Bytes b → Valid m → Sized m (length b) → read (laid m b) ≡ m)
  where
    after : {A : Type 0} (b : List ℕ) (r : Outcome A M) → Bytes b → whole b ≡ true → Valid (left (read b) r) → Sized (left (read b) r) (length b) → Kept whole read laid b r r
    after b (refuse r) y h f z = record { are_bytes = y; are_whole = h; meaning = refl }
    after b (done a m) y h f z = record { are_bytes = laid_bytes m b y f z; are_whole = laid_whole m b y f z; meaning = read_laid m b y f z }

    pub kept : {A : Type 0} (f : M → Outcome A M) (b : List ℕ) → Bytes b → whole b ≡ true → Valid (left (read b) (f (read b))) → Sized (left (read b) (f (read b))) (length b)
        → Kept whole read laid b (called whole read f b) (f (read b))
    kept f b y h w z = rw (is_whole whole read laid f b h) (after b (f (read b)) y h w z)

    pub means_of : {K : Type 0} {A : K → Type 0} (step : (k : K) → M → Outcome (A k) M)
        → ((b : List ℕ) → Bytes b → whole b ≡ true → Valid (read b)) → ((b : List ℕ) → whole b ≡ true → Sized (read b) (length b)) → ((b : List ℕ) → Bytes b → whole b ≡ true → laid (read b) b ≡ b)
        → ((k : K) (m : M) → Valid m → Valid (left m (step k m))) → ((k : K) (m : M) (n : ℕ) → Valid m → Sized m n → Sized (left m (step k m)) n)
        → Means whole read laid Valid Sized step
    means_of {K = K} step valid sized self keeps keeps-size =
        record {
          whole_valid = valid;
          whole_sized = sized;
          laid_read = self;
          laid_bytes = laid_bytes;
          laid_whole = laid_whole;
          read_laid = read_laid;
          step_valid = keeps;
          step_sized = keeps-size;
          keeps_bytes = λ k b y h. (all k b y h).are_bytes;
          keeps_whole = λ k b y h. (all k b y h).are_whole;
          keeps_meaning = λ k b y h. (all k b y h).meaning;
        }
      where
        all : (k : K) (b : List ℕ) → Bytes b → whole b ≡ true → Kept whole read laid b (called whole read (step k) b) (step k (read b))
        all k b y h = kept (step k) b y h (keeps k (read b) (valid b y h)) (keeps-size k (read b) (length b) (valid b y h) (sized b h))
