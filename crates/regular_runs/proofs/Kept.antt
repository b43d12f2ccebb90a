-- What holds of the state bytes, the image and the two lists all along a list of calls, and that each call keeps it.
use Prim.Native.Nat.{ℕ, ◌≤◌}
use mathlib.Core.Path.{◌≡◌, refl, sym, ap, subst, ◌∙◌}
use mathlib.Core.Bool.{true, false}
use mathlib.Core.List.{List, []}
use lib.Dec.{eqb, ltb}
use lib.ListN.{length, replicate, length-replicate}
use borrow.Author.Tests.{eq-eqb, le-ltb}
use Rattle.state.proofs.Filled.{zero-bytes}
use Rattle.state.specs.Lengths.{regular_length, image_length}
use Rattle.state.specs.Outcome.{Outcome, done, answer, left, Bytes}
use Rattle.state.proofs.Tests.{by_cond, not-both}
use Rattle.state.proofs.Outcomes.{is_whole}
use Rattle.regular.specs.Registry.{Registry, fresh}
use Rattle.regular.specs.Bytes.{whole_b, read, laid}
use Rattle.regular.specs.Steps.{Call, step}
use Rattle.regular.specs.Calls.{on, bytes, opened_bytes, opening}
use Rattle.regular_valid.specs.Moves.{Registered, lists}
use Rattle.regular_valid.specs.Inner.{handed, moved, put}
use Rattle.regular_valid.proofs.Inv.{Inv}
use Rattle.regular_valid.proofs.Demand as demand
use Rattle.regular_valid.proofs.Mean.{means, fresh-valid}
use Rattle.filter_image.specs.Image as image
use Rattle.filter_image.proofs.Laws.{length-image, holds-none, opened-none}
use Rattle.gomxeli.specs.Answers as packing
use Rattle.gomxeli.specs.Answers.{answered, accepted}
use Rattle.gomxeli.proofs.Fields.{accepted_of}
use Rattle.regular_runs.specs.Runs.{Now, begin}

pub record Good (w : Now) : Type 0 where
  pub whole : whole_b w.state ≡ true
  pub bytes : Bytes w.state
  pub long : length w.image ≡ image_length
  pub inv : Inv (read w.state) (image.holds w.image) w.registered

pub state-long : (w : Now) → Good w → length w.state ≡ regular_length
state-long w g = means.meaning.whole_sized w.state g.whole

-- ---- the start

opens : (n k : ℕ) → k ≡ regular_length → n ≤ 65535 → opening k n ≡ done tt (fresh n)
unfolding opening
opens n k l h = rw (eq-eqb k regular_length l, le-ltb 65535 n h) refl

module _ (n : ℕ) (b i : List ℕ) (h : n ≤ 65535) (l : length b ≡ regular_length) where
  abbrev Zeros : List ℕ
  Zeros = replicate (length b) 0

  long-zeros : length Zeros ≡ regular_length
  long-zeros = length-replicate {A = ℕ} (length b) 0 ∙ l

  opened : (begin n b i).state ≡ laid (fresh n) Zeros
  opened = ap (opened_bytes b) (opens n (length b) l h)

  -- the opened bytes mean a fresh registry
  pub begin-means : read (begin n b i).state ≡ fresh n
  begin-means = ap read opened ∙ means.meaning.read_laid (fresh n) Zeros (zero-bytes (length b)) (fresh-valid n h) long-zeros

  pub good-begin : length i ≡ image_length → Good (begin n b i)
  good-begin k =
      let e : image.image_of image.none ≡ (begin n b i).image = opened-none i k in
      let j = demand.same_filter (fresh n) (λ x. false) (lists [] []) (demand.begin n h) (image.holds (begin n b i).image) (λ x. sym (holds-none (begin n b i).image (sym e) x)) in
      record {
        whole = rw opened (means.meaning.laid_whole (fresh n) Zeros (zero-bytes (length b)) (fresh-valid n h) long-zeros);
        bytes = rw opened (means.meaning.laid_bytes (fresh n) Zeros (zero-bytes (length b)) (fresh-valid n h) long-zeros);
        long = ap (λ (t : List ℕ). length t) (sym e) ∙ length-image image.none;
        inv = subst (λ (m : Registry). Inv m (image.holds (begin n b i).image) (lists [] [])) (sym begin-means) j;
      }

-- ---- a call of the registry, with the image and the lists that its answer makes

module _ (k : Call) (w : Now) (g : Good w) where
  -- the call on bytes comes to what it comes to on their meaning
  pub on-meaning : on (step k) w.state ≡ step k (read w.state)
  on-meaning = is_whole whole_b read laid (step k) w.state g.whole

  pub meaning-kept : read (bytes w.state (on (step k) w.state)) ≡ left (read w.state) (step k (read w.state))
  meaning-kept = means.meaning.keeps_meaning k w.state g.bytes g.whole

  pub regular-kept : (i : List ℕ) (r : Registered) → length i ≡ image_length
      → ((x : ℕ) → put (handed k (answer (step k (read w.state)))) (image.holds w.image) x ≡ image.holds i x)
      → moved k (answer (step k (read w.state))) w.registered ≡ r
      → Good (record { state = bytes w.state (on (step k) w.state); image = i; registered = r })
  regular-kept i r l f q =
      let m : Registry = read w.state in
      let j = demand.kept m (image.holds w.image) w.registered g.inv k in
      let j' = demand.same_filter (left m (step k m)) (put (handed k (answer (step k m))) (image.holds w.image)) (moved k (answer (step k m)) w.registered) j (image.holds i) f in
      record {
        whole = means.meaning.keeps_whole k w.state g.bytes g.whole;
        bytes = means.meaning.keeps_bytes k w.state g.bytes g.whole;
        long = l;
        inv = subst (λ (n : Registry). Inv n (image.holds i) r) (sym meaning-kept) (subst (λ (p : Registered). Inv (left m (step k m)) (image.holds i) p) q j');
      }

-- ---- a call that leaves the bytes

pub left-kept : (w : Now) → Good w → (b : List ℕ) → b ≡ w.state → Good (record { state = b; image = w.image; registered = w.registered })
left-kept w g b q = rw q record { whole = g.whole; bytes = g.bytes; long = g.long; inv = g.inv }

-- an opening that is refused
pub refused-opening : (b : List ℕ) (n : ℕ) → accepted (answered packing.done (answer (opening (length b) n))) ≡ false → opened_bytes b (opening (length b) n) ≡ b
unfolding opening
refused-opening b n =
    by_cond K (eqb (length b) regular_length)
    (λ l. by_cond K (ltb 65535 n) (λ t h. refl) (λ t h. not-both (sym (accepted_of 0 0 0) ∙ h)))
    (λ l h. refl)
  where
    K : Outcome (Unit {0}) Registry → Type 0
    K r = accepted (answered packing.done (answer r)) ≡ false → opened_bytes b r ≡ b
