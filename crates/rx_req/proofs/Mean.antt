-- Whatever is valid is laid out as whole bytes, which mean it; so the theorem of specs/Means.antt.
use Prim.Native.Nat.{ℕ, ◌≤◌}
use mathlib.Core.Path.{◌≡◌, refl, ap, ◌∙◌, subst}
use mathlib.Core.List.{List, []}
use mathlib.Core.Bool.{true}
use native.Mathlib.Omega.{arith}
use lib.Dec.{eqb}
use lib.ListN.{length, replicate, length-replicate}
use borrow.Author.Tests.{eqb-true}
use Rattle.state.specs.Lengths.{requests_length}
use Rattle.state.specs.Outcome.{done, Bytes}
use Rattle.state.specs.declared.Refusal.TheVariants.{NotWhole}
use Rattle.state.proofs.Outcomes.{opened-is, means_of}
use Rattle.state.proofs.Filled.{zero-bytes}
use Rattle.entry_tree.specs.Places.{read, laid}
use Rattle.entry_tree.proofs.Laid as tree
use Rattle.entry_tree.proofs.Once.{few}
use Rattle.rx_req.specs.Registry.{Registry, fresh, whole_b as valid_b}
use Rattle.rx_req.specs.Bytes.{whole_b}
use Rattle.rx_req.specs.Steps.{step}
use Rattle.rx_req.specs.Calls.{opening}
use Rattle.rx_req.specs.Means.{Valid, Sized, RequestsMeans}
use Rattle.rx_req.proofs.Testing.{conditions, of_conditions, known, sized}
use Rattle.rx_req.proofs.Keeping.{step_valid}

module _ (m : Registry) (b : List ℕ) (y : Bytes b) (f : Valid m) (l : length b ≡ requests_length) where
  fit : length m ≤ 128
  fit = let c = conditions m f in few 511 m c.range c.once

  read_laid : read (laid m b) ≡ m
  read_laid = tree.read_laid b l m fit

  laid_whole : whole_b (laid m b) ≡ true
  laid_whole = sized (laid m b) (tree.length-laid b l m fit) (omega (arith, tree.size-laid b l m fit, fit)) ∙ ap valid_b read_laid ∙ f

  laid_bytes : Bytes (laid m b)
  laid_bytes = tree.bytes-laid b l m fit 511 y (omega arith) (conditions m f).range

fresh-valid : Valid fresh
fresh-valid = of_conditions [] (record { range = refl; once = λ e. omega arith; rises = refl })

opened : (b : ℕ) (a : Unit {0}) (m : Registry) → opening b ≡ done a m → whole_b (laid m (replicate b 0)) ≡ true
unfolding opening
opened b a m q =
    let i = opened-is (eqb b requests_length) tt NotWhole fresh a m q in
    subst (λ (x : Registry). whole_b (laid x (replicate b 0)) ≡ true) i.1
    (laid_whole fresh (replicate b 0) (zero-bytes b) fresh-valid (length-replicate {A = ℕ} b 0 ∙ eqb-true b requests_length i.0))

pub means : RequestsMeans
means =
    record {
      opened = opened;
      meaning = means_of whole_b read laid Valid Sized laid_bytes laid_whole read_laid step
          (λ b y h. (known b h).valid) (λ b h. (known b h).tree.len) (λ b y h. let t = (known b h).tree in tree.laid_read b t.len t.few y) step_valid (λ k m n f z. z);
    }
