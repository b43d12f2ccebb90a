-- Each call keeps lists valid, and their sizes; so the theorem of specs/Calls.antt.
use Prim.Native.Nat.{ℕ, ◌<◌}
use mathlib.Core.Path.{◌≡◌, refl, sym, ap, ◌∙◌, subst}
use mathlib.Core.List.{List, [], ◌∷◌, ◌++◌}
use mathlib.Core.Bool.{Bool, true, false, ◌&&◌}
use lib.ListN.{length, get_or, length-set, length-map}
use lib.Dec.{eqb}
use borrow.Author.Tests.{ltb-true}
use Rattle.state.specs.Lengths.{lists_allowed, lists_length}
use Rattle.state.specs.Outcome.{Outcome, done, left}
use Rattle.state.specs.declared.Refusal.TheVariants.{NotWhole, Size}
use Rattle.state.proofs.Tests.{and_l, and_r, by_cond, not-both}
use Rattle.state.proofs.Outcomes.{opened-is, means_of}
use Rattle.multi_cycle_list.specs.Nodes.{entries, whole_b, read}
use Rattle.multi_cycle_list.specs.Lists.{Lists, Valid, without, removed, pushed_front, pushed_back, with_rows, moved_front, moved_back, empty}
use Rattle.multi_cycle_list.specs.Laid.{laid}
use Rattle.multi_cycle_list.proofs.WholeTools.{whole-sizes}
use Rattle.multi_cycle_list.proofs.Laid.{laid_read, laid_whole, read_laid, read-valid, whole-bytes}
use Rattle.multi_cycle_list.proofs.Changes.{rows-length, remove-valid, front-valid, back-valid, empty-valid}
use Rattle.multi_class_queue.specs.Calls.{in_size, has_class, has_entry, front, back, is_empty, is_front, is_back, remove, move_front, move_back, opening, over, Call, Front, Back, IsEmpty, IsFront, IsBack, Remove, MoveFront, MoveBack, step, Sized, ListsMean}

opened : (n c e : ℕ) (a : Unit {0}) (m : Lists) → opening n c e ≡ done a m → whole_b (laid m) ≡ true
unfolding opening
opened n c e a m =
    by_cond (λ (o : Outcome (Unit {0}) Lists). o ≡ done a m → whole_b (laid m) ≡ true) (lists_allowed c e)
    (λ h q.
    let i = opened-is (eqb n (lists_length c e)) tt NotWhole (empty c e) a m q in
    subst (λ (x : Lists). whole_b (laid x) ≡ true) i.1 (laid_whole (empty c e) (empty-valid c e h)))
    (λ h q. not-both (sym (opened-is false a Size m a m q).0))

-- ---- each call keeps lists valid

abbrev Keeps : {A : Type 0} → Lists → Outcome A Lists → Type 0
Keeps m o = Valid (left m o)

module _ (m : Lists) (f : Valid m) where
  unchanged : {A : Type 0} (b : Bool) (a : A) → Keeps m (in_size b (done a m))
  unchanged b a = by_cond (Keeps m) b (λ h. f) (λ h. f)

  moved : (c e : ℕ) (n : Lists) → (e < m.entries → c < length m.rows → Valid n) → Keeps {A = Unit {0}} m (in_size (has_class m c && has_entry m e) (done tt n))
  moved c e n g =
      by_cond (Keeps m) (has_class m c && has_entry m e)
      (λ h. g (ltb-true e m.entries (and_r (has_class m c) (has_entry m e) h)) (ltb-true c (length m.rows) (and_l (has_class m c) (has_entry m e) h)))
      (λ h. f)

step_valid : (k : Call) (m : Lists) → Valid m → Keeps m (step k m)
unfolding front back is_empty is_front is_back remove move_front move_back
step_valid (Front c) m f = unchanged m f (has_class m c) _
step_valid (Back c) m f = unchanged m f (has_class m c) _
step_valid (IsEmpty c) m f = unchanged m f (has_class m c) _
step_valid (IsFront e) m f = unchanged m f (has_entry m e) _
step_valid (IsBack e) m f = unchanged m f (has_entry m e) _
step_valid (Remove e) m f = by_cond (Keeps m) (has_entry m e) (λ h. remove-valid m f e (ltb-true e m.entries h)) (λ h. f)
step_valid (MoveFront c e) m f = moved m f c e (moved_front c e m) (λ he hc. front-valid m f e he c hc)
step_valid (MoveBack c e) m f = moved m f c e (moved_back c e m) (λ he hc. back-valid m f e he c hc)

-- ---- and their sizes

same_size : {A : Type 0} (b : Bool) (a : A) (m : Lists) (rs : List (List ℕ)) → length rs ≡ length m.rows → (n : ℕ) → Sized m n → Sized (left m (in_size b (done a (with_rows m rs)))) n
same_size true a m rs q n z = z ∙ ap (λ (k : ℕ). lists_length k m.entries) (sym q)
same_size false a m rs q n z = z

removed-length : (e : ℕ) (rs : List (List ℕ)) → length (removed e rs) ≡ length rs
removed-length e rs = length-map rs (without e)

step_sized : (k : Call) (m : Lists) (n : ℕ) → Valid m → Sized m n → Sized (left m (step k m)) n
unfolding front back is_empty is_front is_back remove move_front move_back
step_sized (Front c) m n f z = same_size (has_class m c) _ m m.rows refl n z
step_sized (Back c) m n f z = same_size (has_class m c) _ m m.rows refl n z
step_sized (IsEmpty c) m n f z = same_size (has_class m c) _ m m.rows refl n z
step_sized (IsFront e) m n f z = same_size (has_entry m e) _ m m.rows refl n z
step_sized (IsBack e) m n f z = same_size (has_entry m e) _ m m.rows refl n z
step_sized (Remove e) m n f z = same_size (has_entry m e) tt m (removed e m.rows) (removed-length e m.rows) n z
step_sized (MoveFront c e) m n f z =
    same_size (has_class m c && has_entry m e) tt m (pushed_front c e (removed e m.rows))
    (length-set (removed e m.rows) c (e ∷ get_or (removed e m.rows) c []) ∙ removed-length e m.rows) n z
step_sized (MoveBack c e) m n f z =
    same_size (has_class m c && has_entry m e) tt m (pushed_back c e (removed e m.rows))
    (length-set (removed e m.rows) c (get_or (removed e m.rows) c [] ++ (e ∷ [])) ∙ removed-length e m.rows) n z

read-sized : (b : List ℕ) → whole_b b ≡ true → Sized (read b) (length b)
read-sized b h = (whole-sizes b h).sized ∙ ap (λ (k : ℕ). lists_length k (entries b)) (sym (rows-length b))

pub mean : ListsMean
mean =
    record {
      opened = opened;
      meaning = means_of whole_b read over Valid Sized (λ m b y f z. whole-bytes (laid m) (laid_whole m f)) (λ m b y f z. laid_whole m f) (λ m b y f z. read_laid m f) step
          (λ b y h. read-valid b h) read-sized (λ b y h. laid_read b h) step_valid step_sized;
    }
