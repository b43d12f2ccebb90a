-- What is noted of the inactive entries: where those of a subject begin, and which place is the next to be filled.
use Prim.Native.Nat.{ℕ, zero, suc, ◌+◌, ◌<◌, ◌≤◌}
use mathlib.Core.Path.{◌≡◌, refl, sym, ap, ◌∙◌, subst}
use mathlib.Core.List.{List}
use mathlib.Core.Bool.{Bool, true, false, cond}
use native.Mathlib.Omega.{arith}
use native.Mathlib.Decide.{ℕ_discrete, dec_lt}
use lib.Dec.{eqb}
use lib.ListN.{length, get_or, set, replicate, length-set, length-replicate}
use lib.Seq.{get_or-set_same, get_or-set_other}
use borrow.Author.Tests.{eq-eqb}
use Rattle.entry_tree.specs.Pairs.{is_entry, on_subject, has_subject, place_of}
use Rattle.entry_tree.specs.Places as tree
use Rattle.entry_tree.specs.Places.{size, entry_at, subject_at}
use Rattle.std.specs.Prelude.{Option, Some, None, IfSome, position}
use Rattle.std.specs.Bool.{then_some}
use Rattle.entry_tree.proofs.Reading.{read_length, read_at, read-place-subject}
use Rattle.entry_tree.proofs.Count.{same, diff, compare_eq, true-any}
use Rattle.entry_tree.proofs.Lists.{count_at}
use Rattle.entry_tree.proofs.Finding.{entry_place}
use Rattle.regular.specs.Bytes.{active_part, inactive_part, whole_b}
use Rattle.regular_activation.specs.Inner.{StartsAt, Starts}
use Rattle.regular_change.proofs.Looks.{known}

pub never : {A : Type 0} → false ≡ true → A
never q = absurd (let z : ◌≡◌ {A = ℕ} 0 1 = cc in omega arith)

not_some : {A : Type 0} {g : ℕ} → None ≡ Some g → A
not_some q = absurd (let z : ◌≡◌ {A = ℕ} 0 1 = cc in omega arith)

pub subject-there : (t : List ℕ) (j x : ℕ) → j < size t → subject_at t j ≡ x → has_subject x (tree.read t) ≡ true
subject-there t j x h q =
    true-any (on_subject x) (tree.read t) (count_at (on_subject x) (tree.read t) j (omega (arith, read_length t)) (ap (on_subject x) (read_at t j h) ∙ eq-eqb x (subject_at t j) (sym q)))

-- `first`, if the place j is on the subject x
pub start_of : (t : List ℕ) (j x first : ℕ) → j < size t → (y : ℕ) → y ≡ subject_at t j → (o : Option ℕ) → o ≡ then_some (eqb y x) first
    → IfSome o (λ start. (start ≡ first) × (has_subject x (tree.read t) ≡ true))
start_of t j x first h y qy o q = elim (compare_eq y x) [
  | same z b ↦ rw (q, b) (refl, subject-there t j x h (sym qy ∙ z))
  | diff z b ↦ rw (q, b) tt
]

-- ---- the loop over the inactive entries

pub record Noting (s : List ℕ) (start : List (Option ℕ)) (first last i : ℕ) : Type 0 where
  pub long : length start ≡ 256
  pub starts : Starts s start
  pub behind : first ≤ i
  pub on : 0 < i → last ≡ subject_at (inactive_part s) first

nones-at : (n e : ℕ) → get_or (replicate {A = Option ℕ} n None) e None ≡ None
nones-at zero e = refl
nones-at (suc n) zero = refl
nones-at (suc n) (suc e) = nones-at n e

pub noting_none : (s : List ℕ) (start : List (Option ℕ)) → start ≡ replicate 256 None → Noting s start 0 0 0
noting_none s start q = rw q record {
  long = length-replicate {A = Option ℕ} 256 None;
  starts = λ e g h. not_some (sym (nones-at 256 e) ∙ h);
  behind = omega arith;
  on = λ h. absurd (omega arith);
}

-- the place where the subject of the place i begins
pub group_is : (s : List ℕ) (start : List (Option ℕ)) (first last i : ℕ) → Noting s start first last i → (x : ℕ) → x ≡ subject_at (inactive_part s) i → (g : ℕ) → g ≡ cond (eqb last x) first i
    → (g ≤ i) × (subject_at (inactive_part s) g ≡ subject_at (inactive_part s) i)
group_is s start first last i h x qx g qg = elim (compare_eq last x) [
  | same z b ↦
      (let f : g ≡ first = qg ∙ ap (λ (t : Bool). cond t first i) b in (
        omega (arith, h.behind),
        elim (dec_lt 0 i) [
          | yes p ↦ ap (subject_at (inactive_part s)) f ∙ sym (h.on p) ∙ z ∙ qx
          | no p ↦ (let o : g ≡ i = omega (arith, h.behind) in ap (subject_at (inactive_part s)) o)
        ],
      ))
  | diff z b ↦ (let f : g ≡ i = qg ∙ ap (λ (t : Bool). cond t first i) b in (omega arith, ap (subject_at (inactive_part s)) f))
]

pub noting_more : (s : List ℕ) (start : List (Option ℕ)) (first last i : ℕ) → whole_b s ≡ true → Noting s start first last i → i < size (inactive_part s) → (x : ℕ) → x ≡ subject_at (inactive_part s) i → (g : ℕ) → g ≡ cond (eqb last x) first i
    → (e : ℕ) (v : Option ℕ) → e ≡ entry_at (inactive_part s) i → e < 256 → IfSome v (λ k. (k ≡ g) × (has_subject x (tree.read (active_part s)) ≡ true)) → Noting s (set start e v) g x (i + 1)
noting_more s start first last i w h b x qx g cg e v qe small f =
    let t = inactive_part s in
    let bg = (group_is s start first last i h x qx g cg).0 in
    let qg = (group_is s start first last i h x qx g cg).1 in
    record {
      long = length-set start e v ∙ h.long;
      starts = λ k a l. elim (ℕ_discrete k e) [
        | yes z ↦
            (let set-v : get_or (set start e v) k None ≡ v = ap (λ (n : ℕ). get_or (set start e v) n None) z ∙ get_or-set_same start e v None (omega (arith, h.long)) in
            let p : (a ≡ g) × (has_subject x (tree.read (active_part s)) ≡ true) = rw (sym set-v ∙ l) at f in
            let ke : k ≡ entry_at t i = z ∙ qe in
            let place : position (is_entry (entry_at t i)) (tree.read t) ≡ Some i = entry_place t i b (omega (arith, (known s w).facts.once (entry_at t i))) in
            subst (λ (n : ℕ). StartsAt s k n) (sym p.0)
            (record {
              inside = omega arith;
              subject = ap (λ (n : ℕ). (place_of n (tree.read t)).subject) ke ∙ read-place-subject t (entry_at t i) i place ∙ sym qg;
              active = ap (λ (n : ℕ). has_subject n (tree.read (active_part s))) (qg ∙ sym qx) ∙ p.1;
            }))
        | no z ↦
            h.starts k a (sym (get_or-set_other start e k v None z) ∙ l)
      ];
      behind = omega arith;
      on = λ p. qx ∙ sym qg;
    }
