-- A walk on whole bytes names every active entry on its subject, in order.
use Prim.Native.Nat.{ℕ, zero, suc, ◌+◌, ◌<◌, ◌≤◌}
use mathlib.Core.Path.{◌≡◌, refl, sym, ap, ◌∙◌}
use mathlib.Core.Bool.{Bool, true, false}
use mathlib.Core.List.{List, [], ◌∷◌, ◌++◌, map, append_assoc}
use Rattle.std.specs.Prelude.{Option, None, Some, is_some, Result, decimal, Ok, unwrap_or}
use Rattle.std.specs.Result.{result_ok, result_err}
use native.Mathlib.Omega.{arith}
use lib.ListN.{length}
use borrow.Author.Tests.{le-ltb, lt-ltb, eq-eqb, ne_eqb}
use Rattle.state.specs.Outcome.{Outcome, done, answer, left, Bytes}
use Rattle.state.specs.declared.Refusal.{Refusal}
use Rattle.state.proofs.Outcomes.{is_whole}
use Rattle.entry_tree.specs.Pairs.{Pair, count, is_entry, find, place_of}
use Rattle.entry_tree.specs.Walks.{first_on, next_on}
use Rattle.entry_tree.specs.declared.walk.Pushed.{Pushed}
use Rattle.regular.specs.Registry.{Registry}
use Rattle.regular.specs.Bytes.{whole_b, read, laid}
use Rattle.regular.specs.Steps.{hub_push_start, hub_push_next, HubPushStart, HubPushNext, with_walk, push_at}
use Rattle.regular.specs.Calls.{on, bytes}
use Rattle.entry_tree.proofs.Count.{same, diff, below, above, compare_eq, compare_le, count-self, count-append}
use Rattle.regular_valid.proofs.Facts.{Facts, Ordered, onil, ocons, at_most}
use Rattle.regular_valid.proofs.Valid.{valid-whole}
use Rattle.regular_valid.proofs.Mean.{means}
use Rattle.calls_line.specs.Lines.{refused, of_pushed, printed, next, more, named, said, entries_on, WalkMeans}
use Rattle.calls_line.proofs.WalkLaws.{named_end}

-- ---- lists of pairs

-- the place of an entry that stands after the pairs `before`
found : (from : ℕ) (before l : List Pair) (p : Pair) → count (is_entry p.entry) before ≡ 0
    → ((find p.entry from (before ++ (p ∷ l))).subject ≡ p.subject) × ((find p.entry from (before ++ (p ∷ l))).rest ≡ l)
found from [] l p h = rw (eq-eqb p.entry p.entry refl) (refl, refl)
found from (q ∷ before) l p h = elim (compare_eq p.entry q.entry) [
  | same e t ↦ absurd (omega (arith, rw t at h))
  | diff n t ↦ rw t (found (suc q.subject) before l p (omega (arith, rw t at h)))
]

-- no pair of a list past the subject x is on it
none-on : (x : ℕ) {M : ℕ → ℕ} {from : ℕ} {l : List Pair} → suc x < from → Ordered M from l → entries_on x l ≡ []
none-on x h onil = refl
none-on x h (ocons {p = p} {l = l} i low o) = rw (ne_eqb x p.subject (omega arith)) (none-on x {l = l} (omega arith) o)

-- ---- one step

abbrev pushed : ℕ → Bool → Pushed
pushed e t = record { entry = e; more = t }

next_of : (m : Registry) (e : ℕ) → m.walk ≡ Some e → hub_push_next m ≡ push_at e (place_of e m.active) m
unfolding hub_push_next
next_of m e q = rw q

module _ (c : List ℕ) (y : Bytes c) (h : whole_b c ≡ true) where
  abbrev then : List ℕ
  then = bytes c (on hub_push_next c)

  then-bytes : Bytes then
  then-bytes = means.meaning.keeps_bytes HubPushNext c y h

  then-whole : whole_b then ≡ true
  then-whole = means.meaning.keeps_whole HubPushNext c y h

  facts : Facts (read c)
  facts = (valid-whole (read c) (means.meaning.whole_valid c y h)).facts

  module _ (before l : List Pair) (p : Pair) (a : (read c).active ≡ before ++ (p ∷ l)) (w : (read c).walk ≡ Some p.entry) where
    once : count (is_entry p.entry) before ≡ 0
    once =
        let t = is_entry p.entry in
        let g : count t (read c).active ≡ count t before + count t (p ∷ l) = rw a (count-append t before (p ∷ l)) in
        omega (arith, facts.once p.entry, g, count-self p l)

    place : ((place_of p.entry (read c).active).subject ≡ p.subject) × ((place_of p.entry (read c).active).rest ≡ l)
    place = rw a (found 0 before l p once)

    walks-to : next_on (place_of p.entry (read c).active).subject (place_of p.entry (read c).active).rest ≡ next_on p.subject l
    walks-to = ap (λ (x : ℕ). next_on x (place_of p.entry (read c).active).rest) place.0 ∙ ap (λ (k : List Pair). next_on p.subject k) place.1

    pushes : hub_push_next (read c) ≡ done (Some (pushed p.entry (is_some (next_on p.subject l)))) (with_walk (next_on p.subject l) (read c))
    pushes = next_of (read c) p.entry w ∙ ap (λ (o : Option ℕ). done (Some (pushed p.entry (is_some o))) (with_walk o (read c))) walks-to

    says : next c ≡ Some (pushed p.entry (is_some (next_on p.subject l)))
    says = ap (λ (r : Outcome (Option Pushed) Registry). unwrap_or (result_ok (answer r)) None) (is_whole whole_b read laid hub_push_next c h ∙ pushes)

    then-read : read then ≡ with_walk (next_on p.subject l) (read c)
    then-read = means.meaning.keeps_meaning HubPushNext c y h ∙ ap (λ (r : Outcome (Option Pushed) Registry). left (read c) r) pushes

    names : (n : ℕ) → named (suc n) true c ≡ decimal p.entry ∷ named n (is_some (next_on p.subject l)) then
    unfolding named
    names n = ap (λ (o : Option Pushed). of_pushed o ++ named n (more o) then) says

-- ---- the whole walk

module _ (x : ℕ) {M : ℕ → ℕ} where
  from-pair : (n : ℕ) (c : List ℕ) → Bytes c → whole_b c ≡ true → (before l : List Pair) (p : Pair) → (read c).active ≡ before ++ (p ∷ l)
      → (read c).walk ≡ Some p.entry → p.subject ≡ x → Ordered M (suc x) l → length (p ∷ l) ≤ n → named n true c ≡ map decimal (p.entry ∷ entries_on x l)
  from-pair zero c y h before l p a w s o k = absurd (omega arith)
  from-pair (suc n) c y h before [] p a w s o k = names c y h before [] p a w n ∙ ap (λ (k : List (List ℕ)). decimal p.entry ∷ k) (named_end n (then c y h))
  from-pair (suc n) c y h before (q ∷ l) p a w s (ocons i low o) k =
      let r = then-read c y h before (q ∷ l) p a w in
      names c y h before (q ∷ l) p a w n
      ∙ ap (λ (k : List (List ℕ)). decimal p.entry ∷ k) (elim (compare_le q.subject x) [
        | below j t ↦
            let e : q.subject ≡ x = omega arith in
            let f = le-ltb p.subject q.subject (omega arith) in
            rw (f, eq-eqb x q.subject (sym e))
            (from-pair n (then c y h) (then-bytes c y h) (then-whole c y h) (before ++ (p ∷ [])) l q
            (ap (λ (m : Registry). m.active) r ∙ a ∙ sym (append_assoc before (p ∷ []) (q ∷ l)))
            (ap (λ (m : Registry). m.walk) r ∙ rw f) e (rw e at o) (omega arith))
        | above j t ↦
            let none = none-on x {l = l} (omega arith) o in
            rw (lt-ltb p.subject q.subject (omega arith), ne_eqb x q.subject (omega arith))
            (named_end n (then c y h) ∙ sym (ap (λ (k : List ℕ). map decimal k) none))
      ])

  from_start : (c : List ℕ) → Bytes c → whole_b c ≡ true → (before l : List Pair) {from : ℕ} → (read c).active ≡ before ++ l
      → (read c).walk ≡ first_on x l → Ordered M from l → length l ≤ 128 → named 128 (is_some (first_on x l)) c ≡ map decimal (entries_on x l)
  from_start c y h before [] a w o k = named_end 128 c
  from_start c y h before (p ∷ l) a w (ocons i low o) k = elim (compare_eq x p.subject) [
    | same e t ↦ rw t (from-pair 128 c y h before l p a (w ∙ rw t) (sym e) (rw (sym e) at o) k)
    | diff d t ↦ rw t (from_start c y h (before ++ (p ∷ [])) l (a ∙ sym (append_assoc before (p ∷ []) l)) (w ∙ rw t) o (omega arith))
  ]

start_is : (x : ℕ) (m : Registry) → x ≤ 8191 → hub_push_start x m ≡ done (is_some (first_on x m.active)) (with_walk (first_on x m.active) m)
unfolding hub_push_start
start_is x m l = rw (le-ltb 8191 x l)

pub walks : WalkMeans
unfolding said
walks = record {
  all_named = λ b y h x l.
      let m = read b in
      let f = facts b y h in
      let c = bytes b (on (hub_push_start x) b) in
      let e = start_is x m l in
      let r : read c ≡ with_walk (first_on x m.active) m =
      means.meaning.keeps_meaning (HubPushStart x) b y h ∙ ap (λ (o : Outcome Bool Registry). left m o) e in
      let z : answer (on (hub_push_start x) b) ≡ Ok (is_some (first_on x m.active)) =
      ap (λ (o : Outcome Bool Registry). answer o) (is_whole whole_b read laid (hub_push_start x) b h ∙ e) in
      ap (λ (a : Result Bool Refusal). printed 87 (refused (result_err a)) (named 128 (unwrap_or (result_ok a) false) c)) z
      ∙ ap (λ (k : List (List ℕ)). printed 87 0 k)
      (from_start x c (means.meaning.keeps_bytes (HubPushStart x) b y h) (means.meaning.keeps_whole (HubPushStart x) b y h) [] m.active
      (ap (λ (m : Registry). m.active) r) (ap (λ (m : Registry). m.walk) r) f.active-order (omega (arith, at_most m f)));
}
