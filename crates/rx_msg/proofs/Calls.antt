-- What opening, registering and removing come to, on the plain meaning.
use Prim.Native.Nat.{ℕ, ◌+◌, ◌<◌, ◌≤◌}
use mathlib.Core.Path.{◌≡◌, refl, sym, ap, ◌∙◌}
use mathlib.Core.List.{List}
use mathlib.Core.Bool.{Bool, true, false, cond}
use Rattle.std.specs.Prelude.{Some, position, Result, Ok, Err, if◌then◌else◌}
use native.Mathlib.Omega.{arith}
use mir.Val.{bool_byte}
use lib.Dec.{ltb}
use lib.ListN.{length, replicate}
use borrow.Author.Tests.{ltb-false, lt-ltb, le-ltb, eq-eqb}
use Rattle.state.specs.Seq.{to_nat}
use Rattle.state.specs.Outcome.{refuse, done, answer}
use Rattle.state.specs.Refusals.{entry_of, up_to}
use Rattle.state.specs.declared.Refusal.{Refusal}
use Rattle.state.specs.declared.Refusal.TheVariants.{EntryRange, Range, SlotsFull}
use Rattle.state.proofs.Outcomes.{Ends, is_whole}
use Rattle.entry_tree.specs.Pairs.{Place, is_entry, has_entry, place_of}
use Rattle.entry_tree.specs.Places.{entry_at}
use Rattle.entry_tree.proofs.Reading.{read-place-entry}
use Rattle.regular.specs.Registry.{Registry, fresh}
use Rattle.regular.specs.Bytes.{active_part, whole_b, read, laid}
use Rattle.regular.specs.Steps.{Gaps, gaps, register, unregister, unregister_active, leaves}
use Rattle.regular.specs.Calls.{on, opening, opened_bytes}
use Rattle.regular_change.proofs.Acts.{gaps_are, more-is}
use Rattle.regular_change.specs.Inner.{gap_of, more}
use Rattle.regular_change.specs.declared.look.Gap.{Gap}

-- ---- numbers in their range

pub entry-is : (e i : ℕ) → entry_of e ≡ Ok i → (i ≡ e) × (e ≤ 127)
entry-is e i = in-range (ltb 127 e) refl
  where
    in-range : (t : Bool) → ltb 127 e ≡ t → (if t then Err EntryRange else Ok e) ≡ Ok i → (i ≡ e) × (e ≤ 127)
    in-range true p q = cc
    in-range false p q = (cc, ltb-false 127 e p)

pub up-to-is : (most n k : ℕ) → up_to most n ≡ Ok k → (k ≡ n) × (n ≤ most)
up-to-is most n k = in-range (ltb most n) refl
  where
    in-range : (t : Bool) → ltb most n ≡ t → (if t then Err Range else Ok n) ≡ Ok k → (k ≡ n) × (n ≤ most)
    in-range true p q = cc
    in-range false p q = (cc, ltb-false most n p)

-- ---- opening

pub opened : (s : List ℕ) (n k : ℕ) → length s ≡ 1036 → up_to 65535 n ≡ Ok k → (t : List ℕ) → t ≡ laid (fresh k) (replicate 1036 0)
    → (Ok tt ≡ answer (opening (length s) n)) × (t ≡ opened_bytes s (opening (length s) n))
unfolding opening
opened s n k l q t z =
    let r = up-to-is 65535 n k q in
    rw (eq-eqb (length s) 1036 l, le-ltb 65535 n r.1) (refl, z ∙ ap (λ (x : ℕ). laid (fresh x) (replicate 1036 0)) r.0 ∙ ap (λ (x : ℕ). laid (fresh n) (replicate x 0)) (sym l))

-- ---- calls with an entry and a subject in their range

module _ (s : List ℕ) (h : whole_b s ≡ true) (e i : ℕ) (he : entry_of e ≡ Ok i) where
  pub registered : (x y : ℕ) → up_to 8191 x ≡ Ok y → (r : Result Bool Refusal) (t : List ℕ) → Ends laid s (register i y (read s)) r t → Ends laid s (on (register e x) s) r t
  registered x y hx r t k = rw (is_whole whole_b read laid (register e x) s h, ← (entry-is e i he).0, ← (up-to-is 8191 x y hx).0) k

  pub unregistered : (r : Result Bool Refusal) (t : List ℕ) → Ends laid s (unregister i (read s)) r t → Ends laid s (on (unregister e) s) r t
  unregistered r t k = rw (is_whole whole_b read laid (unregister e) s h, ← (entry-is e i he).0) k

-- ---- removing an active entry

pub bit : (b : Bool) → bool_byte b ≡ to_nat b
bit true = refl
bit false = refl

module _ (e : ℕ) (m : Registry) where
  abbrev P : Place
  P = place_of e m.active

  abbrev G : Gaps
  G = gaps e P m.clean_up m.last_gap

  module _ (he : e ≤ 127) (ni : has_entry e m.inactive ≡ false) (ha : has_entry e m.active ≡ true) where
    unregister-is : unregister e m ≡ unregister_active e P G m
    unfolding unregister
    unregister-is = rw (le-ltb 127 e he, ni, ha)

    unregister-full : 65535 < m.slots + G.more → unregister e m ≡ refuse SlotsFull
    unregister-full h = unregister-is ∙ full (m.slots + G.more) h
      where
        full : (z : ℕ) → 65535 < z → cond (ltb 65535 z) (refuse SlotsFull) (done (ltb 0 G.more) (leaves e P G m)) ≡ refuse SlotsFull
        full z b = rw (lt-ltb 65535 z b)

    unregister-leaves : (wake : Bool) → to_nat wake ≡ G.more → m.slots + G.more ≤ 65535 → unregister e m ≡ done wake (leaves e P G m)
    unregister-leaves wake q h = unregister-is ∙ room (m.slots + G.more) h ∙ ap (λ (b : Bool). done b (leaves e P G m)) (positive wake G.more q)
      where
        room : (z : ℕ) → z ≤ 65535 → cond (ltb 65535 z) (refuse SlotsFull) (done (ltb 0 G.more) (leaves e P G m)) ≡ done (ltb 0 G.more) (leaves e P G m)
        room z b = rw (le-ltb 65535 z b)

        positive : (b : Bool) (n : ℕ) → to_nat b ≡ n → ltb 0 n ≡ b
        positive true n q = rw (← q) refl
        positive false n q = rw (← q) refl

-- the active entry e at the place i, with the gap that the code found there
module _ (s : List ℕ) (e i : ℕ) (ha : has_entry e (read s).active ≡ true) (qi : position (is_entry e) (read s).active ≡ Some i)
    (g : Gap) (qg : g ≡ gap_of (entry_at (active_part s) i) (place_of (entry_at (active_part s) i) (read s).active) (read s).clean_up)
  where
    pub gap-found : g ≡ gap_of e (place_of e (read s).active) (read s).clean_up
    gap-found = qg ∙ ap (λ (v : ℕ). gap_of v (place_of v (read s).active) (read s).clean_up) (read-place-entry (active_part s) e i qi)

    counted : more g ≡ (G e (read s)).more
    counted = sym (ap (λ (x : Gaps). x.more) (gaps_are e (read s).clean_up (read s).last_gap (P e (read s)) g gap-found) ∙ more-is g e (read s).clean_up (read s).last_gap)

    module _ (he : e ≤ 127) (ni : has_entry e (read s).inactive ≡ false) where
      pub leaving-full : 65535 < (read s).slots + more g → Ends laid s (unregister e (read s)) (Err SlotsFull) s
      leaving-full b = rw (unregister-full e (read s) he ni ha (omega (arith, counted, b))) (refl, refl)

      pub leaving : (wake : Bool) → to_nat wake ≡ more g → (read s).slots + more g ≤ 65535 → (t : List ℕ) → t ≡ laid (leaves e (P e (read s)) (G e (read s)) (read s)) s
          → Ends laid s (unregister e (read s)) (Ok wake) t
      leaving wake q b t l = rw (unregister-leaves e (read s) he ni ha wake (q ∙ counted) (omega (arith, counted, b))) (refl, l)
