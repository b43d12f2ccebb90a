-- What is looked at.
use Prim.Native.Nat.{ℕ, ◌<◌}
use mathlib.Core.Path.{◌≡◌, refl, sym, ap, ◌∙◌}
use mathlib.Core.List.{List, []}
use native.Mathlib.Omega.{arith}
use Rattle.std.specs.Prelude.{Option, None, Some, Result, Ok, is_some}
use Rattle.std.specs.Option.{unwrap_or}
use mathlib.Core.Bool.{Bool, true, false, cond, not}
use lib.Dec.{eqb}
use lib.ListN.{get_or, length-set}
use borrow.Author.Tests.{not-true, le-ltb}
use Rattle.state.specs.Outcome.{Bytes}
use Rattle.state.specs.Refusals.{entry_of}
use Rattle.state.specs.declared.Refusal.{Refusal}
use Rattle.state.proofs.Tests.{and_r, not-both}
use Rattle.multi_cycle_list.specs.Lists.{first, row}
use Rattle.multi_cycle_list.specs.Nodes as nodes
use Rattle.tx_queue.specs.TxQueue.{Sets, Pick, TxQueue, sets_of, place, first_queue, mtu_b, pick_b, filled}
use Rattle.tx_queue.specs.Bytes.{queue_part, ready_at, started_at, flag_at, whole_b, read}
use Rattle.tx_queue.specs.Steps.{is_open, is_registered, started_of, picked}
use Rattle.tx_queue.proofs.Reading.{sets_are, known, conditions}
use Rattle.tx_valid.proofs.Keeping.{picked-inside, picked-place}
use Rattle.tx_valid.proofs.Reading.{read-valid}

-- ---- a pick, an entry

pub registered_is : (s : List ℕ) (e : ℕ) → e < 128 → not (eqb (flag_at s e) 0) ≡ is_registered (sets_of (read s) e)
registered_is s e l = go (eqb (flag_at s e) 0) ∙ ap is_registered (sym (sets_are s e l))
  where
    go : (t : Bool) → not t ≡ is_registered (cond t None (Some (record { ready = ready_at s e; started = started_at s e })))
    go true = refl
    go false = refl

-- the started set of an entry that is registered
pub started_is : (s : List ℕ) (e : ℕ) → e < 128 → is_registered (sets_of (read s) e) ≡ true → started_at s e ≡ started_of (sets_of (read s) e)
started_is s e l h = sym (ap started_of (sets_are s e l) ∙ rw (not-true (eqb (flag_at s e) 0) (registered_is s e l ∙ h)))

some_taken : (m : TxQueue) (p : Pick) (t : Bool) → is_open (cond t None (Some p)) ≡ true → pick_b m (cond t None (Some p)) ≡ true → is_some (first_queue p.mask m) ≡ true
some_taken m p true h q = not-both (sym h)
some_taken m p false h q = and_r (mtu_b p.mtu) (is_some (first_queue p.mask m)) q

-- an open pick has its queue
pub picks-some : (s : List ℕ) → whole_b s ≡ true → is_open (read s).pick ≡ true → is_some (first_queue (get_or s 675 0) (read s)) ≡ true
picks-some s h o = some_taken (read s) (record { mask = get_or s 675 0; mtu = get_or s 676 0 }) (eqb (get_or s 676 0) 0) o (conditions (read s) (known s h).means).pick

-- an entry that has a place is registered
pub placed_registered : (o : Option Sets) (k : ℕ) → place o ≡ Some k → is_registered o ≡ true
placed_registered None k q = cc
placed_registered (Some x) k q = refl

-- the front entry e of the filled queue k
pub record Named (s : List ℕ) (k e : ℕ) : Type 0 where
  pub is : e ≡ picked k (read s)
  pub entry : entry_of e ≡ Ok e
  pub registered : is_registered (sets_of (read s) e) ≡ true

pub front_is : {s : List ℕ} {k n i e : ℕ} {o : Option ℕ} → Bytes s → (whole_b s ≡ true) × (filled (get_or (read s).queues k []) ≡ true)
    → n ≡ k → n < 16 → i ≡ n → o ≡ first (row (nodes.read (queue_part s)) i) → o ≡ Some e → Named s k e
front_is {s = s} {k = k} {e = e} y h a b i f o =
    let l : k < 16 = rw a at b in
    let q : first (get_or (read s).queues k []) ≡ Some e = sym (rw (i, a) at f) ∙ o in
    let m = read s in
    let valid = read-valid s y h.0 in
    let is : e ≡ picked k m = sym (ap (λ o. unwrap_or o 0) q) in
    record {
      is = is;
      entry = in-range e (rw is (picked-inside m valid k l));
      registered = rw is (placed_registered (sets_of m (picked k m)) k (picked-place m valid k l h.1));
    }
  where
    in-range : (e : ℕ) → e < 128 → entry_of e ≡ Ok e
    in-range e l = rw (le-ltb 127 e (omega arith)) refl

-- the entry that is made of its number
pub same_entry : {s : List ℕ} {k e n u : ℕ} {r : Result ℕ Refusal} → Named s k e → n ≡ e → r ≡ entry_of n → r ≡ Ok u → u ≡ e
same_entry {e = e} {u = u} h q a b = go (sym b ∙ a ∙ ap entry_of q ∙ h.entry)
  where
    go : ◌≡◌ {A = Result ℕ Refusal} (Ok u) (Ok e) → u ≡ e
    go p = cc

-- what whole bytes are, and what the code reads of them
pub ruleset looks = (known, length-set, registered_is, started_is, picks-some)
