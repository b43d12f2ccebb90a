-- The test of a tree's pairs as the code goes: a mark for each entry, at 2 and its number; a pair that is met has a mark from low to high,
-- and gets the mark `met`. A mark of 1 asks for a gap before the pair. No contract of a public call cites this.
use Rattle.std.specs.Prelude.{ℕ, suc, ◌+◌, ◌≡◌, List, [], ◌∷◌, Bool, true, not, ◌&&◌, ◌||◌, eqb, leb, ltb, get_or, set, Option, None, Some}
use Rattle.state.specs.Seq.{all_b, to_nat}
use Rattle.entry_tree.specs.Pairs.{Pair, has_entry, in_range, once_b}
use Rattle.entry_tree.specs.declared.whole.Check.{Check}

abbrev pub mark_of : List ℕ → ℕ → ℕ
mark_of seen e = get_or seen (2 + e) 0

-- `from` is the first subject past the pair before
abbrev pub gap_b : List ℕ → ℕ → Pair → Bool
gap_b seen from p = not (eqb (mark_of seen p.entry) 1) || ltb from p.subject

abbrev pub pair_b : Check → List ℕ → ℕ → Pair → Bool
pair_b c seen from p =
    leb p.entry 127 && (leb p.subject c.most && (leb from (p.subject + to_nat c.same)
    && (leb c.low (mark_of seen p.entry) && (leb (mark_of seen p.entry) c.high
    && gap_b seen from p))))

abbrev pub meets : ℕ → List ℕ → Pair → List ℕ
meets met seen p = set seen (2 + p.entry) met

unfoldable pub pairs_b : Check → List ℕ → ℕ → List Pair → Bool
pairs_b c seen from [] = true
pairs_b c seen from (p ∷ l) = pair_b c seen from p && pairs_b c (meets c.met seen p) (suc p.subject) l

unfoldable pub seen_after : ℕ → List ℕ → List Pair → List ℕ
seen_after met seen [] = seen
seen_after met seen (p ∷ l) = seen_after met (meets met seen p) l

pub record Passed (c : Check) (seen seen' : List ℕ) (l : List Pair) (r : Bool) : Type 0 where
  pub test : r ≡ pairs_b c seen 0 l
  pub marks : r ≡ true → seen' ≡ seen_after c.met seen l

-- ---- what the passed pairs are

abbrev pub order_b : Bool → ℕ → List Pair → Bool
order_b same from [] = true
order_b same from (p ∷ l) = leb from (p.subject + to_nat same) && order_b same (suc p.subject) l

abbrev pub gaps_b : List ℕ → ℕ → List Pair → Bool
gaps_b seen from [] = true
gaps_b seen from (p ∷ l) = gap_b seen from p && gaps_b seen (suc p.subject) l

-- a tree by itself: pairs in range and in order, no entry twice; an entry's mark tells whether it stands there
unfoldable pub pairs_fit_b : ℕ → Bool → List Pair → Bool
pairs_fit_b most same l = in_range most l && (all_b 128 (once_b l) && order_b same 0 l)

pub record Fit (most : ℕ) (same : Bool) (seen : List ℕ) (l : List Pair) (r : Bool) : Type 0 where
  pub test : r ≡ pairs_fit_b most same l
  pub marks : r ≡ true → (e : ℕ) → eqb (mark_of seen e) 3 ≡ has_entry e l

-- a walk points at none, or at an entry met with the mark 3
abbrev pub pointed_b : List ℕ → Option ℕ → Bool
pointed_b seen None = true
pointed_b seen (Some e) = eqb (mark_of seen e) 3
