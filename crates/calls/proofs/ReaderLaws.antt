-- Laws of the reader of lines.
use Prim.Native.Nat.{ℕ, ◌+◌, ◌-◌, ◌^◌, ◌<◌, ◌≤◌}
use mathlib.Core.Path.{◌≡◌, refl, sym, ap, ◌∙◌}
use mathlib.Core.Bool.{Bool, true, false, cond}
use mathlib.Core.List.{List, [], ◌∷◌, ◌++◌, append_assoc, append-nil}
use Rattle.std.specs.Prelude.{Option, None, Some, Result, Ok, Err, OnErr}
use Rattle.std.specs.Io.KnownBytes.{Appends, Consumes, IsAtEnd}
use native.Mathlib.Numerals.{add-one}
use native.Mathlib.Omega.{arith}
use lib.Dec.{eqb, ltb}
use lib.ListN.{length, get_or, take, length-append}
use lib.Seq.{take_all, take-append-le, length-take-le, take-suc}
use borrow.Author.Tests.{lt-leb, lt-ltb, le-ltb, ltb-true, ltb-false, ne_eqb}
use Rattle.calls_line.specs.Lines.{does, parsed}
use Rattle.calls.specs.Reader.{Reader, reader, kept, fed, prints, fed_all, prints_all, last, lines, printed, prints_last, Reads}
use Rattle.calls.specs.Inner.{IsStateWithin, Answered}

-- ---- 32 bytes of a line tell what it comes to

parsed-long : (p : List ℕ) → 31 < length p → parsed p ≡ None
unfolding parsed
parsed-long [] h = absurd (omega arith)
parsed-long (c ∷ p) h = rw (lt-leb (length (c ∷ p)) 31 h) refl

parsed-first : (p : List ℕ) → parsed (take 32 p) ≡ parsed p
parsed-first p = by_length (ltb 32 (length p)) refl where
  by_length : (t : Bool) → ltb 32 (length p) ≡ t → parsed (take 32 p) ≡ parsed p
  by_length true h =
      let l = ltb-true 32 (length p) h in
      parsed-long (take 32 p) (omega (arith, length-take-le 32 p (omega arith))) ∙ sym (parsed-long p (omega arith))
  by_length false h = rw (take_all 32 p (ltb-false 32 (length p) h))

does-first : (b p : List ℕ) → does b (take 32 p) ≡ does b p
does-first b p = rw (parsed-first p)

kept-first : (p : List ℕ) (x : ℕ) → kept (take 32 p) x ≡ take 32 (p ++ (x ∷ []))
kept-first p x = by_length (ltb (length p) 32) refl where
  by_length : (t : Bool) → ltb (length p) 32 ≡ t → kept (take 32 p) x ≡ take 32 (p ++ (x ∷ []))
  by_length true h =
      let l = ltb-true (length p) 32 h in
      rw (take_all 32 p (omega arith), h, take_all 32 (p ++ (x ∷ [])) (omega (arith, length-append p (x ∷ []))))
  by_length false h =
      let l = ltb-false (length p) 32 h in
      rw (length-take-le 32 p l, take-append-le 32 p (x ∷ []) l)

-- ---- the bytes of an input print what its lines print

cut-fed : (r : Reader) (a c : List ℕ) → fed_all r (a ++ c) ≡ fed_all (fed_all r a) c
unfolding fed_all
cut-fed r [] c = refl
cut-fed r (x ∷ a) c = cut-fed (fed r x) a c

cut-prints : (r : Reader) (a c : List ℕ) → prints_all r (a ++ c) ≡ prints_all r a ++ prints_all (fed_all r a) c
unfolding fed_all prints_all
cut-prints r [] c = refl
cut-prints r (x ∷ a) c = rw (cut-prints (fed r x) a c, append_assoc (prints r x) (prints_all (fed r x) a) (prints_all (fed_all (fed r x) a) c))

abbrev Same : List ℕ → List ℕ → List ℕ → Type 0
Same b p l = prints_all (reader b (take 32 p)) l ++ prints_last (fed_all (reader b (take 32 p)) l) ≡ printed b (lines p l)

last-first : (b p : List ℕ) → printed b (last (take 32 p)) ≡ printed b (last p)
unfolding printed
last-first b [] = refl
last-first b (c ∷ p) = rw (does-first b (c ∷ p))

same_from : (r : Reader) (b p l : List ℕ) → r ≡ reader b (take 32 p) → Same b p l → prints_all r l ++ prints_last (fed_all r l) ≡ printed b (lines p l)
same_from r b p l q g = rw q g

same : (b p l : List ℕ) → Same b p l
unfolding fed_all prints_all lines printed
same b p [] = last-first b p
same b p (x ∷ l) = by_end (eqb x 10) (same (does b p).state [] l) (same b (p ++ (x ∷ [])) l) where
  by_end : (t : Bool) → Same (does b p).state [] l → Same b (p ++ (x ∷ [])) l
      → (cond t (does b (take 32 p)).text [] ++ prints_all (cond t (reader (does b (take 32 p)).state []) (reader b (kept (take 32 p) x))) l)
      ++ prints_last (fed_all (cond t (reader (does b (take 32 p)).state []) (reader b (kept (take 32 p) x))) l) ≡ printed b (cond t (p ∷ lines [] l) (lines (p ++ (x ∷ [])) l))
  by_end true f g = rw (does-first b p, append_assoc (does b p).text (prints_all (reader (does b p).state []) l) (prints_last (fed_all (reader (does b p).state []) l)), f)
  by_end false f g = same_from (reader b (kept (take 32 p) x)) b (p ++ (x ∷ [])) l (rw (kept-first p x)) g

pub reads : Reads
reads = record { cut = λ r a c. (cut-fed r a c, cut-prints r a c); by_lines = λ b input. same b [] input }

-- ---- one byte

module _ (s p : List ℕ) (b : ℕ) where
  -- a line end: the line was lent as p', and q is what is kept
  module _ (h : b ≡ 10) {p' : List ℕ} (e : p' ≡ p) where
    pub fed_end : {s' q : List ℕ} → s' ≡ (does s p').state → q ≡ [] → reader s' q ≡ fed (reader s p) b
    fed_end d z = rw (h, d, e, z) refl

    -- what is printed is o, and is lent as t, then as u
    pub prints_end : {o t u : List ℕ} → o ≡ (does s p').text → t ≡ o → u ≡ t → u ≡ prints (reader s p) b
    prints_end d f g = rw (h, g, f, d, e) refl

  module _ (h : b ≡ 10 → ⊥) where
    pub fed_kept : length p < 32 → {q : List ℕ} → q ≡ p ++ (b ∷ []) → reader s q ≡ fed (reader s p) b
    fed_kept l z = rw (ne_eqb b 10 h, lt-ltb (length p) 32 l, z) refl

    pub fed_full : 32 ≤ length p → reader s p ≡ fed (reader s p) b
    fed_full l = rw (ne_eqb b 10 h, le-ltb (length p) 32 l) refl

    pub prints_none : [] ≡ prints (reader s p) b
    prints_none = rw (ne_eqb b 10 h) refl

-- ---- bytes that are written and taken

pub appends_none : (o : Option (List ℕ)) → Appends o o []
appends_none None = tt
appends_none (Some xs) = sym (append-nil xs)

pub appends_more : (o p q : Option (List ℕ)) (x y : List ℕ) → Appends o p x → Appends p q y → Appends o q (x ++ y)
appends_more None p q x y h k = tt
appends_more (Some xs) None q x y h k = absurd h
appends_more (Some xs) (Some ys) None x y h k = absurd k
appends_more (Some xs) (Some ys) (Some zs) x y h k = k ∙ rw h (append_assoc xs x y)

pub consumes_none : (o : Option (List ℕ)) → Consumes o o []
consumes_none None = tt
consumes_none (Some xs) = refl

pub consumes_more : (o p q : Option (List ℕ)) (x y : List ℕ) → Consumes o p x → Consumes p q y → Consumes o q (x ++ y)
consumes_more None p q x y h k = tt
consumes_more (Some xs) None q x y h k = absurd h
consumes_more (Some xs) (Some ys) None x y h k = absurd k
consumes_more (Some xs) (Some ys) (Some zs) x y h k = h ∙ rw k (sym (append_assoc x y zs))

-- ---- the bytes of a text, after i of them

-- the reader is `now`, and a writer that held `held` holds `held'`
pub record Feeding (r : Reader) (text : List ℕ) (i : ℕ) (now : Reader) (held held' : Option (List ℕ)) : Type 0 where
  pub reads : now ≡ fed_all r (take i text)
  pub written : Appends held held' (prints_all r (take i text))

pub feeding_none : (r : Reader) (text : List ℕ) (held : Option (List ℕ)) → Feeding r text 0 r held held
unfolding fed_all prints_all
feeding_none r text held = record { reads = refl; written = appends_none held }

fed-one : (r : Reader) (x : ℕ) → fed_all r (x ∷ []) ≡ fed r x
unfolding fed_all
fed-one r x = refl

prints-one : (r : Reader) (x : ℕ) → prints_all r (x ∷ []) ≡ prints r x
unfolding prints_all
prints-one r x = append-nil (prints r x)

one-more : (text : List ℕ) (i : ℕ) → i < length text → take (i + 1) text ≡ take i text ++ (get_or text i 0 ∷ [])
one-more text i h = rw add-one (take-suc text i 0 h)

fed-more : (r : Reader) (text : List ℕ) (i : ℕ) {now now' : Reader} → i < length text → now ≡ fed_all r (take i text) → now' ≡ fed now (get_or text i 0)
    → now' ≡ fed_all r (take (i + 1) text)
fed-more r text i {now} {now'} h q e = rw (one-more text i h, cut-fed r (take i text) (get_or text i 0 ∷ []), ← q, fed-one now (get_or text i 0)) e

pub feeding_more : {r now now' : Reader} {text out : List ℕ} {i : ℕ} {held held' held'' : Option (List ℕ)} → Feeding r text i now held held' → i < length text
    → now' ≡ fed now (get_or text i 0) → out ≡ prints now (get_or text i 0) → Appends held' held'' out → Feeding r text (i + 1) now' held held''
feeding_more {r} {now} {now'} {text} {out} {i} {held} {held'} {held''} f h e w a = record {
  reads = fed-more r text i h f.reads e;
  written =
      rw (one-more text i h, cut-prints r (take i text) (get_or text i 0 ∷ []), ← f.reads, prints-one now (get_or text i 0), ← w)
      (appends_more held held' held'' (prints_all r (take i text)) out f.written a);
}

-- the registry's bytes after the byte at i
pub within : (r : Reader) (text : List ℕ) (i : ℕ) {now now' : Reader} → i < length text → now ≡ fed_all r (take i text) → now' ≡ fed now (get_or text i 0)
    → IsStateWithin r text now'.state
within r text i h q e = (i + 1, omega arith, ap (λ (z : Reader). z.state) (fed-more r text i h q e))

pub on_err : {T E P : Type 0} (r : Result T E) → P → OnErr r P
on_err (Ok x) p = tt
on_err (Err e) p = p

-- ---- the end of the input

pub last_none : (s p : List ℕ) (held : Option (List ℕ)) → length p ≡ 0 → Appends held held (prints_last (reader s p))
unfolding printed
last_none s [] held h = appends_none held
last_none s (x ∷ p) held h = absurd (omega arith)

pub last_some : (s p : List ℕ) → 0 < length p → prints_last (reader s p) ≡ (does s p).text
unfolding printed
last_some s [] h = absurd (omega arith)
last_some s (x ∷ p) h = append-nil (does s (x ∷ p)).text

-- ---- the input, after some turns that each took a byte at least

pub record Reading (b : List ℕ) (turns : ℕ) (left left' held held' : Option (List ℕ)) (now : Reader) : Type 0 where
  pub text : List ℕ
  pub long : turns ≤ length text
  pub taken : Consumes left left' text
  pub reads : now ≡ fed_all (reader b []) text
  pub written : Appends held held' (prints_all (reader b []) text)

pub reading_none : (b : List ℕ) (left held : Option (List ℕ)) → Reading b 0 left left held held (reader b [])
unfolding fed_all prints_all
reading_none b left held = record { text = []; long = omega arith; taken = consumes_none left; reads = refl; written = appends_none held }

pub reading_more : {b : List ℕ} {turns : ℕ} {left left' left'' held held' held'' : Option (List ℕ)} {now now' : Reader} (chunk : List ℕ)
    → Reading b turns left left' held held' now → 0 < length chunk
    → Consumes left' left'' chunk → now' ≡ fed_all now chunk → Appends held' held'' (prints_all now chunk) → Reading b (turns + 1) left left'' held held'' now'
reading_more {b} {turns} {left} {left'} {left''} {held} {held'} {held''} {now} {now'} chunk f h a e w = record {
  text = f.text ++ chunk;
  long = omega (arith, h, f.long, length-append f.text chunk);
  taken = consumes_more left left' left'' f.text chunk f.taken a;
  reads = rw (cut-fed (reader b []) f.text chunk, ← f.reads) e;
  written =
      rw (cut-prints (reader b []) f.text chunk, ← f.reads)
      (appends_more held held' held'' (prints_all (reader b []) f.text) (prints_all now chunk) f.written w);
}

-- a last turn that took nothing
pub reading_stop : {b : List ℕ} {turns : ℕ} {left left' left'' held held' : Option (List ℕ)} {now : Reader} → Reading b turns left left' held held' now
    → Consumes left' left'' [] → Reading b turns left left'' held held' now
reading_stop {b} {turns} {left} {left'} {left''} {held} {held'} {now} f a = record {
  text = f.text;
  long = f.long;
  taken = rw (append-nil f.text) at (consumes_more left left' left'' f.text [] f.taken a);
  reads = f.reads;
  written = f.written;
}

pub answered : {b : List ℕ} {turns : ℕ} {left left' held held' held'' : Option (List ℕ)} {now : Reader} (f : Reading b turns left left' held held' now)
    → (length f.text < 2 ^ 64 - 1 → IsAtEnd left') → Appends held' held'' (prints_last now)
    → Answered b left left' held held''
answered {b} {turns} {left} {left'} {held} {held'} {held''} {now} f e w = record {
  text = f.text;
  taken = f.taken;
  whole = e;
  written =
      rw (← reads.by_lines b f.text)
      (appends_more held held' held'' (prints_all (reader b []) f.text) (prints_last (fed_all (reader b []) f.text)) f.written (rw f.reads at w));
}
