-- The ends of a trail meet just where a chain closes, and it marks the chain's entries; so the marks tell each entry's class.
use Prim.Native.Nat.{ℕ, zero, suc, ◌+◌, ◌-◌, ◌*◌, ◌<◌, ◌≤◌}
use mathlib.Core.Path.{◌≡◌, refl, sym, ap, ◌∙◌, subst}
use mathlib.Core.Logic.{◌≢◌, ◌⊎◌, inl, inr, ⊎_elim}
use mathlib.Core.List.{List, [], ◌∷◌, ◌++◌, map}
use mathlib.Core.Bool.{Bool, true, false, cond, ◌&&◌}
use native.Mathlib.Omega.{arith}
use native.Mathlib.Decide.{ℕ_discrete}
use native.Mathlib.Numerals.{add-one}
use native.Mathlib.Nat.{not-suc-le-zero}
use lib.ListN.{length, get_or, set, length-set, get_or-replicate, length-replicate}
use lib.Seq.{get_or-set_same, get_or-set_other}
use lib.Dec.{eqb, ltb}
use borrow.Author.Tests.{lt-ltb, le-ltb, ltb-true, ltb-false, eq-eqb, ne_eqb, eqb-true}
use Rattle.std.specs.Prelude.{Option, Some, None, reverse}
use Rattle.std.proofs.lemmas.List.{length-reverse, reverse-append}
use Rattle.std.proofs.lemmas.Option.{cond_some}
use Rattle.state.proofs.Tests.{not-both, and_l, and_r, by_cond}
use Rattle.multi_cycle_list.specs.Nodes.{classes, entries, next, prev, list_of}
use Rattle.multi_cycle_list.specs.declared.link.Link.{Link}
use Rattle.multi_cycle_list.specs.declared.link.Link.TheVariants.{Next, Prev}
use Rattle.multi_cycle_list.specs.Inner.{opposite, link_at, linked, Trail, ended, comes, trail, unmarked, marks_of, meets_at, Sizes}
use Rattle.multi_cycle_list.proofs.Lists.{In, Below, pigeon, in_or-not, in_snoc_old, in_snoc_new, below_snoc}
use Rattle.multi_cycle_list.proofs.Chain.{Joined, Chain, chain_nodup}
use Rattle.multi_cycle_list.proofs.Trace.{chain-trace, map_back}

-- ---- a step of a trail

-- where the links lead
abbrev pub leads : List ℕ → Link → ℕ → ℕ
leads s link i = link_at s i link

opposite-twice : (link : Link) → opposite (opposite link) ≡ link
opposite-twice Next = refl
opposite-twice Prev = refl

module _ (s : List ℕ) (n i : ℕ) (link : Link) (j : ℕ) where
  pub linked_joined : linked s n i link ≡ Some j → (j < n) × Joined (leads s link) (leads s (opposite link)) i j
  linked_joined q =
      let to = link_at s i link in
      let back = eqb (link_at s to (opposite link)) i in
      let r = cond_some (ltb to n && back) to j q in
      subst (λ (x : ℕ). (x < n) × Joined (leads s link) (leads s (opposite link)) i x) r.1
      (ltb-true to n (and_l (ltb to n) back r.0), (refl, eqb-true (link_at s to (opposite link)) i (and_r (ltb to n) back r.0)))

  joined-linked : Joined (leads s link) (leads s (opposite link)) i j → j < n → linked s n i link ≡ Some j
  joined-linked l h = rw (l.0, lt-ltb j n h, eq-eqb (link_at s j (opposite link)) i l.1)

by_comes : (P : Trail → Type 0) (c b : ℕ) (l : List ℕ) (on : ℕ → Trail) (o : Option ℕ) → P (ended false l) → ((x : ℕ) → o ≡ Some x → x ≡ b → P (ended true l))
    → ((x : ℕ) → o ≡ Some x → c ≤ x → P (on x)) → P (comes c b l on o)
by_comes P c b l on None stops meets goes = stops
by_comes P c b l on (Some x) stops meets goes =
    by_cond P (eqb x b) {a = ended true l} {b = cond (ltb x c) (ended false l) (on x)} (λ e. meets x refl (eqb-true x b e))
    (λ _. by_cond P (ltb x c) {a = ended false l} {b = on x} (λ _. stops) (λ w. goes x refl (ltb-false x c w)))

length-trail : (k n c : ℕ) (s : List ℕ) (link : Link) (a b v : ℕ) (l : List ℕ) → length (trail k n c s link a b v l).seen ≡ length l
unfolding trail
length-trail zero n c s link a b v l = refl
length-trail (suc k) n c s link a b v l =
    by_comes (λ t. length t.seen ≡ length l) c b l (λ x. trail k n c s (opposite link) b x v (set l x v)) (linked s n a link) refl (λ x q e. refl)
    (λ x q w. length-trail k n c s (opposite link) b x v (set l x v) ∙ length-set l x v)

-- ---- the code's loop

-- what it answers and marks is T
abbrev pub Came : Bool → List ℕ → Trail → Type 0
Came met l T = record { met : met ≡ T.met; marks : l ≡ T.seen }

-- after i steps, of which the n nodes allow 2 * n: what is left to go comes to T
pub record Left (n c : ℕ) (s : List ℕ) (v : ℕ) (T : Trail) (i : ℕ) (link : Link) (a b : ℕ) (l : List ℕ) : Type 0 where
  pub a_in : a < n
  pub b_in : b < n
  pub is : trail (2 * n - i) n c s link a b v l ≡ T

module _ {n c : ℕ} {s : List ℕ} {v : ℕ} {T : Trail} {i : ℕ} {link : Link} {a b : ℕ} {l : List ℕ} (h : Left n c s v T i link a b l) where
  came : (met : Bool) → trail (2 * n - i) n c s link a b v l ≡ ended met l → Came met l T
  came met q = let e = sym q ∙ h.is in record { met = ap (λ (t : Trail). t.met) e; marks = ap (λ (t : Trail). t.seen) e }

  pub counted : {j : ℕ} → i ≡ j → Left n c s v T j link a b l
  counted e = subst (λ (j : ℕ). Left n c s v T j link a b l) e h

  pub no_step : 2 * n ≤ i → Came false l T
  unfolding trail
  no_step z = came false (let q : 2 * n - i ≡ 0 = omega arith in rw q)

  module _ (p : i < 2 * n) where
    trail-step : trail (2 * n - i) n c s link a b v l ≡ comes c b l (λ x. trail (2 * n - (i + 1)) n c s (opposite link) b x v (set l x v)) (linked s n a link)
    unfolding trail
    trail-step = let q : 2 * n - i ≡ suc (2 * n - (i + 1)) = omega arith in rw q

    pub step_none : None ≡ linked s n a link → Came false l T
    step_none q = came false (trail-step ∙ rw (sym q))

    module _ {x : ℕ} (q : Some x ≡ linked s n a link) where
      pub step_meets : x ≡ b → Came true l T
      step_meets e = came true (trail-step ∙ rw (sym q, eq-eqb x b e))

      module _ (e : x ≢ b) where
        pub step_class : x < c → Came false l T
        step_class w = came false (trail-step ∙ rw (sym q, ne_eqb x b e, lt-ltb x c w))

        pub step_on : c ≤ x → Left n c s v T (i + 1) (opposite link) b x (set l x v)
        step_on w =
            record {
              a_in = h.b_in;
              b_in = (linked_joined s n a link x (sym q)).0;
              is = sym (trail-step ∙ rw (sym q, ne_eqb x b e, le-ltb x c w)) ∙ h.is;
            }

pub ruleset steps = (no_step, step_none, step_meets, step_class)

-- ---- a chain from its other end

reverse_cons : (z : ℕ) (zs : List ℕ) → reverse (z ∷ zs) ≡ reverse zs ++ (z ∷ [])
reverse_cons z zs = reverse-append (z ∷ []) zs

chain_snoc : (C : ℕ) (nx pv : ℕ → ℕ) (ws : List ℕ) (a y b : ℕ) → Chain C nx pv a ws (C + y) → Joined nx pv (C + y) b → Chain C nx pv a (ws ++ (y ∷ [])) b
chain_snoc C nx pv [] a y b p l = (p, l)
chain_snoc C nx pv (w ∷ ws) a y b p l = (p.0, chain_snoc C nx pv ws (C + w) y b p.1 l)

chain-reverse : (C : ℕ) (nx pv : ℕ → ℕ) (zs : List ℕ) (a b : ℕ) → Chain C nx pv a zs b → Chain C pv nx b (reverse zs) a
chain-reverse C nx pv [] a b p = (p.1, p.0)
chain-reverse C nx pv (z ∷ zs) a b p = rw (reverse_cons z zs) (chain_snoc C pv nx (reverse zs) b z a (chain-reverse C nx pv zs (C + z) b p.1) (p.0.1, p.0.0))

below-reverse : (E : ℕ) (zs : List ℕ) → Below E zs → Below E (reverse zs)
below-reverse E [] w = tt
below-reverse E (z ∷ zs) w = rw (reverse_cons z zs) (below_snoc E (reverse zs) z w.0 (below-reverse E zs w.1))

in_reverse : (zs : List ℕ) (e : ℕ) → In e zs → In e (reverse zs)
in_reverse [] e i = i
in_reverse (z ∷ zs) e i = rw (reverse_cons z zs) (⊎_elim (λ q. in_snoc_new (reverse zs) e z q) (λ j. in_snoc_old (reverse zs) e z (in_reverse zs e j)) i)

snoc_in : (ws : List ℕ) (y e : ℕ) → In e (ws ++ (y ∷ [])) → In e ws ⊎ (e ≡ y)
snoc_in [] y e i = ⊎_elim (λ q. inr q) (λ j. absurd j) i
snoc_in (w ∷ ws) y e i = ⊎_elim (λ q. inl (inl q)) (λ j. ⊎_elim (λ k. inl (inr k)) (λ q. inr q) (snoc_in ws y e j)) i

of_reverse : (zs : List ℕ) (e : ℕ) → In e (reverse zs) → In e zs
of_reverse [] e i = i
of_reverse (z ∷ zs) e i = ⊎_elim (λ j. inr (of_reverse zs e j)) (λ q. inl q) (snoc_in (reverse zs) z e (rw (reverse_cons z zs) at i))

-- ---- where the ends meet

record Closed (C E : ℕ) (nx pv : ℕ → ℕ) (a b v : ℕ) (l m : List ℕ) : Type 0 where
  zs : List ℕ
  chain : Chain C nx pv a zs b
  inside : Below E zs
  marked : (e : ℕ) → In e zs → get_or m (C + e) 0 ≡ v
  kept : (e : ℕ) → (In e zs → ⊥) → get_or m (C + e) 0 ≡ get_or l (C + e) 0

-- one entry more, from which the other end went on
closed-more : (C E : ℕ) (nx pv : ℕ → ℕ) (a b v x : ℕ) (l m : List ℕ) → C + E ≤ length l → x < E → Joined nx pv a (C + x) → Closed C E pv nx b (C + x) v (set l (C + x) v) m
    → Closed C E nx pv a b v l m
closed-more C E nx pv a b v x l m fit hx la r =
    record {
      zs = x ∷ reverse r.zs;
      chain = (la, chain-reverse C pv nx r.zs b (C + x) r.chain);
      inside = (hx, below-reverse E r.zs r.inside);
      marked = λ e i.
          ⊎_elim
          (λ q. ⊎_elim
          (λ j. r.marked e j)
          (λ o. r.kept e o ∙ ap (λ (y : ℕ). get_or (set l (C + x) v) (C + y) 0) q ∙ get_or-set_same l (C + x) v 0 (omega arith))
          (in_or-not e r.zs))
          (λ j. r.marked e (of_reverse r.zs e j))
          i;
      kept = λ e o. r.kept e (λ j. o (inr (in_reverse r.zs e j))) ∙ get_or-set_other l (C + x) (C + e) v 0 (λ q. o (inl (omega arith)));
    }

module _ (C E n : ℕ) (hn : n ≡ C + E) (s : List ℕ) where
  closed : (k : ℕ) (link : Link) (a b v : ℕ) (l : List ℕ) → n ≤ length l → (trail k n C s link a b v l).met ≡ true
      → Closed C E (leads s link) (leads s (opposite link)) a b v l (trail k n C s link a b v l).seen
  unfolding trail
  closed zero link a b v l fit = λ h. not-both (sym h)
  closed (suc k) link a b v l fit =
      by_comes (λ t. t.met ≡ true → Closed C E (leads s link) (leads s (opposite link)) a b v l t.seen) C b l
      (λ x. trail k n C s (opposite link) b x v (set l x v)) (linked s n a link)
      (λ h. not-both (sym h))
      (λ x q e h.
      record {
        zs = [];
        chain = subst (λ (y : ℕ). Joined (leads s link) (leads s (opposite link)) a y) e (linked_joined s n a link x q).1;
        inside = tt;
        marked = λ e i. absurd i;
        kept = λ e o. refl;
      })
      (λ x q w h.
      let j = linked_joined s n a link x q in
      let i : x ≡ C + (x - C) = omega arith in
      let m = (trail k n C s (opposite link) b x v (set l x v)).seen in
      let r = closed k (opposite link) b x v (set l x v) (omega (arith, length-set l x v)) h in
      closed-more C E (leads s link) (leads s (opposite link)) a b v (x - C) l m (omega arith) (omega (arith, j.0))
      (subst (λ (y : ℕ). Joined (leads s link) (leads s (opposite link)) a y) i j.1)
      (subst (λ (y : ℕ). Closed C E (leads s (opposite link)) (leads s link) b y v (set l y v) m) i
      (subst (λ (k : Link). Closed C E (leads s (opposite link)) (leads s k) b x v (set l x v) m) (opposite-twice link) r)))

  met-chain : (k : ℕ) (link : Link) (a b v : ℕ) (l zs : List ℕ) → b < n → Below E zs → Chain C (leads s link) (leads s (opposite link)) a zs b → length zs < k
      → (trail k n C s link a b v l).met ≡ true
  unfolding trail
  met-chain zero link a b v l zs hb w p h = absurd (not-suc-le-zero h)
  met-chain (suc k) link a b v l [] hb w p h = rw (joined-linked s n a link b p hb, eq-eqb b b refl)
  met-chain (suc k) link a b v l (z ∷ zs) hb w p h =
      let j = joined-linked s n a link (C + z) p.0 (omega (arith, w.0)) in
      let turned-chain = chain-reverse C (leads s link) (leads s (opposite link)) zs (C + z) b p.1 in
      elim (ℕ_discrete (C + z) b) [
        | yes q ↦ rw (j, eq-eqb (C + z) b q)
        | no q ↦ rw (j, ne_eqb (C + z) b q, le-ltb (C + z) C (omega arith))
            (met-chain k (opposite link) b (C + z) v (set l (C + z) v) (reverse zs) (omega (arith, w.0)) (below-reverse E zs w.1)
            (subst (λ (m : Link). Chain C (leads s (opposite link)) (leads s m) b (reverse zs) (C + z)) (sym (opposite-twice link)) turned-chain)
            (omega (arith, length-reverse zs)))
      ]

-- ---- the marks

-- the class k's trail closes: its list, and the marks
pub record ClosedAt (s : List ℕ) (k : ℕ) : Type 0 where
  pub chain : Chain (classes s) (next s) (prev s) k (list_of s k) k
  pub inside : Below (entries s) (list_of s k)
  pub marked : (e : ℕ) → In e (list_of s k) → get_or (marks_of s (suc k)) (classes s + e) 0 ≡ suc k
  pub kept : (e : ℕ) → (In e (list_of s k) → ⊥) → get_or (marks_of s (suc k)) (classes s + e) 0 ≡ get_or (marks_of s k) (classes s + e) 0

-- the mark at the entry e, after the classes below k: of a class whose list has e; 0 where none has
pub record Met (s : List ℕ) (k e v : ℕ) : Type 0 where
  pub class : ℕ
  pub below : class < k
  pub is : v ≡ suc class
  pub met : In e (list_of s class)

pub record Unmet (s : List ℕ) (k e v : ℕ) : Type 0 where
  pub is : v ≡ 0
  pub none : (d : ℕ) → d < k → In e (list_of s d) → ⊥

pub length-marks_of : (s : List ℕ) (k : ℕ) → length (marks_of s k) ≡ 256
unfolding marks_of unmarked
length-marks_of s zero = length-replicate {A = ℕ} 256 0
length-marks_of s (suc k) = length-trail (2 * (classes s + entries s)) (classes s + entries s) (classes s) s Next k k (k + 1) (marks_of s k) ∙ length-marks_of s k

unmarked-at : (s : List ℕ) (x : ℕ) → x < 256 → get_or (marks_of s 0) x 0 ≡ 0
unfolding marks_of unmarked
unmarked-at s x h = get_or-replicate {A = ℕ} 256 x 0 0 h

module _ (s : List ℕ) (z : Sizes s) where
  pub closed_at : (k : ℕ) → k < classes s → meets_at s k ≡ true → ClosedAt s k
  unfolding marks_of list_of
  closed_at k h q =
      let C = classes s in
      let E = entries s in
      let c = closed C E (C + E) refl s (2 * (C + E)) Next k k (k + 1) (marks_of s k) (omega (arith, length-marks_of s k, z.most, z.fewer)) q in
      let few = pigeon E c.zs (chain_nodup C (next s) (prev s) c.zs k k h c.chain) c.inside in
      let i : c.zs ≡ list_of s k = sym (ap (map (λ x. x - C)) (chain-trace C s c.zs E k k h few c.chain) ∙ map_back C c.zs) in
      record {
        chain = subst (λ (es : List ℕ). Chain C (next s) (prev s) k es k) i c.chain;
        inside = subst (λ (es : List ℕ). Below E es) i c.inside;
        marked = λ e j. c.marked e (subst (λ (es : List ℕ). In e es) (sym i) j) ∙ add-one k;
        kept = λ e o. c.kept e (λ j. o (subst (λ (es : List ℕ). In e es) i j));
      }

  pub marked_by : (k e : ℕ) → k ≤ classes s → e < entries s → ((j : ℕ) → j < k → meets_at s j ≡ true)
      → Met s k e (get_or (marks_of s k) (classes s + e) 0) ⊎ Unmet s k e (get_or (marks_of s k) (classes s + e) 0)
  marked_by zero e hk he h = inr (record { is = unmarked-at s (classes s + e) (omega (arith, z.most, z.fewer)); none = λ d l. absurd (not-suc-le-zero l) })
  marked_by (suc k) e hk he h =
      let c = closed_at k (omega arith) (h k (omega arith)) in
      ⊎_elim
      (λ i. inl (record { class = k; below = omega arith; is = c.marked e i; met = i }))
      (λ o.
      let q = c.kept e o in
      ⊎_elim
      (λ w. inl (record { class = w.class; below = omega (arith, w.below); is = q ∙ w.is; met = w.met }))
      (λ w. inr (record {
        is = q ∙ w.is;
        none = λ d hd i. elim (ℕ_discrete d k) [ yes r ↦ o (subst (λ (j : ℕ). In e (list_of s j)) r i) | no r ↦ w.none d (omega arith) i ];
      }))
      (marked_by k e (omega arith) he (λ j l. h j (omega arith))))
      (in_or-not e (list_of s k))

  pub meets_of : (k : ℕ) → k < classes s → Chain (classes s) (next s) (prev s) k (list_of s k) k → Below (entries s) (list_of s k) → meets_at s k ≡ true
  meets_of k h p w =
      let C = classes s in
      let E = entries s in
      met-chain C E (C + E) refl s (2 * (C + E)) Next k k (k + 1) (marks_of s k) (list_of s k) (omega arith) w p
      (omega (arith, pigeon E (list_of s k) (chain_nodup C (next s) (prev s) (list_of s k) k k h p) w))
