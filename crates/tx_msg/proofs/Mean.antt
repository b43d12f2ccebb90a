-- Whatever is valid is laid out as whole bytes, which mean it; so the theorem of specs/Means.antt.
use Prim.Native.Nat.{ℕ}
use mathlib.Core.Path.{◌≡◌, refl, sym, ap, ◌∙◌, subst}
use mathlib.Core.List.{List}
use Rattle.std.specs.Prelude.{Option, None}
use mathlib.Core.Bool.{true}
use native.Mathlib.Omega.{arith}
use lib.Dec.{eqb}
use lib.ListN.{length, replicate, length-replicate, get_or-replicate}
use borrow.Author.Tests.{eqb-true}
use Rattle.state.specs.Lengths.{messages_length}
use Rattle.state.specs.Outcome.{done, Bytes}
use Rattle.state.specs.declared.Refusal.TheVariants.{NotWhole}
use Rattle.state.proofs.Bytes.{bytes-part, bytes-append}
use Rattle.state.proofs.Outcomes.{opened-is, means_of}
use Rattle.state.proofs.Filled.{zero-bytes}
use Rattle.entry_tree.specs.Places as tree
use Rattle.entry_tree.proofs.Laid as trees
use Rattle.tx_queue.specs.TxQueue.{Sets}
use Rattle.tx_queue.specs.Bytes as queue
use Rattle.tx_queue.specs.Steps.{is_registered}
use Rattle.tx_queue.proofs.Reading.{conditions}
use Rattle.tx_valid.proofs.Reading as queues
use Rattle.tx_valid.proofs.Mean as queue_mean
use Rattle.tx_msg.specs.Registry as registry
use Rattle.tx_msg.specs.Registry.{Registry, fresh}
use Rattle.tx_msg.specs.Bytes.{tree_part, queue_part, whole_b, read, laid}
use Rattle.tx_msg.specs.Steps.{step}
use Rattle.tx_msg.specs.Calls.{opening}
use Rattle.tx_msg.specs.Means.{Valid, Sized, MessagesMeans}
use Rattle.tx_msg.proofs.Parts.{Joined, tree_is, queue-is, long, split, laid-joined, laid_from}
use Rattle.tx_msg.proofs.Facts.{Facts, facts_of, of_facts, at_most, whole_of, of_whole}
use Rattle.tx_msg.proofs.Keeping.{step_valid}

-- ---- whole bytes mean something valid, and are the bytes of what they mean

module _ (b : List ℕ) (y : Bytes b) (h : whole_b b ≡ true) where
  pub read-valid : Valid (read b)
  read-valid = let w = whole_of b h in record { whole = w.means; queue = queues.read-valid (queue_part b) (bytes-part 385 677 b y) w.queue }

  pub tree_self : tree_part b ≡ tree.laid (read b).subjects (tree_part b)
  tree_self = let w = whole_of b h in sym (trees.laid_read (tree_part b) (split b w.long).long-t w.size (bytes-part 0 385 b y))

  pub laid_read : laid (read b) b ≡ b
  laid_read = let w = whole_of b h in sym (laid_from (read b) b (split b w.long) tree_self (sym (queues.laid_read (queue_part b) (bytes-part 385 677 b y) w.queue)))

-- ---- what is laid reads back

module _ (m : Registry) (b : List ℕ) (y : Bytes b) (f : Valid m) (l : length b ≡ messages_length) where
  w : Facts m
  w = facts_of m f.whole

  T : List ℕ
  T = tree.laid m.subjects (tree_part b)

  Q : List ℕ
  Q = queue.laid m.queue (queue_part b)

  j : Joined (laid m b) T Q
  unfolding T Q
  j = laid-joined m b l (at_most m w) (conditions m.queue w.queue).queues

  s : Joined b (tree_part b) (queue_part b)
  s = split b l

  q-bytes : Bytes (queue_part b)
  q-bytes = bytes-part 385 677 b y

  pub read_laid : read (laid m b) ≡ m
  unfolding T Q
  read_laid =
      let t : tree.read (tree_part (laid m b)) ≡ m.subjects = ap tree.read (tree_is (laid m b) T Q j) ∙ trees.read_laid (tree_part b) s.long-t m.subjects (at_most m w) in
      let q : queue.read (queue_part (laid m b)) ≡ m.queue = ap (λ (z : List ℕ). queue.read z) (queue-is (laid m b) T Q j) ∙ queue_mean.read_laid m.queue (queue_part b) q-bytes f.queue s.long-q in
      λ k. record { subjects = t k; queue = q k }

  pub laid_whole : whole_b (laid m b) ≡ true
  unfolding T Q
  laid_whole = of_whole (laid m b) (record {
    long = long (laid m b) T Q j;
    size = omega (arith, ap tree.size (tree_is (laid m b) T Q j), trees.size-laid (tree_part b) s.long-t m.subjects (at_most m w), at_most m w);
    queue = ap queue.whole_b (queue-is (laid m b) T Q j) ∙ queue_mean.laid_whole m.queue (queue_part b) q-bytes f.queue s.long-q;
    means = ap registry.whole_b read_laid ∙ f.whole;
  })

  pub laid_bytes : Bytes (laid m b)
  unfolding T Q
  laid_bytes = subst Bytes (sym j.is) (bytes-append T Q
      (trees.bytes-laid (tree_part b) s.long-t m.subjects (at_most m w) 8191 (bytes-part 0 385 b y) (omega arith) w.range)
      (queue_mean.laid_bytes m.queue (queue_part b) q-bytes f.queue s.long-q))

-- ---- opening

fresh-valid : Valid fresh
fresh-valid = record {
  whole = of_facts fresh (record { queue = (queue_mean.fresh-valid).whole; range = refl; once = λ e. omega arith; rises = refl; named = λ e l. ap is_registered (get_or-replicate {A = Option Sets} 128 e None None l) });
  queue = queue_mean.fresh-valid;
}

opened : (b : ℕ) (a : Unit {0}) (m : Registry) → opening b ≡ done a m → whole_b (laid m (replicate b 0)) ≡ true
unfolding opening
opened b a m h =
    let i = opened-is (eqb b messages_length) tt NotWhole fresh a m h in
    subst (λ (x : Registry). whole_b (laid x (replicate b 0)) ≡ true) i.1
    (laid_whole fresh (replicate b 0) (zero-bytes b) fresh-valid (length-replicate {A = ℕ} b 0 ∙ eqb-true b messages_length i.0))

-- ---- the theorem

pub means : MessagesMeans
means =
    record {
      opened = opened;
      meaning = means_of whole_b read laid Valid Sized laid_bytes laid_whole read_laid step read-valid (λ b h. (whole_of b h).long) laid_read step_valid (λ k m n f z. z);
    }
