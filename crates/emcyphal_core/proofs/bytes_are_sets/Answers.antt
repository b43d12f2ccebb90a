use Rattle.emcyphal_core.proofs.Laws.{member, small, whole, numbered, in_order}
use Rattle.emcyphal_core.proofs.bytes_are_sets.Goals as goal

pub returns : goal.returns
returns c = record { member = member; small = small; whole = whole; numbered = λ p. (numbered p).0; named = λ p. (numbered p).1; below = in_order }
