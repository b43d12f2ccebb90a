-- What a call's tests of the sizes tell.
use Rattle.multi_cycle_list.proofs.WholeTools.{whole_length}
use Rattle.multi_cycle_list.proofs.Changes.{rows-length}

pub ruleset sizes = (rows-length, whole_length)
