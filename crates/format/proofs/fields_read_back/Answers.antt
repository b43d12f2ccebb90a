use Rattle.format.proofs.Laws.{at-sot, at-eot, at-toggle, at-id, of_fields}
use Rattle.format.proofs.fields_read_back.Goals as goal

pub returns : goal.returns
returns c = record { sot = at-sot; eot = at-eot; toggle = at-toggle; id = at-id; byte = of_fields }
