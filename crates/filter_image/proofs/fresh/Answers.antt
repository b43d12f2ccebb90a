use Rattle.filter_image.proofs.Laws.{fresh-image, holds-none}
use lib.ListN.{replicate}
use Rattle.filter_image.proofs.fresh.Goals as goal

pub returns : goal.returns
returns c = (fresh-image, holds-none (replicate 1024 0) fresh-image)
