use Rattle.multi_cycle_list.specs.Lists.{moved_back}
use Rattle.index_entries.proofs.Acts.{put_list}
use Rattle.index_entries.proofs.change.list_free.Goals as goal

pub returns : goal.returns
returns c = let a = c.args in put_list a.s.now c.requires.0 _ c.lists_end-e.ensures.0 (moved_back 1 a.i) c.inner_move_back.new.s c.inner_move_back.ensures
