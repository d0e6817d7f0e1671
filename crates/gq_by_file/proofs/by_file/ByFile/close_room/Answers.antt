-- Each part stays.
use Rattle.gq_by_file.proofs.by_file.ByFile.close_room.Goals as goal

pub returns : goal.returns
returns c es us rs one are = record {
  owned = c.close_room.ensures es us rs one are.owned;
  across = c.close_room-2.ensures es us rs one are.across;
}
