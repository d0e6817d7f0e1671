use Rattle.gq_merging.proofs.groups.make_room.Goals as goal

pub returns-then-notes : goal.returns-then-notes
returns-then-notes c es rows before = c.forget.ensures es rows

pub returns-else-notes : goal.returns-else-notes
returns-else-notes c es rows before = before
