use Rattle.std.proofs.Common.{[]}
use Rattle.gq_desk_tests.proofs.tests.boards.eight_lookers_learn_in_turn.Given as goal

abbrev pub ghosts-told_often : goal.ghosts-told_often
ghosts-told_often g a = record { book = a.opened.log.book; base = [] }
