use Rattle.std.proofs.Common.{[]}
use Rattle.gq_desk_tests.proofs.tests.boards.a_told_change_is_found.Given as goal

abbrev pub ghosts-found_across : goal.ghosts-found_across
ghosts-found_across g a = record { book = a.opened.log.book; base = [] }
