use Rattle.std.proofs.Common.{[]}
use Rattle.gq_desk_tests.proofs.tests.superseded.a_check_of_earlier_documents_is_superseded.Given as goal

abbrev pub ghosts-one_is_superseded : goal.ghosts-one_is_superseded
ghosts-one_is_superseded g a = record { book = a.opened.log.book; base = [] }
