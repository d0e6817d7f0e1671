use Rattle.std.proofs.Common.{[]}
use Rattle.gq_crew.proofs.crew.run_crew.Given as goal

abbrev pub ghosts-run_opened : goal.ghosts-run_opened
ghosts-run_opened g a = record { book = a.opened.log.book; base = [] }
