use Rattle.std.proofs.Common.{[]}
use Rattle.gq_desk_tests.proofs.tests.news.news_comes_behind_the_job_that_it_was_put_with.Given as goal

abbrev pub ghosts-news_comes_behind : goal.ghosts-news_comes_behind
ghosts-news_comes_behind g a = record { book = a.opened.log.book; base = [] }
