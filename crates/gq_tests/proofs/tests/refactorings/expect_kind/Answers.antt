use Rattle.gq_tests.proofs.tests.refactorings.expect_kind.Goals as goal

pub returns-then-is_of : goal.returns-then-is_of
returns-then-is_of c = λ t is_target. c.is_of.ensures c.if-is_of.true t ((c.in_ok-found.ensures t).1 is_target)
