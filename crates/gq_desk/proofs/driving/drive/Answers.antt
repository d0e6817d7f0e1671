use Rattle.gq_desk.proofs.Drives.{none_where, stands_not_failed}
use Rattle.gq_desk.proofs.driving.drive.Goals as goal

pub returns-then-has_failed-clause-err : goal.returns-then-has_failed-clause-err
returns-then-has_failed-clause-err g c = λ workers earlier st. stands_not_failed workers earlier c.args.desk.now (none_where c.args.desk.now _ c.has_failed.ensures c.if-has_failed.true) st
