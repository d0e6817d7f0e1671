-- Each turn of the loop brings one key to what it finds now.
use Rattle.std.proofs.Common.{drop, subst, arith}
use Rattle.gq_project.specs.Documents as project
use Rattle.gq_events.specs.Documents.{docs_of}
use Rattle.gq_events.proofs.DocumentsKept.{docs_in_order}
use Rattle.gq_events.proofs.Now.{agree_more, agree_still, agree_all, drop_past}
use Rattle.gq_events.proofs.bringing.bring.Goals as goal

pub loop-key-init : goal.loop-key-init
loop-key-init c = record { left = c.requires; all = c.requires }

pub returns-in_err-bring_one-clause-err : goal.returns-in_err-bring_one-clause-err
returns-in_err-bring_one-clause-err c =
    agree_still c.args.changed.now c.loop-key.key-index c.key-item.result c.as_str.result.now c.loop-key-test.true c.key-item.is c.as_str.ensures c.loop-key.kept.documents c.bring_one.new.kept.documents (docs_of c.args.documents.now)
    c.loop-key.invariant.all c.in_err-bring_one.ensures.others

pub loop-key-preserved : goal.loop-key-preserved
loop-key-preserved c = record {
  left = agree_more c.args.changed.now c.loop-key.key-index c.key-item.result c.as_str.result.now c.loop-key-test.true c.key-item.is c.as_str.ensures c.loop-key.kept.documents c.bring_one.new.kept.documents (docs_of c.args.documents.now)
      c.loop-key.invariant.left c.in_ok-bring_one.ensures.now c.in_ok-bring_one.ensures.others;
  all = agree_still c.args.changed.now c.loop-key.key-index c.key-item.result c.as_str.result.now c.loop-key-test.true c.key-item.is c.as_str.ensures c.loop-key.kept.documents c.bring_one.new.kept.documents (docs_of c.args.documents.now)
      c.loop-key.invariant.all c.in_ok-bring_one.ensures.others;
}

pub returns-clause-ok : goal.returns-clause-ok
returns-clause-ok c =
    agree_all (drop c.loop-key.key-index c.args.changed.now) c.loop-key.kept.documents (docs_of c.args.documents.now) (drop_past c.loop-key.key-index c.args.changed.now (omega (arith, c.loop-key-test.false))) c.loop-key.invariant.left
    (subst project.IsInOrder c.project.ensures c.documents-in_order.ensures.in_order) (docs_in_order c.args.documents.now c.texts_fit.ensures.in_order)

pub returns-clause-err : goal.returns-clause-err
returns-clause-err c = c.loop-key.invariant.all
