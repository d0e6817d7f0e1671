use Rattle.gq_events.specs.Documents.{docs_of}
use Rattle.gq_desk.proofs.Settled.{none_modified, told_modified, none_shut, told_shut, told_cancelled, others_left, others_told}
use Rattle.gq_desk.proofs.jobs.settle_pending.Goals as goal

pub returns-in_ok-refuse_modified-in-Changes-clause-left : goal.returns-in_ok-refuse_modified-in-Changes-clause-left
returns-in_ok-refuse_modified-in-Changes-clause-left c =
    none_modified (docs_of c.args.documents.now) c.args.effect c.in-Changes.change c.args.pending.items c.new.result.items c.in-Changes.is c.new.ensures.items

pub returns-in_ok-refuse_modified-in-Changes-clause-outs : goal.returns-in_ok-refuse_modified-in-Changes-clause-outs
returns-in_ok-refuse_modified-in-Changes-clause-outs c =
    told_modified (docs_of c.args.documents.now) c.args.effect c.in-Changes.change c.args.pending.items c.args.outs.now.items c.refuse_modified.new.outs.items c.in-Changes.is c.in_ok-refuse_modified-in-Changes.ensures

pub returns-in_ok-refuse_at_shutdown-in-ShutsDown-clause-left : goal.returns-in_ok-refuse_at_shutdown-in-ShutsDown-clause-left
returns-in_ok-refuse_at_shutdown-in-ShutsDown-clause-left c =
    none_shut (docs_of c.args.documents.now) c.args.effect c.in-ShutsDown.id c.args.pending.items c.new-in-ShutsDown.result.items c.in-ShutsDown.is c.new-in-ShutsDown.ensures.items

pub returns-in_ok-refuse_at_shutdown-in-ShutsDown-clause-outs : goal.returns-in_ok-refuse_at_shutdown-in-ShutsDown-clause-outs
returns-in_ok-refuse_at_shutdown-in-ShutsDown-clause-outs c =
    told_shut (docs_of c.args.documents.now) c.args.effect c.in-ShutsDown.id c.args.pending.items c.args.outs.now.items c.refuse_at_shutdown.new.outs.items c.in-ShutsDown.is c.in_ok-refuse_at_shutdown-in-ShutsDown.ensures

pub returns-in_ok-others-in-Cancels-clause-outs : goal.returns-in_ok-others-in-Cancels-clause-outs
returns-in_ok-others-in-Cancels-clause-outs c =
    told_cancelled (docs_of c.args.documents.now) c.args.effect c.in-Cancels.id c.args.pending.items c.args.outs.now.items c.refuse_cancelled.new.outs.items c.in-Cancels.is c.in_ok-others-in-Cancels.ensures.outs

pub returns-in_default-clause-left : goal.returns-in_default-clause-left
returns-in_default-clause-left c =
    others_left (docs_of c.args.documents.now) c.args.effect c.args.pending.items c.in_default.not-Changes c.in_default.not-ShutsDown c.in_default.not-Cancels c.in_default.not-Finishes

pub returns-in_default-clause-outs : goal.returns-in_default-clause-outs
returns-in_default-clause-outs c =
    others_told (docs_of c.args.documents.now) c.args.effect c.args.pending.items c.in_default.not-Changes c.in_default.not-ShutsDown c.in_default.not-Cancels c.in_default.not-Finishes c.args.outs.now.items
