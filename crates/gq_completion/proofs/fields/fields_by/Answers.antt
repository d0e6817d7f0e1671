use Rattle.std.proofs.lemmas.Result.{IfOk-weaker}
use Rattle.gq_tree.specs.Views.{document_view}
use Rattle.gq_types.specs.Look.{types_view}
use Rattle.gq_completion.proofs.CompletionLemmas.{by_schema, without_schema}
use Rattle.gq_completion.proofs.fields.fields_by.Goals as goal

pub returns-then-known : goal.returns-then-known
returns-then-known c =
    IfOk-weaker c.fields_in.result _ _
    (λ names are known. by_schema c.args.known.project.now c.args.known.readings.now (types_view c.args.known.types.now) c.args.known.has_schema (document_view c.args.document.now) c.args.place c.args.offset
    c.documents_have_one_type_system.ensures.one c.if-known.true names.items are known)
    c.fields_in.ensures

pub returns : goal.returns
returns c known =
    without_schema c.args.known.project.now c.args.known.readings.now (types_view c.args.known.types.now) c.args.known.has_schema (document_view c.args.document.now) c.args.place c.args.offset
    c.documents_have_one_type_system.ensures.one c.if-known.false c.new.result.items c.new.ensures.items known
