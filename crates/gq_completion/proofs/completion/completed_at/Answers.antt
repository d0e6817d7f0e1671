use Rattle.std.proofs.Common.{◌≡◌, List, Some, length, refl, sym, subst}
use Rattle.std.specs.Prelude.{slice_get}
use Rattle.std.proofs.lemmas.Option.{slice_get_read, slice_get_past}
use Rattle.std.proofs.lemmas.Result.{IfOk-weaker}
use Rattle.gq_project.specs.declared.document.Doc.{Doc}
use Rattle.gq_tree.specs.declared.parsed.Parsed.{Parsed}
use Rattle.gq_tree.specs.Readings.{parsed_view}
use Rattle.gq_parse.specs.Parsed.{IsParsed}
use Rattle.gq_types.specs.Look.{types_view}
use Rattle.gq_completion.proofs.CompletionLemmas.{at_number, no_reading}
use Rattle.gq_completion.proofs.completion.completed_at.Goals as goal

pub returns-in_default-get : goal.returns-in_default-get
returns-in_default-get c known document found =
    let readings = c.args.known.readings.now in
    no_reading c.args.known.project.now readings (types_view c.args.known.types.now) c.args.known.has_schema c.args.offset c.args.number c.new-in_default-get.result.items
    (slice_get_past readings c.args.number c.in_default-get.ensures.lookup.3) known document found

pub returns : goal.returns
returns c =
    let readings = c.args.known.readings.now in
    let documents = c.documents.result.now in
    let document = c.in-Some.document.now in
    let reading = c.in-Some-get.reading.now in
    let stands = slice_get_read documents (length documents) c.args.number document refl c.in-Some.ensures.lookup.3.0 c.in-Some.ensures.lookup.1 in
    let reads = slice_get_read readings (length readings) c.args.number reading refl c.in-Some-get.ensures.lookup.3.0 c.in-Some-get.ensures.lookup.1 in
    IfOk-weaker c.completed.result _ _
    (λ all are. at_number c.args.known.project.now readings (types_view c.args.known.types.now) c.args.known.has_schema c.args.offset c.args.number all.items
    document reading c.as_str.result.now c.as_str.ensures (subst (λ (ds : List Doc). slice_get ds c.args.number ≡ Some document) c.documents.ensures.all stands) reads
    (λ known is. are known (subst (λ (r : Parsed). IsParsed c.as_str.result.now (parsed_view r)) (sym c.deref.ensures) is)))
    c.completed.ensures
