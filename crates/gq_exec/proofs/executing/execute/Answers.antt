use Rattle.std.proofs.Common.{List, refl, subst}
use Rattle.gq_project.specs.declared.document.Doc.{Doc}
use Rattle.gq_tree.specs.Readings.{unshared_view}
use Rattle.gq_parse.specs.Parsed.{AreParsed}
use Rattle.gq_types.specs.Look.{text_of}
use Rattle.gq_document.specs.Definitions.{operations_of, fragments_of}
use Rattle.gq_exec.proofs.Meant.{ranked}
use Rattle.gq_exec.proofs.executing.execute.Goals as goal

pub by_readings-requires : goal.by_readings-requires
by_readings-requires c =
    let documents = c.args.valid.now in
    let read = unshared_view c.in_ok-readings.readings.items in
    let are = subst (λ (ds : List Doc). AreParsed ds read) c.project-project.ensures.same (subst (λ (ds : List Doc). AreParsed ds read) c.documents.ensures.all c.in_ok-readings.ensures) in
    rw c.deref-2.ensures.value
    (ranked (operations_of read) (operations_of read) (fragments_of read) (fragments_of read) (text_of c.args.name)
    (c.fragments_can_be_ranked.ensures documents c.project-project.ensures.valid read are) refl refl)
