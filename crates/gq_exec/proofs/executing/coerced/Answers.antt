use Rattle.std.proofs.Common.{◌∙◌, ◌++◌, List, ap, subst}
use Rattle.gq_project.specs.declared.document.Doc.{Doc}
use Rattle.gq_tree.specs.Readings.{unshared_view}
use Rattle.gq_parse.specs.Parsed.{AreParsed}
use Rattle.gq_types.specs.BuiltIn.{built_in}
use Rattle.gq_types.specs.Look.{text_of}
use Rattle.gq_table.specs.Views.{entries_view}
use Rattle.gq_document.specs.Definitions.{entries_of, operations_of, fragments_of}
use Rattle.gq_document.specs.Executable.{ExecutableOf}
use Rattle.gq_rules.specs.Project.{defined_in, executable_of}
use Rattle.gq_exec.specs.Coerced.{coerced_in}
use Rattle.gq_exec.proofs.Meant.{one_executable}
use Rattle.gq_exec.proofs.executing.coerced.Goals as goal

pub returns : goal.returns
returns c =
    let readings = unshared_view c.in_ok-readings.readings.items in
    let given = c.in_ok-entries in
    let same = one_executable (defined_in given.entries.items (unshared_view c.deref-2.result.now)) (executable_of readings)
    (ap (λ es. built_in ++ es) (given.ensures ∙ ap (λ rs. entries_of (unshared_view rs)) c.deref.ensures.value))
    (ap (λ rs. operations_of (unshared_view rs)) c.deref-2.ensures.value)
    (ap (λ rs. fragments_of (unshared_view rs)) c.deref-2.ensures.value) in
    let are = subst (λ (ds : List Doc). AreParsed ds readings) c.documents.ensures.all c.in_ok-readings.ensures in
    record {
      readings = readings;
      are_readings = subst (λ (ds : List Doc). AreParsed ds readings) c.project-project.ensures.same are;
      is = c.in_ok-found.ensures ∙ ap (λ (x : ExecutableOf). coerced_in x (text_of c.args.name) (entries_view c.args.raw.now)) same;
    }
