use Rattle.std.proofs.Common.{◌≡◌, ◌∙◌, ap}
use Rattle.gq_tree.specs.Readings.{unshared_view}
use Rattle.gq_types.specs.Look.{text_of}
use Rattle.gq_table.specs.Views.{entries_view}
use Rattle.gq_document.specs.Definitions.{operations_view, fragments_view}
use Rattle.gq_document.specs.Executable.{ExecutableOf, executable_view}
use Rattle.gq_rules.specs.Project.{defined_in}
use Rattle.gq_exec.specs.Coerced.{coerced_in}
use Rattle.gq_exec.proofs.Meant.{one_executable}
use Rattle.gq_exec.proofs.executing.coerced_by_readings.Goals as goal

pub returns : goal.returns
returns c =
    let same = one_executable _ (defined_in c.args.entries.items (unshared_view c.args.readings.now)) c.in_ok-types.ensures
    (ap operations_view c.deref.ensures.value ∙ c.in_ok-definitions.ensures.operations) (ap fragments_view c.deref-2.ensures.value ∙ c.in_ok-definitions.ensures.fragments) in
    c.in_ok-found.ensures ∙ ap (λ (x : ExecutableOf). coerced_in x (text_of c.args.name) (entries_view c.args.raw.now)) same
