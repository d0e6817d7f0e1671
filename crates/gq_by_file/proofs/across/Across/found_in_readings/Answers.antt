-- The operations and fragments are those of the documents as they are read.
use Rattle.std.proofs.Common.{ap, ◌∙◌}
use Rattle.gq_tree.specs.Readings.{readings_view}
use Rattle.gq_types.specs.Look.{types_view}
use Rattle.gq_document.specs.Definitions.{fragments_view, operations_view}
use Rattle.gq_by_file.proofs.AcrossLemmas.{same_parts}
use Rattle.gq_by_file.proofs.across.Across.found_in_readings.Goals as goal

pub returns-in_err-definitions-clause-kept : goal.returns-in_err-definitions-clause-kept
returns-in_err-definitions-clause-kept c are = are.kept

pub returns-in_err-faults-clause-kept : goal.returns-in_err-faults-clause-kept
returns-in_err-faults-clause-kept c are =
    c.in_err-faults.ensures.kept (types_view c.args.types.now) (readings_view c.args.readings.now)
    (same_parts (types_view c.args.types.now) _ _ _ _ (ap operations_view c.deref.ensures.value ∙ c.in_ok-definitions.ensures.operations) (ap fragments_view c.deref-2.ensures.value ∙ c.in_ok-definitions.ensures.fragments))
    are

pub returns-clause-kept : goal.returns-clause-kept
returns-clause-kept c are =
    c.in_ok-faults.ensures.kept (types_view c.args.types.now) (readings_view c.args.readings.now)
    (same_parts (types_view c.args.types.now) _ _ _ _ (ap operations_view c.deref.ensures.value ∙ c.in_ok-definitions.ensures.operations) (ap fragments_view c.deref-2.ensures.value ∙ c.in_ok-definitions.ensures.fragments))
    are

pub returns-clause-faults : goal.returns-clause-faults
returns-clause-faults c are f =
    c.in_ok-faults.ensures.faults (types_view c.args.types.now) (readings_view c.args.readings.now)
    (same_parts (types_view c.args.types.now) _ _ _ _ (ap operations_view c.deref.ensures.value ∙ c.in_ok-definitions.ensures.operations) (ap fragments_view c.deref-2.ensures.value ∙ c.in_ok-definitions.ensures.fragments))
    are f
