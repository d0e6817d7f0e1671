use Rattle.std.proofs.Common.{◌≡◌, ◌++◌, drop}
use Rattle.gq_types.specs.Look.{types_view}
use Rattle.gq_document.specs.Definitions.{fragments_view}
use Rattle.gq_fields.specs.Helping.FieldFaultsPlaces.{fragments_faults}
use Rattle.gq_fields.proofs.field_faults.add_faults_of_fragments.Given as goal

abbrev pub invariant-loop-fragment : goal.invariant-loop-fragment
invariant-loop-fragment l = l.faults.items ++ fragments_faults (types_view l.types) (fragments_view (drop l.fragment-index l.fragments)) ≡ l.initial.faults.items ++ fragments_faults (types_view l.types) (fragments_view l.fragments)
