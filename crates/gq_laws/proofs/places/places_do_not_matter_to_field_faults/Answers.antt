use Rattle.gq_fields.specs.FieldFaults.{IsFieldFault}
use Rattle.gq_laws.proofs.Placing.Whole.{names_do_not_matter}
use Rattle.gq_laws.proofs.Placing.Bare.{by_names}
use Rattle.gq_laws.proofs.places.places_do_not_matter_to_field_faults.Goals as goal

pub returns : goal.returns
returns c = by_names IsFieldFault names_do_not_matter
