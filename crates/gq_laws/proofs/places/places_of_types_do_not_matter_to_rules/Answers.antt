use Rattle.gq_laws.proofs.Placing.Rules.{types_by_group}
use Rattle.gq_laws.proofs.places.places_of_types_do_not_matter_to_rules.Goals as goal

pub returns : goal.returns
returns c =
    let law = c.places_of_types_do_not_matter.ensures in
    types_by_group law.operations law.fields law.fragments law.spreads law.variables law.merging
