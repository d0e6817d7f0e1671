use Rattle.gq_laws.proofs.Placing.Rules.{by_group}
use Rattle.gq_laws.proofs.places.no_places_matter_to_rules.Goals as goal

pub returns : goal.returns
returns c =
    let law = c.no_places_matter.ensures in
    by_group law.operations law.fields law.fragments law.spreads law.variables law.merging
