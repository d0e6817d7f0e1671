use Rattle.gq_rules.specs.RuleFaults.{IsRuleFault}
use Rattle.gq_laws.proofs.Placing.Both.{faultless}
use Rattle.gq_laws.proofs.places.trees_say_whether_rules_hold.Goals as goal

pub returns : goal.returns
returns c = faultless IsRuleFault c.no_places_matter_to_rules.ensures
