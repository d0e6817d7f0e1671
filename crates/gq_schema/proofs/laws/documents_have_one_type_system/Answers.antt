use Rattle.gq_schema.proofs.OneTypeSystem.{one_type_system, not_both}
use Rattle.gq_schema.proofs.laws.documents_have_one_type_system.Goals as goal

pub returns : goal.returns
returns c = record { one = one_type_system c.one_tree.ensures; not_both = not_both c.one_tree.ensures }
