use Rattle.gq_laws.proofs.Rewriting.StaticallySound.{fields_are_one_call}
use Rattle.gq_laws.proofs.static_types.fields_of_one_key_are_one_call.Goals as goal

pub returns : goal.returns
returns c = fields_are_one_call c.nothing_is_demanded_of_valid_projects.ensures c.objects_have_subtypes.ensures
