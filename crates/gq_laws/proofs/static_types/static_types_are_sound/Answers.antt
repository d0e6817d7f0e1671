use Rattle.gq_laws.proofs.Rewriting.StaticallySound.{sets_are_sound, fields_are_sound}
use Rattle.gq_laws.proofs.static_types.static_types_are_sound.Goals as goal

pub returns-clause-sets : goal.returns-clause-sets
returns-clause-sets c = sets_are_sound c.nothing_is_demanded_of_valid_projects.ensures c.objects_have_subtypes.ensures

pub returns-clause-fields : goal.returns-clause-fields
returns-clause-fields c = fields_are_sound c.nothing_is_demanded_of_valid_projects.ensures c.objects_have_subtypes.ensures
