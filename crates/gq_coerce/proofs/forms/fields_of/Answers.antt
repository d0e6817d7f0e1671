use Rattle.gq_coerce.proofs.FormLemmas.{object_form}
use Rattle.gq_coerce.proofs.forms.fields_of.Goals as goal

pub returns-in-Object-clause-some : goal.returns-in-Object-clause-some
returns-in-Object-clause-some c = object_form c.args.literal.now c.in-Object.fields c.in-Object.span c.deref.result.now c.in-Object.is c.deref.ensures.value
