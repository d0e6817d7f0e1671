use Rattle.gq_coerce.proofs.FormLemmas.{list_form}
use Rattle.gq_coerce.proofs.forms.form_of.Goals as goal

pub returns-in-List : goal.returns-in-List
returns-in-List c = list_form c.args.literal.now c.in-List.items c.in-List.span c.deref.result.now c.in-List.is c.deref.ensures.value
