use Rattle.gq_replies.proofs.OneReply.{questions_have_one_answer}
use Rattle.gq_replies.proofs.laws.questions_have_one_answer.Goals as goal

pub returns : goal.returns
returns c =
    let offers = c.offers_are_determined.ensures in
    questions_have_one_answer c.documents_have_one_list.ensures c.documents_have_one_type_system.ensures.one c.renames_are_determined.ensures c.prepared_names_are_determined.ensures offers.extract offers.inline offers.remove
