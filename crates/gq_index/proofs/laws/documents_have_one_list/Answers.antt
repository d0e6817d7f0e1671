use Rattle.std.proofs.Common.{◌∙◌, sym}
use Rattle.gq_parse.proofs.OneReading.{same_in_documents}
use Rattle.gq_index.specs.Occurrences.{executable_in}
use Rattle.gq_index.proofs.laws.documents_have_one_list.Goals as goal

pub returns : goal.returns
returns c documents xs ys x y = x.is ∙ same_in_documents c.one_tree.ensures executable_in documents x.readings y.readings x.are_readings y.are_readings ∙ sym y.is
