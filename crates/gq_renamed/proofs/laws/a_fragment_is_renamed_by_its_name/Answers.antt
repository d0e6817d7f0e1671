use Rattle.gq_renamed.proofs.Called.{document_called}
use Rattle.gq_renamed.proofs.laws.a_fragment_is_renamed_by_its_name.Goals as goal

pub returns : goal.returns
returns start old k ds = document_called old k ds
