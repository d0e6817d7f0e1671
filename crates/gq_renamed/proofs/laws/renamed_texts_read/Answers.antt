use Rattle.gq_renamed.proofs.Renaming.{renamed_texts_read as renamed_texts}
use Rattle.gq_renamed.proofs.laws.renamed_texts_read.Goals as goal

pub returns : goal.returns
returns start rule k new text document derives is_name may = renamed_texts rule k new text document derives is_name may
