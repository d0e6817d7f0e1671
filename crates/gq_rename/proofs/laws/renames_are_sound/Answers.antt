use Rattle.gq_rename.proofs.Soundness.{are_sound}
use Rattle.gq_rename.proofs.laws.renames_are_sound.Goals as goal

pub returns : goal.returns
returns c = are_sound c.valid_documents_are_trees.ensures c.renamed_projects_read.ensures c.renamed_texts_read.ensures c.no_tree_past_limits.ensures
