use Rattle.gq_reshape.proofs.LeadingBack.{extracts_name_versions, inlines_name_versions, removes_name_versions}
use Rattle.gq_reshape.proofs.laws.edits_name_documents_at_their_versions.Goals as goal

pub returns-clause-extract : goal.returns-clause-extract
returns-clause-extract c = extracts_name_versions

pub returns-clause-inline : goal.returns-clause-inline
returns-clause-inline c = inlines_name_versions

pub returns-clause-remove : goal.returns-clause-remove
returns-clause-remove c = removes_name_versions
