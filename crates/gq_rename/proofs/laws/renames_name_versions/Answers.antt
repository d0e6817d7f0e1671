use Rattle.gq_rename.proofs.LeadingBack.{renames_name_versions}
use Rattle.gq_rename.proofs.laws.renames_name_versions.Goals as goal

pub returns : goal.returns
returns c = renames_name_versions
