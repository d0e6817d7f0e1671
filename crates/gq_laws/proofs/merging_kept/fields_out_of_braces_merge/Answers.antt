use Rattle.gq_laws.proofs.Merging.Edits.{fields_out_of_braces_merge}
use Rattle.gq_laws.proofs.merging_kept.fields_out_of_braces_merge.Goals as goal

pub returns : goal.returns
returns c = fields_out_of_braces_merge
