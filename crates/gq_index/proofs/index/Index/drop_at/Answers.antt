-- The tables are made of the files that are left.
use Rattle.std.proofs.Common.{List, ◌∙◌, ap, map}
use Rattle.gq_index.specs.declared.files.File.{File}
use Rattle.gq_index.specs.Views.{parts_kept}
use Rattle.gq_index.proofs.FileLemmas.{with_none}
use Rattle.gq_index.proofs.index.Index.drop_at.Goals as goal

pub returns-clause-ok : goal.returns-clause-ok
returns-clause-ok c = record { files = c.take_out.ensures; tables = λ readings same. c.in_ok-tables.ensures readings (ap (λ (l : List File). map parts_kept l) (with_none c.as_slice-files.result.now c.args.self.now.files c.args.at c.as_slice-files.ensures) ∙ same) }
