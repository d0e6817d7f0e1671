-- The tables are made of the files with one more among them.
use Rattle.std.proofs.Common.{List, ◌∙◌, ap, map}
use Rattle.gq_index.specs.declared.files.File.{File}
use Rattle.gq_index.specs.Views.{parts_kept}
use Rattle.gq_index.proofs.FileLemmas.{with_between}
use Rattle.gq_index.proofs.index.Index.insert_at.Goals as goal

pub returns-clause-ok : goal.returns-clause-ok
returns-clause-ok c = record { files = c.in_ok-put_in.ensures.ok; tables = λ readings same. c.in_ok-tables.ensures readings (ap (λ (l : List File). map parts_kept l) (with_between c.as_slice-files.result.now c.args.self.now.files c.args.at c.args.file c.as_slice-files.ensures) ∙ same) }
