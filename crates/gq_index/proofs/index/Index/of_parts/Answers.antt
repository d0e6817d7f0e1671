-- The index keeps the parts of the documents, and its tables are made of them.
use Rattle.std.proofs.Common.{List, [], ◌++◌, ◌∙◌, ap, map, append-nil}
use Rattle.gq_index.specs.declared.files.File.{File}
use Rattle.gq_index.specs.Views.{parts_kept}
use Rattle.gq_index.proofs.MendLemmas.{indexed}
use Rattle.gq_index.proofs.index.Index.of_parts.Goals as goal

pub returns : goal.returns
returns c readings are same =
    let files : List File = c.as_slice.result.now in
    indexed c.args.documents.now readings _ are (c.in_ok-files.ensures readings are same)
    (λ others kept. c.in_ok-tables.ensures others (ap (λ (l : List File). map parts_kept l) (append-nil (files ++ []) ∙ append-nil files ∙ c.as_slice.ensures) ∙ kept))
