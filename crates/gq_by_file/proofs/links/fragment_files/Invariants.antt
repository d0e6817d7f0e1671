-- the files so far are put under the names of their fragments
use Rattle.std.proofs.Common.{◌≡◌, ◌++◌, drop}
use Rattle.gq_names.specs.UnderNames.{items_under}
use Rattle.gq_types.specs.Entries.{Text}
use Rattle.gq_by_file.specs.Helping.Links.{files_from}
use Rattle.gq_by_file.proofs.links.fragment_files.Given as goal

abbrev pub invariant-loop-file : goal.invariant-loop-file
invariant-loop-file l = (text : Text) → items_under l.table text ++ files_from l.file text (drop l.file l.names) ≡ files_from 0 text l.names
