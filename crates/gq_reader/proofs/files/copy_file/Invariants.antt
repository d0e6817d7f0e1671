use Rattle.std.proofs.Common.{◌≡◌, drop}
use Rattle.gq_reader.specs.Folder.{content_at}
use Rattle.gq_reader.proofs.files.copy_file.Given as goal

abbrev pub invariant-loop-file : goal.invariant-loop-file
invariant-loop-file l = content_at l.key (drop l.file-index l.files) ≡ content_at l.key l.files
