use Rattle.std.proofs.Common.{refl}
use Rattle.gq_reader.specs.declared.files.FilesFault.TheVariants.{TooDeep}
use Rattle.gqls.proofs.Faults.{same_fault}
use Rattle.gqls.proofs.folder.FolderFiles.list.Goals as goal

pub returns-in-Err-clause-deep : goal.returns-in-Err-clause-deep
returns-in-Err-clause-deep c = λ deep. absurd (c.note.ensures.fault (same_fault _ c.note.result TooDeep refl deep))
