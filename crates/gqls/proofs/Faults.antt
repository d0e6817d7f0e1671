-- Errors that are the same.
use Rattle.std.proofs.Common.{◌≡◌, Result, Err}
use Rattle.gq_reader.specs.declared.files.FilesFault.{FilesFault}

-- the fault of an error is one
pub same_fault : {A : Type 0} (r : Result A FilesFault) (one other : FilesFault) → r ≡ Err one → r ≡ Err other → one ≡ other
same_fault r one other h k = cc
