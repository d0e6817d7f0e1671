-- What is looked at may be lent to several threads: shown from its parts.
use denote.Ref.{NamedLft}
use denote.Param.Send.{IsSync, sendable}
use Rattle.std.proofs.Crossing.{crosses}
use Rattle.gq_tree.proofs.Crossing.{Parsed-sync}
use Rattle.gq_document.proofs.Crossing.{Executable-sync}
use Rattle.gq_by_file.specs.contracts.halves.Files as Files

Files-field_sync : (ℓ : NamedLft) → IsSync (Files.the_field ℓ).row
Files-field_sync ℓ = search (sendable, crosses, Executable-sync, Parsed-sync) depth 12

pub Files-sync : (ℓ : NamedLft) → IsSync (Files.the_row ℓ)
Files-sync ℓ = search (sendable, crosses, Files-field_sync) depth 12
