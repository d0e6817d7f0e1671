-- Files that are loaded, one after another.
use Rattle.std.specs.Prelude.{◌≡◌, ◌⊎◌, ℕ, List, Bool, true, Option, Some, None}
use Rattle.gq_events.specs.declared.event.Load.{Load}
use Rattle.gq_events.specs.declared.event.LoadedContent.{LoadedContent}
use Rattle.gq_reader.specs.declared.files.FilesFault.{FilesFault}
use Rattle.gq_reader.specs.declared.files.FilesFault.TheVariants as files
use Rattle.gq_reader.specs.declared.fault.RunFault.{RunFault}
use Rattle.gq_reader.specs.declared.fault.RunFault.TheVariants as fault

-- the fault of a run at one of the files
abbrev pub fault_of_files : FilesFault → RunFault
fault_of_files files.TooDeep = fault.TooDeep
fault_of_files files.Device = fault.Device
fault_of_files files.NoMemory = fault.NoMemory

-- why a file was not loaded: the folder has failed, or memory was refused
abbrev pub IsToldOf : Option RunFault → (failed failed' : Bool) → Type 0
IsToldOf told failed failed' = ((told ≡ Some fault.Device) × (failed' ≡ true)) ⊎ ((told ≡ Some fault.NoMemory) × (failed' ≡ failed))

-- the file of a key was loaded, or its fault told
abbrev pub LoadsOne : {F : Type 0} → (F → List ℕ → LoadedContent → F → Type 0) → (F → Bool) → F → List ℕ → Option Load → Option RunFault → F → Option RunFault → Type 0
LoadsOne reads failed files key (Some load) told files' told' =
    (load.key ≡ key) × (load.uri ≡ key) × reads files key load.content files' × (failed files' ≡ failed files) × (told' ≡ told)
LoadsOne reads failed files key None told files' told' = IsToldOf told' (failed files) (failed files')
