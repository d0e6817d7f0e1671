-- The files of a folder, and how they are found not to be read.
use Rattle.std.specs.Prelude.{ℕ, Bool, true, false, List, [], ◌∷◌, Result, Ok, Err, if◌then◌else◌}
use Rattle.std.specs.Str.{bytes_eq}
use Rattle.gq_events.specs.declared.event.LoadedContent.{LoadedContent}
use Rattle.gq_events.specs.declared.event.LoadedContent.TheVariants as content
use Rattle.gq_reader.specs.declared.files.MemoryFile.{MemoryFile}
use Rattle.gq_reader.specs.declared.files.FilesFault.{FilesFault}
use Rattle.gq_reader.specs.declared.files.FilesFault.TheVariants as files

abbrev pub is_device : FilesFault → Bool
is_device files.Device = true
is_device files.TooDeep = false
is_device files.NoMemory = false

abbrev pub is_device_error : {T : Type 0} → Result T FilesFault → Bool
is_device_error (Ok x) = false
is_device_error (Err fault) = is_device fault

-- what the first file of a key is, of those in memory
abbrev pub content_at : List ℕ → List MemoryFile → LoadedContent
content_at key [] = content.Gone
content_at key (file ∷ files) = if bytes_eq file.key key then file.content else content_at key files
