-- Places in the type system, and those in executable definitions; faultless projects.
use Rattle.std.proofs.Common.{refl, sym}
use Rattle.gq_fault.specs.declared.fault.Fault.{Fault}
use Rattle.gq_document.specs.Executable.{ExecutableOf}
use Rattle.gq_laws.specs.Placing.Places.{PlacesDoNotMatter}
use Rattle.gq_rules.specs.Files.{together}
use Rattle.gq_laws.specs.Placing.Types.{PlacesOfTypesDoNotMatter, NoPlacesMatter, TreesSayWhatIsFaultless}
use Rattle.gq_rules.specs.Project.{executable_of}
use Rattle.gq_laws.specs.Placing.Names.{SameButNames, NamesDoNotMatter, RenamesKeepFaultless}
use Rattle.gq_laws.proofs.Placing.Documents.{projects_are_same, renamed_are_same}
use Rattle.gq_laws.proofs.Placing.Entries.{types_look_alike}

pub both : (IsFault : ExecutableOf → Fault → Type 0) → PlacesDoNotMatter IsFault → PlacesOfTypesDoNotMatter IsFault → NoPlacesMatter IsFault
both IsFault places types x y s f h =
    let g = places x (record { entries = x.entries; operations = y.operations; fragments = y.fragments }) (record { entries = refl; operations = s.operations; fragments = s.fragments }) f h in
    (g.0, types x.entries y.entries (types_look_alike x.entries y.entries s.entries) y.operations y.fragments g.0 g.1, g.2, g.3)

pub faultless : (IsFault : ExecutableOf → Fault → Type 0) → NoPlacesMatter IsFault → TreesSayWhatIsFaultless IsFault
faultless IsFault law rs qs e none f h =
    let g = law (executable_of qs) (executable_of rs) (projects_are_same qs rs (sym e)) f h in
    none g.0 g.1

turned : (x y : ExecutableOf) → SameButNames x y → SameButNames y x
turned x y s = record { entries = sym s.entries; operations = sym s.operations; fragments = sym s.fragments }

pub renames_keep : (IsFault : ExecutableOf → Fault → Type 0) → NamesDoNotMatter IsFault → RenamesKeepFaultless IsFault
renames_keep IsFault law es rule new before after e none f h =
    let g = law (together es after) (together es before) (turned (together es before) (together es after) (renamed_are_same es rule new before after e)) f h in
    none g.0 g.1
