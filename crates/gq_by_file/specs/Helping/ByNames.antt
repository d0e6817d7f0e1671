-- What is told of names, computed.
use Rattle.std.specs.Prelude.{◌≡◌, ◌↔◌, ◌⊎◌, List, [], ◌∷◌, Contains, flat_map, if◌then◌else◌}
use Rattle.std.specs.List.{list_any}
use Rattle.std.specs.Str.{bytes_eq}
use Rattle.gq_text.specs.declared.place.Span.{Span}
use Rattle.gq_tree.specs.Names.{spread_names}
use Rattle.gq_tree.specs.Plain.{NameOf}
use Rattle.gq_fault.specs.declared.code.Code.TheVariants.{FragmentNotUsed}
use Rattle.gq_fault.specs.declared.fault.Fault.{Fault}
use Rattle.gq_fault.specs.FaultPlaces.{fault_at}
use Rattle.gq_types.specs.Entries.{Text}
use Rattle.gq_document.specs.Definitions.{OperationOf, FragmentOf}
use Rattle.gq_document.specs.Executable.{ExecutableOf}
use Rattle.gq_fragments.specs.LoneAnonymousOperation.{IsNotAlone}
use Rattle.gq_fragments.specs.OperationNameUniqueness.{IsRepeatedOperationName}
use Rattle.gq_by_file.specs.declared.names.FileNames.{FileNames}

-- of operations
abbrev pub IsNamedOperationFault : ExecutableOf → Fault → Type 0
IsNamedOperationFault x f = IsRepeatedOperationName x f ⊎ IsNotAlone x f

-- the names of the spreads in all files
abbrev pub all_spreads : List FileNames → List Text
all_spreads names = flat_map (λ (one : FileNames). one.spreads.items) names

-- a fragment that is not among those that are spread
abbrev pub unused_if : List Text → FragmentOf → List Fault
unused_if spread f = if list_any (bytes_eq f.name.text) spread then [] else fault_at f.file FragmentNotUsed f.name ∷ []

-- a spread in an operation or a fragment, and its name
pub data IsSpreadText (x : ExecutableOf) (text : Text) : Type 0 where
  of_operation : {o : OperationOf} {name : NameOf Span} → Contains x.operations o → Contains (spread_names o.set) name → name.text ≡ text → IsSpreadText x text
  of_fragment : {g : FragmentOf} {name : NameOf Span} → Contains x.fragments g → Contains (spread_names g.set) name → name.text ≡ text → IsSpreadText x text

-- the texts are those of the spreads
abbrev pub AreSpreadsOf : ExecutableOf → List Text → Type 0
AreSpreadsOf x texts = (text : Text) → Contains texts text ↔ IsSpreadText x text
