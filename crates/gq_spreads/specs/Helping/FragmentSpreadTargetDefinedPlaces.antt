-- What is told of spreads whose names no fragment has, in the order of operations, fragments and texts, computed.
use Rattle.std.specs.Prelude.{ℕ, List, [], ◌∷◌, ◌++◌, if◌then◌else◌, flat_map, bytes_eq}
use Rattle.std.specs.List.{list_any}
use Rattle.gq_text.specs.declared.place.Span.{Span}
use Rattle.gq_tree.specs.Names.{spread_names}
use Rattle.gq_tree.specs.Plain.{NameOf, Sels}
use Rattle.gq_fault.specs.declared.code.Code.TheVariants.{UnknownFragment}
use Rattle.gq_fault.specs.declared.fault.Fault.{Fault}
use Rattle.gq_types.specs.Entries.{Text}
use Rattle.gq_document.specs.Definitions.{OperationOf, FragmentOf}
use Rattle.gq_document.specs.Executable.{ExecutableOf}
use Rattle.gq_fault.specs.FaultPlaces.{fault_at}
use Rattle.gq_spreads.specs.Helping.Rows.{texts}

abbrev pub unknown_fragment : List Text → ℕ → NameOf Span → List Fault
unknown_fragment ts file name = if list_any (bytes_eq name.text) ts then [] else fault_at file UnknownFragment name ∷ []

abbrev pub unknown_among : List Text → ℕ → List (NameOf Span) → List Fault
unknown_among ts file names = flat_map (unknown_fragment ts file) names

abbrev pub unknown_in : List Text → ℕ → Sels Span → List Fault
unknown_in ts file set = unknown_among ts file (spread_names set)

abbrev pub unknown_in_operations : List Text → List OperationOf → List Fault
unknown_in_operations ts os = flat_map (λ o. unknown_in ts o.file o.set) os

abbrev pub unknown_in_fragments : List Text → List FragmentOf → List Fault
unknown_in_fragments ts fs = flat_map (λ f. unknown_in ts f.file f.set) fs

abbrev pub unknown_fragments : ExecutableOf → List Fault
unknown_fragments x = unknown_in_operations (texts x.fragments) x.operations ++ unknown_in_fragments (texts x.fragments) x.fragments
