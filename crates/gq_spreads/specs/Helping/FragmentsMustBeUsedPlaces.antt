-- What is told of fragments that are not used, in their order, computed.
use Rattle.std.specs.Prelude.{List, [], ◌∷◌, ◌++◌, if◌then◌else◌, flat_map, map}
use Rattle.std.specs.List.{list_any}
use Rattle.std.specs.Str.{bytes_eq}
use Rattle.gq_text.specs.declared.place.Span.{Span}
use Rattle.gq_tree.specs.Names.{spread_names}
use Rattle.gq_tree.specs.Plain.{Sels}
use Rattle.gq_fault.specs.declared.code.Code.TheVariants.{FragmentNotUsed}
use Rattle.gq_fault.specs.declared.fault.Fault.{Fault}
use Rattle.gq_types.specs.Entries.{Text}
use Rattle.gq_document.specs.Definitions.{OperationOf, FragmentOf}
use Rattle.gq_document.specs.Executable.{ExecutableOf}
use Rattle.gq_fault.specs.FaultPlaces.{fault_at}

-- the names that are spread, each as often as it is
abbrev pub spread_texts : Sels Span → List Text
spread_texts set = map (λ n. n.text) (spread_names set)

abbrev pub texts_of_operation : OperationOf → List Text
texts_of_operation o = spread_texts o.set

abbrev pub texts_of_fragment : FragmentOf → List Text
texts_of_fragment f = spread_texts f.set

abbrev pub all_spread_texts : ExecutableOf → List Text
all_spread_texts x = flat_map texts_of_operation x.operations ++ flat_map texts_of_fragment x.fragments

-- the fault of a fragment whose name is not spread
abbrev pub unused_if : List Text → FragmentOf → List Fault
unused_if spread f = if list_any (bytes_eq f.name.text) spread then [] else fault_at f.file FragmentNotUsed f.name ∷ []

abbrev pub unused_fragments : List Text → List FragmentOf → List Fault
unused_fragments spread fs = flat_map (unused_if spread) fs
