-- What is told of type extensions, in the order of the entries, computed.
use Rattle.std.specs.Prelude.{ℕ, true, false, List, [], ◌∷◌, if◌then◌else◌, flat_map}
use Rattle.std.specs.Option.{option_map_or}
use Rattle.gq_text.specs.declared.place.Span.{Span}
use Rattle.gq_fault.specs.declared.code.Code.TheVariants.{BadExtension}
use Rattle.gq_fault.specs.declared.fault.Fault.{Fault}
use Rattle.gq_tree.specs.Plain.{TypeSystemOf, schema, type_definition, directive_definition}
use Rattle.gq_types.specs.Entries.{EntryOf, Numbered}
use Rattle.gq_types.specs.Kinds.{kind_of, same_kind}
use Rattle.gq_types.specs.Joined.{kind_named, judged}
use Rattle.gq_fault.specs.FaultPlaces.{fault_at}

abbrev pub bad_extension : List EntryOf → ℕ → TypeSystemOf Span → List Fault
bad_extension es file (schema extends description directives roots place) = []
bad_extension es file (type_definition true description name directives body place) =
    if option_map_or (same_kind (kind_of body)) (kind_named es name.text) false then [] else fault_at file BadExtension name ∷ []
bad_extension es file (type_definition false description name directives body place) = []
bad_extension es file (directive_definition description name arguments repeatable locations place) = []

abbrev pub bad_extension_at : List EntryOf → Numbered → List Fault
bad_extension_at es n = bad_extension es n.entry.file n.entry.definition

abbrev pub bad_extensions : List EntryOf → List Fault
bad_extensions es = flat_map (bad_extension_at es) (judged es)
