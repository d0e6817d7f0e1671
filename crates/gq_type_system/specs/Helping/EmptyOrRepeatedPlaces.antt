-- What is told of types without parts and of parts that stand twice, computed.
use Rattle.std.specs.Prelude.{ℕ, Bool, true, false, List, [], ◌∷◌, ◌++◌, Option, Some, None, if◌then◌else◌, flat_map, map, nat_eq, length}
use Rattle.gq_text.specs.declared.place.Span.{Span}
use Rattle.gq_fault.specs.declared.code.Code.TheVariants.{EmptyOrRepeated}
use Rattle.gq_fault.specs.declared.fault.Fault.{Fault}
use Rattle.gq_names.specs.Repeats.{repeated_after}
use Rattle.gq_tree.specs.Plain.{NameOf, InputOf, TypeSystemOf, schema, type_definition, directive_definition}
use Rattle.gq_type_system.specs.declared.parts.Part.{Part}
use Rattle.gq_type_system.specs.declared.parts.Part.TheVariants.{Fields, Interfaces, Members, Values, InputFields}
use Rattle.gq_types.specs.Entries.{Text, EntryOf, Numbered}
use Rattle.gq_types.specs.Joined.{In, judged}
use Rattle.gq_fault.specs.FaultPlaces.{fault_at}
use Rattle.gq_type_system.specs.Parts.{part_names, required_part}
use Rattle.gq_type_system.specs.EmptyOrRepeated.{argument_lists}
use Rattle.gq_type_system.specs.Helping.Walk.{at_each_number}

abbrev pub is_nothing : {A : Type 0} → List A → Bool
is_nothing xs = nat_eq (length xs) 0

abbrev pub empty_part : List EntryOf → ℕ → ℕ → NameOf Span → Option Part → List Fault
empty_part es number file name None = []
empty_part es number file name (Some part) = if is_nothing (part_names part es number) then fault_at file EmptyOrRepeated name ∷ [] else []

abbrev pub empty_type : List EntryOf → ℕ → ℕ → TypeSystemOf Span → List Fault
empty_type es number file (schema extends description directives roots place) = []
empty_type es number file (type_definition true description name directives body place) = []
empty_type es number file (type_definition false description name directives body place) = empty_part es number file name (required_part body)
empty_type es number file (directive_definition description name arguments repeatable locations place) = []

abbrev pub empty_type_at : List EntryOf → Numbered → List Fault
empty_type_at es n = empty_type es n.number n.entry.file n.entry.definition

abbrev pub empty_types : List EntryOf → List Fault
empty_types es = flat_map (empty_type_at es) (judged es)

-- those of some names that stand earlier, or among the names before them
abbrev pub repeated_fault : In (NameOf Span) → Fault
repeated_fault one = fault_at one.file EmptyOrRepeated one.it

abbrev pub repeated_faults_after : List Text → List (In (NameOf Span)) → List Fault
repeated_faults_after before names = map repeated_fault (repeated_after (λ name. name.it.text) before names)

abbrev pub repeated_faults : List (In (NameOf Span)) → List Fault
repeated_faults names = repeated_faults_after [] names

-- the texts of names
abbrev pub texts_of : List (In (NameOf Span)) → List Text
texts_of names = map (λ name. name.it.text) names

abbrev pub all_parts : List Part
all_parts = Fields ∷ Interfaces ∷ Members ∷ Values ∷ InputFields ∷ []

abbrev pub repeated_part : List EntryOf → ℕ → Part → List Fault
repeated_part es number part = repeated_faults (part_names part es number)

abbrev pub repeated_parts_of : List EntryOf → ℕ → List Fault
repeated_parts_of es number = flat_map (repeated_part es number) all_parts

abbrev pub repeated_parts : List EntryOf → List Fault
repeated_parts es = at_each_number (repeated_parts_of es) 0 es

abbrev pub repeated_argument : ℕ → InputOf Span → Fault
repeated_argument file one = fault_at file EmptyOrRepeated one.name

abbrev pub repeated_arguments_after : ℕ → List Text → List (InputOf Span) → List Fault
repeated_arguments_after file before arguments = map (repeated_argument file) (repeated_after (λ a. a.name.text) before arguments)

abbrev pub repeated_arguments_in : ℕ → List (InputOf Span) → List Fault
repeated_arguments_in file arguments = repeated_arguments_after file [] arguments

abbrev pub repeated_arguments_of : ℕ → TypeSystemOf Span → List Fault
repeated_arguments_of file definition = flat_map (repeated_arguments_in file) (argument_lists definition)

abbrev pub repeated_arguments_at : Numbered → List Fault
repeated_arguments_at n = repeated_arguments_of n.entry.file n.entry.definition

abbrev pub repeated_arguments : List EntryOf → List Fault
repeated_arguments es = flat_map repeated_arguments_at (judged es)

-- all three
abbrev pub empty_or_repeated : List EntryOf → List Fault
empty_or_repeated es = empty_types es ++ (repeated_parts es ++ repeated_arguments es)
