-- What the validity of a project says of its types and selections. That no project is valid and invalid is a premise.
use Rattle.std.proofs.Common.{◌≡◌, ◌++◌, List, Some, refl}
use Rattle.std.specs.Prelude.{codes}
use Rattle.std.proofs.lemmas.Grind.{not_there}
use Rattle.gq_project.specs.declared.document.Doc.{Doc}
use Rattle.gq_fault.specs.declared.fault.Fault.{Fault}
use Rattle.gq_types.specs.declared.entry.TypeKind.TheVariants as kind
use Rattle.gq_types.specs.BuiltIn.{built_in}
use Rattle.gq_types.specs.Entries.{EntryOf}
use Rattle.gq_types.specs.Joined.{kind_named}
use Rattle.gq_type_system.specs.SchemaFaults.{IsSchemaFault, unknown_type, bad_implementation}
use Rattle.gq_document.specs.Definitions.{entries_of}
use Rattle.gq_rules.specs.RuleFaults.{IsRuleFault}
use Rattle.gq_rules.specs.Faults.{IsFaultOf, type_system, first as told_first, rule}
use Rattle.gq_rules.specs.Project.{type_system_of, executable_of}
use Rattle.gq_rules.specs.Validity.{IsValid, IsInvalid}
use Rattle.gq_laws.specs.Rewriting.Promised.{OfValidProjects}
use Rattle.gq_laws.specs.Rewriting.Subtypes.{SubtypesHaveFewerObjects, ObjectsHaveFields, ObjectsHaveSubtypes}
use Rattle.gq_laws.specs.Rewriting.Braces.{SelectionsStandInBraces}
use Rattle.gq_laws.specs.Rewriting.Implementations.{InterfacesAreImplemented, ObjectsHaveSubtypeFields}
use Rattle.gq_laws.specs.Rewriting.ParentsAndFields.{OperationsHaveRoots, ParentsAreKnown, FieldsAreDefined}
use Rattle.gq_laws.proofs.Rewriting.SubtypeLemmas.{fewer_objects, has_subfields}
use Rattle.gq_laws.proofs.Rewriting.StaticLemmas.{has_subtypes}
use Rattle.gq_laws.proofs.Rewriting.BracesLemmas.{operations_braced, fragments_braced, selected_braced}
use Rattle.gq_laws.proofs.Rewriting.WellImplemented.{all_implement_well, have_subtype_fields}
use Rattle.gq_laws.proofs.Rewriting.KnownLemmas.{have_roots, have_parents, have_fields}

-- `String` is built in
string_is_scalar : (es : List EntryOf) → kind_named (built_in ++ es) (codes "String") ≡ Some kind.Scalar
string_is_scalar es = refl

abbrev pub NoneIsBoth : Type 0
NoneIsBoth = (documents : List Doc) → IsValid documents → IsInvalid documents → ⊥

none_demanded : NoneIsBoth → OfValidProjects (λ readings. (item : Fault) → IsFaultOf readings item → ⊥)
none_demanded apart documents valid readings are item demanded = not_there valid (λ v. apart documents v (record { readings = readings; are_readings = are; some = (item, demanded) }))

no_schema : NoneIsBoth → OfValidProjects (λ readings. (item : Fault) → IsSchemaFault (type_system_of readings) item → ⊥)
no_schema apart documents valid readings are item fault = none_demanded apart documents valid readings are item (told_first (type_system fault))

no_rule : NoneIsBoth → OfValidProjects (λ readings. (item : Fault) → IsRuleFault (executable_of readings) item → ⊥)
no_rule apart documents valid readings are item fault =
    let none = none_demanded apart documents valid readings are in
    none item (rule (λ other told. none other (told_first told)) fault)

pub subtypes_have_fewer : NoneIsBoth → SubtypesHaveFewerObjects
subtypes_have_fewer apart documents valid readings are =
    let none = no_schema apart documents valid readings are in
    fewer_objects (type_system_of readings) (λ item f. none item (bad_implementation f))

pub objects_have : NoneIsBoth → ObjectsHaveFields
objects_have apart documents valid readings are =
    let none = no_schema apart documents valid readings are in
    has_subfields (type_system_of readings) (λ item f. none item (bad_implementation f)) (λ item f. none item (unknown_type f))

pub objects_have_subtypes_of : NoneIsBoth → ObjectsHaveSubtypes
objects_have_subtypes_of apart documents valid readings are = has_subtypes (type_system_of readings) (objects_have apart documents valid readings are)

pub operations_have : NoneIsBoth → OperationsHaveRoots
operations_have apart documents valid readings are = have_roots (executable_of readings) (no_schema apart documents valid readings are) (no_rule apart documents valid readings are)

pub parents_known : NoneIsBoth → ParentsAreKnown
parents_known apart documents valid readings are =
    have_parents (executable_of readings) (no_schema apart documents valid readings are) (no_rule apart documents valid readings are) (string_is_scalar (entries_of readings)) (operations_braced are) (fragments_braced are)

pub fields_defined : NoneIsBoth → FieldsAreDefined
fields_defined apart documents valid readings are =
    have_fields (executable_of readings) (no_schema apart documents valid readings are) (no_rule apart documents valid readings are) (string_is_scalar (entries_of readings)) (operations_braced are) (fragments_braced are)

pub stand_in_braces : SelectionsStandInBraces
stand_in_braces documents readings are s stands = selected_braced are (type_system_of readings) s stands

pub interfaces_implemented : NoneIsBoth → InterfacesAreImplemented
interfaces_implemented apart documents valid readings are =
    let none = no_schema apart documents valid readings are in
    all_implement_well (type_system_of readings) (λ item f. none item (bad_implementation f)) (λ item f. none item (unknown_type f))

pub objects_have_subtype_fields_of : NoneIsBoth → ObjectsHaveSubtypeFields
objects_have_subtype_fields_of apart documents valid readings are =
    let none = no_schema apart documents valid readings are in
    have_subtype_fields (type_system_of readings) (λ item f. none item (bad_implementation f)) (λ item f. none item (unknown_type f))
