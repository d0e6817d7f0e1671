-- Subtypes (sections 3.6 to 3.8): what an object has where it stands for an interface or a union.
use Rattle.std.specs.Prelude.{◌≡◌, true, List, Some}
use Rattle.gq_types.specs.Entries.{Text, EntryOf}
use Rattle.gq_types.specs.Possible.{IsSubtypeName}
use Rattle.gq_types.specs.SubtypesTests.{is_possible}
use Rattle.gq_document.specs.Selections.{FieldOf, field_on}
use Rattle.gq_tree.specs.NamedTypes.{base_name}
use Rattle.gq_meaning.specs.Values.{Values}
use Rattle.gq_meaning.specs.Rewritten.{HasSubtypes}
pub use Rattle.gq_laws.specs.Rewriting.Statics.{static_of}
use Rattle.gq_table.specs.Rows.{RowOf}
use Rattle.gq_collect.specs.Given.{given_in}
use Rattle.gq_rules.specs.Project.{type_system_of}
use Rattle.gq_laws.specs.Rewriting.Promised.{OfValidProjects}

-- each object that is possible for a subtype is possible for the type
abbrev pub HasFewerObjects : List EntryOf → Type 0
HasFewerObjects es = (sub super object : Text) → IsSubtypeName es sub super → is_possible es sub object ≡ true → is_possible es super object ≡ true

-- An object has the field of that name, and each object that is possible for its type is possible for the other type.
pub record HasSubfield (es : List EntryOf) (object text super : Text) : Type 0 where
  pub definition : FieldOf
  pub is_defined : field_on es object text ≡ Some definition
  pub possible : (other : Text) → is_possible es (base_name definition.type_ref) other ≡ true → is_possible es super other ≡ true

-- an object has the fields of each type for which it is possible, each with a subtype
abbrev pub HasSubfields : List EntryOf → Type 0
HasSubfields es = (type_name object text super : Text) → is_possible es type_name object ≡ true → static_of es type_name text ≡ Some super → HasSubfield es object text super

abbrev pub SubtypesHaveFewerObjects : Type 0
SubtypesHaveFewerObjects = OfValidProjects (λ readings. HasFewerObjects (type_system_of readings))

abbrev pub ObjectsHaveFields : Type 0
ObjectsHaveFields = OfValidProjects (λ readings. HasSubfields (type_system_of readings))

-- with any table of results and any values of variables
abbrev pub ObjectsHaveSubtypes : Type 0
ObjectsHaveSubtypes = OfValidProjects (λ readings. (rows : List RowOf) (values : Values) → HasSubtypes (static_of (type_system_of readings)) (given_in (type_system_of readings) rows values))
