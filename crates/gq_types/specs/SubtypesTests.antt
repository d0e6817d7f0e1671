-- Possible types (section 5.5.2.3) and subtypes (sections 3.6 to 3.8), as tests.
use Rattle.std.specs.Prelude.{Bool, true, false, List, Option, Some, None, is_none, ◌||◌, ◌&&◌}
use Rattle.std.specs.Str.{bytes_eq}
use Rattle.gq_tree.specs.Plain.{TypeOf, named, list_of, non_null}
use Rattle.gq_types.specs.declared.entry.TypeKind.{TypeKind}
use Rattle.gq_types.specs.declared.entry.TypeKind.TheVariants as kind
use Rattle.gq_types.specs.Entries.{Text, EntryOf}
use Rattle.gq_types.specs.Joined.{kind_named}
use Rattle.gq_types.specs.LookUps.{has_kind}
use Rattle.gq_types.specs.Names.{has_member, declares}

abbrev pub is_possible_of : List EntryOf → (type_name object : Text) → Option TypeKind → Bool
is_possible_of es type_name object (Some kind.Object) = bytes_eq type_name object
is_possible_of es type_name object (Some kind.Union) = has_member es type_name object
is_possible_of es type_name object (Some kind.Interface) = declares es object type_name
is_possible_of es type_name object (Some kind.Scalar) = false
is_possible_of es type_name object (Some kind.Enum) = false
is_possible_of es type_name object (Some kind.InputObject) = false
is_possible_of es type_name object None = false

abbrev pub is_possible : List EntryOf → (type_name object : Text) → Bool
is_possible es type_name object = has_kind es kind.Object object && is_possible_of es type_name object (kind_named es type_name)

abbrev pub is_subtype_name : List EntryOf → (sub super : Text) → Bool
is_subtype_name es sub super =
    bytes_eq sub super || (is_possible es super sub || (has_kind es kind.Interface sub && (has_kind es kind.Interface super && declares es sub super)))

abbrev pub may_be_subtype_name : List EntryOf → (sub super : Text) → Bool
may_be_subtype_name es sub super = is_none (kind_named es sub) || (is_none (kind_named es super) || is_subtype_name es sub super)

-- the names' relation, and that of the types
abbrev pub names_relate : List EntryOf → (unknown_too : Bool) → (sub super : Text) → Bool
names_relate es true sub super = may_be_subtype_name es sub super
names_relate es false sub super = is_subtype_name es sub super

abbrev pub covers : {P Q : Type 0} → (Text → Text → Bool) → TypeOf P → TypeOf Q → Bool
covers relate (named sub) (named super) = relate sub.text super.text
covers relate (named sub) (list_of super) = false
covers relate (named sub) (non_null super) = false
covers relate (list_of sub) (named super) = false
covers relate (list_of sub) (list_of super) = covers relate sub super
covers relate (list_of sub) (non_null super) = false
covers relate (non_null sub) (named super) = covers relate sub (named super)
covers relate (non_null sub) (list_of super) = covers relate sub (list_of super)
covers relate (non_null sub) (non_null super) = covers relate sub super
