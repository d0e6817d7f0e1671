-- Kinds of types (section 3.4).
use Rattle.std.specs.Prelude.{ℕ, Bool, true, false, nat_eq}
use Rattle.gq_tree.specs.Plain.{BodyOf, scalar_type, object_type, interface_type, union_type, enum_type, input_type}
use Rattle.gq_types.specs.declared.entry.TypeKind.{TypeKind}
use Rattle.gq_types.specs.declared.entry.TypeKind.TheVariants as kind

-- what a definition of a type defines
abbrev pub kind_of : {P : Type 0} → BodyOf P → TypeKind
kind_of scalar_type = kind.Scalar
kind_of (object_type interfaces fields) = kind.Object
kind_of (interface_type interfaces fields) = kind.Interface
kind_of (union_type members) = kind.Union
kind_of (enum_type values) = kind.Enum
kind_of (input_type fields) = kind.InputObject

abbrev pub kind_number : TypeKind → ℕ
kind_number kind.Scalar = 0
kind_number kind.Object = 1
kind_number kind.Interface = 2
kind_number kind.Union = 3
kind_number kind.Enum = 4
kind_number kind.InputObject = 5

abbrev pub same_kind : TypeKind → TypeKind → Bool
same_kind a b = nat_eq (kind_number a) (kind_number b)

-- input types and output types (section 3.4.2)
abbrev pub is_input : TypeKind → Bool
is_input kind.Scalar = true
is_input kind.Enum = true
is_input kind.InputObject = true
is_input kind.Object = false
is_input kind.Interface = false
is_input kind.Union = false

abbrev pub is_output : TypeKind → Bool
is_output kind.InputObject = false
is_output kind.Scalar = true
is_output kind.Object = true
is_output kind.Interface = true
is_output kind.Union = true
is_output kind.Enum = true

-- composite types are those with selections below them (section 5.3.3)
abbrev pub is_composite : TypeKind → Bool
is_composite kind.Object = true
is_composite kind.Interface = true
is_composite kind.Union = true
is_composite kind.Scalar = false
is_composite kind.Enum = false
is_composite kind.InputObject = false
