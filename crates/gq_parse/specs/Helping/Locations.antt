-- The directive location that a word names, computed. Only contracts of private functions speak of it.
use Rattle.std.specs.Prelude.{ℕ, List, Option, Some, None, codes, if◌then◌else◌}
use Rattle.std.specs.Str.{bytes_eq}
use Rattle.gq_tree.specs.declared.type_system.DirectiveLocation.{DirectiveLocation}
use Rattle.gq_tree.specs.declared.type_system.DirectiveLocation.TheVariants as location

-- ExecutableDirectiveLocation (section 3.13)
abbrev pub executable_location : List ℕ → Option DirectiveLocation
executable_location word =
    if bytes_eq word (codes "QUERY") then Some location.Query else
    if bytes_eq word (codes "MUTATION") then Some location.Mutation else
    if bytes_eq word (codes "SUBSCRIPTION") then Some location.Subscription else
    if bytes_eq word (codes "FIELD") then Some location.Field else
    if bytes_eq word (codes "FRAGMENT_DEFINITION") then Some location.FragmentDefinition else
    if bytes_eq word (codes "FRAGMENT_SPREAD") then Some location.FragmentSpread else
    if bytes_eq word (codes "INLINE_FRAGMENT") then Some location.InlineFragment else
    if bytes_eq word (codes "VARIABLE_DEFINITION") then Some location.VariableDefinition else
    None

-- TypeSystemDirectiveLocation (section 3.13)
abbrev pub type_system_location : List ℕ → Option DirectiveLocation
type_system_location word =
    if bytes_eq word (codes "SCHEMA") then Some location.Schema else
    if bytes_eq word (codes "SCALAR") then Some location.Scalar else
    if bytes_eq word (codes "OBJECT") then Some location.Object else
    if bytes_eq word (codes "FIELD_DEFINITION") then Some location.FieldDefinition else
    if bytes_eq word (codes "ARGUMENT_DEFINITION") then Some location.ArgumentDefinition else
    if bytes_eq word (codes "INTERFACE") then Some location.Interface else
    if bytes_eq word (codes "UNION") then Some location.Union else
    if bytes_eq word (codes "ENUM") then Some location.Enum else
    if bytes_eq word (codes "ENUM_VALUE") then Some location.EnumValue else
    if bytes_eq word (codes "INPUT_OBJECT") then Some location.InputObject else
    if bytes_eq word (codes "INPUT_FIELD_DEFINITION") then Some location.InputFieldDefinition else
    None

abbrev pub or_else : Option DirectiveLocation → Option DirectiveLocation → Option DirectiveLocation
or_else None other = other
or_else (Some l) other = Some l

abbrev pub location_named : List ℕ → Option DirectiveLocation
location_named word = or_else (executable_location word) (type_system_location word)
