-- What every schema has without defining it: the scalars of section 3.5 and the directives of section 3.13.
use Rattle.std.specs.Prelude.{Bool, true, false, List, [], ◌∷◌, Option, Some, None, codes}
use Rattle.std.specs.List.{list_any}
use Rattle.std.specs.Str.{bytes_eq}
use Rattle.gq_text.specs.declared.place.Span.{Span}
use Rattle.gq_tree.specs.declared.type_system.DirectiveLocation.{DirectiveLocation}
use Rattle.gq_tree.specs.declared.type_system.DirectiveLocation.TheVariants as location
use Rattle.gq_tree.specs.Forest.{none}
use Rattle.gq_tree.specs.Plain.{NameOf, Val, string, unnamed, TypeOf, named, non_null, InputOf, scalar_type, object_type, interface_type, union_type, enum_type, input_type, TypeSystemOf, schema, type_definition, directive_definition}
use Rattle.gq_types.specs.Entries.{Text, EntryOf}

-- what stands in no text has an empty place
abbrev pub nowhere : Span
nowhere = record { start = 0; end = 0 }

abbrev pub name : Text → NameOf Span
name text = record { text = text; place = nowhere }

abbrev pub scalar : Text → EntryOf
scalar text = record { file = 0; definition = type_definition false None (name text) [] scalar_type nowhere }

abbrev pub argument : Text → TypeOf Span → Option (Val Span) → InputOf Span
argument text type_ref default = record { description = None; name = name text; type_ref = type_ref; default = default; directives = [] }

abbrev pub directive : Text → InputOf Span → List DirectiveLocation → EntryOf
directive text only locations = record { file = 0; definition = directive_definition None (name text) (only ∷ []) false locations nowhere }

-- the default reason of section 3.13.3, spelled with its quotes
abbrev pub no_longer_supported : Val Span
no_longer_supported = unnamed (string (codes "\"No longer supported\"") nowhere) none

-- Int, Float, String, Boolean, ID; @skip, @include, @deprecated, @specifiedBy
abbrev pub built_in : List EntryOf
built_in =
    scalar (codes "Int") ∷ scalar (codes "Float") ∷ scalar (codes "String") ∷ scalar (codes "Boolean") ∷ scalar (codes "ID")
    ∷ directive (codes "skip") (argument (codes "if") (non_null (named (name (codes "Boolean")))) None) (location.Field ∷ location.FragmentSpread ∷ location.InlineFragment ∷ [])
    ∷ directive (codes "include") (argument (codes "if") (non_null (named (name (codes "Boolean")))) None) (location.Field ∷ location.FragmentSpread ∷ location.InlineFragment ∷ [])
    ∷ directive (codes "deprecated") (argument (codes "reason") (named (name (codes "String"))) (Some no_longer_supported)) (location.FieldDefinition ∷ location.EnumValue ∷ location.ArgumentDefinition ∷ location.InputFieldDefinition ∷ [])
    ∷ directive (codes "specifiedBy") (argument (codes "url") (non_null (named (name (codes "String")))) None) (location.Scalar ∷ [])
    ∷ []

abbrev pub built_in_scalars : List Text
built_in_scalars = codes "Int" ∷ codes "Float" ∷ codes "String" ∷ codes "Boolean" ∷ codes "ID" ∷ []

abbrev pub is_built_in_scalar : Text → Bool
is_built_in_scalar text = list_any (bytes_eq text) built_in_scalars

abbrev pub built_in_directives : List Text
built_in_directives = codes "skip" ∷ codes "include" ∷ codes "deprecated" ∷ codes "specifiedBy" ∷ []

-- Whether it defines a scalar or a directive that is built in. Such a definition is accepted and has no effect.
abbrev pub defines_built_in : TypeSystemOf Span → Bool
defines_built_in (schema extends description directives roots place) = false
defines_built_in (type_definition true description name directives body place) = false
defines_built_in (type_definition false description name directives scalar_type place) = is_built_in_scalar name.text
defines_built_in (type_definition false description name directives (object_type interfaces fields) place) = false
defines_built_in (type_definition false description name directives (interface_type interfaces fields) place) = false
defines_built_in (type_definition false description name directives (union_type members) place) = false
defines_built_in (type_definition false description name directives (enum_type values) place) = false
defines_built_in (type_definition false description name directives (input_type fields) place) = false
defines_built_in (directive_definition description name arguments repeatable locations place) = list_any (bytes_eq name.text) built_in_directives
