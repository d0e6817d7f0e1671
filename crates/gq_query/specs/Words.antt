-- What a hover tells, in the words of a text.
use Rattle.std.specs.Prelude.{List, ◌++◌, Option, None, codes, find, bytes_eq, if◌then◌else◌, option_and_then}
use Rattle.std.specs.Option.{option_map}
use Rattle.std.specs.List.{list_any}
use Rattle.gq_text.specs.declared.place.Span.{Span}
use Rattle.gq_tree.specs.Plain.{TypeOf, named, list_of, non_null}
use Rattle.gq_types.specs.declared.entry.TypeKind.{TypeKind}
use Rattle.gq_types.specs.declared.entry.TypeKind.TheVariants as kind
use Rattle.gq_types.specs.Entries.{Text, EntryOf}
use Rattle.gq_types.specs.BuiltIn.{is_built_in_scalar}
use Rattle.gq_types.specs.Joined.{kind_named}
use Rattle.gq_document.specs.Selections.{field_on}
use Rattle.gq_index.specs.Occurrences.{DefinitionOf}
use Rattle.gq_index.specs.VariableGroups.{fragments_among}
use Rattle.gq_mentions.specs.Mentions.{MentionOf}
use Rattle.gq_query.specs.Parents.{parent_of}

-- a type (section 2.11), with nothing between its tokens
abbrev pub type_words : TypeOf Span → Text
type_words (named name) = name.text
type_words (list_of item) = codes "[" ++ (type_words item ++ codes "]")
type_words (non_null inner) = type_words inner ++ codes "!"

-- the keyword by which a type of that kind is defined (sections 3.5 to 3.10)
abbrev pub keyword_of : TypeKind → Text
keyword_of kind.Scalar = codes "scalar"
keyword_of kind.Object = codes "type"
keyword_of kind.Interface = codes "interface"
keyword_of kind.Union = codes "union"
keyword_of kind.Enum = codes "enum"
keyword_of kind.InputObject = codes "input"

-- `fragment A on Query`
abbrev pub fragment_words : (name on : Text) → Text
fragment_words name on = codes "fragment " ++ (name ++ (codes " on " ++ on))

-- `$a: Int!`
abbrev pub variable_words : Text → TypeOf Span → Text
variable_words name type_ref = codes "$" ++ (name ++ (codes ": " ++ type_words type_ref))

-- `Query.x: Int`
abbrev pub field_words : (type_name name : Text) → TypeOf Span → Text
field_words type_name name type_ref = type_name ++ (codes "." ++ (name ++ (codes ": " ++ type_words type_ref)))

-- `type Query`
abbrev pub condition_words : Text → TypeKind → Text
condition_words name k = keyword_of k ++ (codes " " ++ name)

-- what is told of a fragment: its first definition
abbrev pub fragment_told : List DefinitionOf → Text → Option Text
fragment_told ds text = option_map (λ f. fragment_words f.name.text f.on.text) (find (λ f. bytes_eq text f.name.text) (fragments_among ds))

-- of a field: its definition in the type of its parent (section 5.3.1)
abbrev pub field_told : List EntryOf → List DefinitionOf → MentionOf → Option Text
field_told es ds m = option_and_then (λ type_name. option_map (λ f. field_words type_name m.name.text f.type_ref) (field_on es type_name m.name.text)) (parent_of es ds m)

-- of a type condition: the type, where it is not built in
abbrev pub condition_told : List EntryOf → Text → Option Text
condition_told es text = if is_built_in_scalar text then None else option_map (condition_words text) (kind_named es text)
