-- Which word a token is, for private contracts alone.
use Rattle.std.specs.Prelude.{ℕ, List, [], ◌∷◌, codes, Bool, false, ◌||◌, bytes_eq, if◌then◌else◌}
use Rattle.gq_tree.specs.declared.type_system.DirectiveLocation.{DirectiveLocation}
use Rattle.gq_tree.specs.declared.type_system.DirectiveLocation.TheVariants as location
use Rattle.gq_parse.specs.TypeSystem.{location_word}
use Rattle.gq_parse.specs.declared.expected.Word.{Word}
use Rattle.gq_parse.specs.declared.expected.Word.TheVariants as word

abbrev pub spelling : Word → List ℕ
spelling word.Query = codes "query"
spelling word.Mutation = codes "mutation"
spelling word.Subscription = codes "subscription"
spelling word.Fragment = codes "fragment"
spelling word.On = codes "on"
spelling word.True = codes "true"
spelling word.False = codes "false"
spelling word.Null = codes "null"
spelling word.Extend = codes "extend"
spelling word.Schema = codes "schema"
spelling word.Scalar = codes "scalar"
spelling word.Object = codes "type"
spelling word.Interface = codes "interface"
spelling word.Union = codes "union"
spelling word.Enum = codes "enum"
spelling word.Input = codes "input"
spelling word.Directive = codes "directive"
spelling word.Implements = codes "implements"
spelling word.Repeatable = codes "repeatable"
spelling word.Location = []
spelling word.Other = []

abbrev pub keywords : List Word
keywords =
    word.Query ∷ word.Mutation ∷ word.Subscription ∷ word.Fragment ∷ word.On ∷ word.True ∷ word.False ∷ word.Null ∷ word.Extend
    ∷ word.Schema ∷ word.Scalar ∷ word.Object ∷ word.Interface ∷ word.Union ∷ word.Enum ∷ word.Input ∷ word.Directive
    ∷ word.Implements ∷ word.Repeatable ∷ []

abbrev pub locations : List DirectiveLocation
locations =
    location.Query ∷ location.Mutation ∷ location.Subscription ∷ location.Field ∷ location.FragmentDefinition
    ∷ location.FragmentSpread ∷ location.InlineFragment ∷ location.VariableDefinition ∷ location.Schema ∷ location.Scalar
    ∷ location.Object ∷ location.FieldDefinition ∷ location.ArgumentDefinition ∷ location.Interface ∷ location.Union
    ∷ location.Enum ∷ location.EnumValue ∷ location.InputObject ∷ location.InputFieldDefinition ∷ []

-- whether it is the word of one of these locations
abbrev pub is_location : List DirectiveLocation → List ℕ → Bool
is_location [] text = false
is_location (l ∷ ls) text = bytes_eq text (location_word l) || is_location ls text

-- a word that is no keyword
unfoldable pub other_word : List ℕ → Word
other_word text = if is_location locations text then word.Location else word.Other

-- which of these words it is
abbrev pub word_among : List Word → List ℕ → Word
word_among [] text = other_word text
word_among (w ∷ ws) text = if bytes_eq text (spelling w) then w else word_among ws text

unfoldable pub word_of : List ℕ → Word
word_of text = word_among keywords text
