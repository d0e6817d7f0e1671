-- What a query can be about: the names of fragments, at their definitions (section 2.8) and in spreads,
-- variables, at their definitions (section 2.10) and where they are used (section 5.8), the names of fields in selections
-- (section 2.5), and type conditions (section 2.8.1). All of them stand in operations and fragments.
use Rattle.std.specs.Prelude.{ℕ, List, [], ◌∷◌, ◌++◌, Option, Some, None}
use Rattle.std.specs.List.{flat_map}
use Rattle.gq_text.specs.declared.place.Span.{Span}
use Rattle.gq_tree.specs.Forest.{labels, labels_in}
use Rattle.gq_tree.specs.Plain.{NameOf, Says, Part, Val, DirectiveOf, VariableOf, Head, Sels, Def, field, spread, inline, variable, int, float, string, boolean, null, enum, list, object, operation, fragment, type_system}
use Rattle.gq_renamed.specs.Renamed.{next_number}
use Rattle.gq_mentions.specs.declared.mention.MentionKind.{MentionKind}
use Rattle.gq_mentions.specs.declared.mention.MentionKind.TheVariants as kind

-- a name in the definition of that number, and what it marks in the text
pub record MentionOf : Type 0 where
  pub kind : MentionKind
  pub place : Span
  pub name : NameOf Span
  pub definition : ℕ

-- A name of that kind, in the definition of that number: it marks its name token.
abbrev pub name_mention : MentionKind → ℕ → NameOf Span → MentionOf
name_mention kind n name = record { kind = kind; place = name.place; name = name; definition = n }

-- A variable, in the definition of that number: it marks what goes from its `$` to the end of its name.
abbrev pub variable_mention : ℕ → NameOf Span → Span → MentionOf
variable_mention n name place = record { kind = kind.Variable; place = place; name = name; definition = n }

-- the variable that a value is
abbrev pub says_mentions : ℕ → Says Span → List MentionOf
says_mentions n (variable name place) = variable_mention n name place ∷ []
says_mentions n (int text place) = []
says_mentions n (float text place) = []
says_mentions n (string text place) = []
says_mentions n (boolean value place) = []
says_mentions n (null place) = []
says_mentions n (enum name) = []
says_mentions n (list place) = []
says_mentions n (object place) = []

abbrev pub part_mentions : ℕ → Part Span → List MentionOf
part_mentions n p = says_mentions n p.says

-- those in a value, in the order of the text; so below
abbrev pub value_mentions : ℕ → Val Span → List MentionOf
value_mentions n v = flat_map (part_mentions n) (labels_in v)

abbrev pub argument_mentions : ℕ → List (Val Span) → List MentionOf
argument_mentions n arguments = flat_map (value_mentions n) arguments

abbrev pub directive_mentions : ℕ → List (DirectiveOf Span) → List MentionOf
directive_mentions n directives = flat_map (λ d. argument_mentions n d.arguments) directives

-- the type condition of an inline fragment, where it has one
abbrev pub condition_mentions : ℕ → Option (NameOf Span) → List MentionOf
condition_mentions n None = []
condition_mentions n (Some condition) = name_mention kind.Condition n condition ∷ []

-- what a selection says, the selections in its braces left out
abbrev pub head_mentions : ℕ → Head Span → List MentionOf
head_mentions n (field alias name arguments directives braces place) = name_mention kind.Field n name ∷ (argument_mentions n arguments ++ directive_mentions n directives)
head_mentions n (spread name directives place) = name_mention kind.Fragment n name ∷ directive_mentions n directives
head_mentions n (inline on directives braces place) = condition_mentions n on ++ directive_mentions n directives

-- in selections, at any depth
abbrev pub selection_mentions : ℕ → Sels Span → List MentionOf
selection_mentions n ss = flat_map (head_mentions n) (labels ss)

-- the variable that is defined, and those in its directives
abbrev pub defined_mentions : ℕ → VariableOf Span → List MentionOf
defined_mentions n v = variable_mention n v.name v.place ∷ directive_mentions n v.directives

-- in the definition of that number
abbrev pub mentions_in : ℕ → Def Span → List MentionOf
mentions_in n (operation kind name variables directives set braces place) = flat_map (defined_mentions n) variables ++ (directive_mentions n directives ++ selection_mentions n set)
mentions_in n (fragment name on directives set braces place) = name_mention kind.Fragment n name ∷ name_mention kind.Condition n on ∷ (directive_mentions n directives ++ selection_mentions n set)
mentions_in n (type_system definition) = []

-- in a document, whose executable definitions are numbered one after the other, the first by the given number
abbrev pub mentions : ℕ → List (Def Span) → List MentionOf
mentions n [] = []
mentions n (d ∷ ds) = mentions_in n d ++ mentions (next_number d n) ds
