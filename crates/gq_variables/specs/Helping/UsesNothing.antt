-- What uses no variable, whatever the types are.
use Rattle.std.specs.Prelude.{◌≡◌, ◌||◌, ℕ, Bool, true, false, List, [], Option}
use Rattle.gq_text.specs.declared.place.Span.{Span}
use Rattle.gq_tree.specs.Forest.{none, more}
use Rattle.gq_tree.specs.Plain.{Says, Val, Vals, InputOf, Sel, Sels, variable, int, float, string, boolean, null, enum, list, object}
use Rattle.gq_types.specs.Entries.{Text, EntryOf}
use Rattle.gq_document.specs.Selections.{selected_among}
use Rattle.gq_document.specs.Helping.Trees.{selected_in}
use Rattle.gq_variables.specs.Helping.UsesPlaces.{argument_uses, selection_uses}

-- whether a variable is what a literal says
abbrev pub is_variable : Says Span → Bool
is_variable (variable name span) = true
is_variable (int text span) = false
is_variable (float text span) = false
is_variable (string text span) = false
is_variable (boolean value span) = false
is_variable (null span) = false
is_variable (enum name) = false
is_variable (list span) = false
is_variable (object span) = false

-- whether a variable stands in literals in a row, at any depth
abbrev pub any_variable : Vals Span → Bool
any_variable none = false
any_variable (more part below rest) = (is_variable part.says || any_variable below) || any_variable rest

-- whether a literal is a variable, or one stands in it
abbrev pub has_variable : Val Span → Bool
has_variable value = is_variable value.label.says || any_variable value.below

-- arguments use nothing, whatever their definitions are
abbrev pub ArgumentsUseNothing : List (Val Span) → Type 0
ArgumentsUseNothing arguments = (es : List EntryOf) (file : ℕ) (known : Option (List (InputOf Span))) → argument_uses es file known arguments ≡ []

-- a selection uses nothing, nor do those below it
abbrev pub UsesNothing : Sel Span → Type 0
UsesNothing selection = (es : List EntryOf) (file : ℕ) (parent : Option Text) → selection_uses es (selected_in es file parent selection) ≡ []

-- so of selections in a row
abbrev pub UseNothing : Sels Span → Type 0
UseNothing sels = (es : List EntryOf) (file : ℕ) (parent : Option Text) → selection_uses es (selected_among es file parent sels) ≡ []
