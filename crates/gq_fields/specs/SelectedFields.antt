-- The fields among the selections of operations and fragments (section 2.5).
use Rattle.std.specs.Prelude.{◌≡◌, List, Option}
use Rattle.gq_text.specs.declared.place.Span.{Span}
use Rattle.gq_tree.specs.Plain.{NameOf, Val, DirectiveOf, field}
use Rattle.gq_document.specs.Selections.{SelectedOf}
use Rattle.gq_document.specs.Executable.{ExecutableOf, Selects}

-- a selection that is a field, and what it says
pub record SelectsField (x : ExecutableOf) : Type 0 where
  pub selected : SelectedOf
  pub stands : Selects x selected
  pub alias : Option (NameOf Span)
  pub name : NameOf Span
  pub arguments : List (Val Span)
  pub directives : List (DirectiveOf Span)
  pub braces : Option Span
  pub place : Span
  pub is_field : selected.selection.label ≡ field alias name arguments directives braces place
