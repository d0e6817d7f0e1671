-- Directives in operations and fragments: each is defined, may stand at its location, and stands there twice only where it is
-- repeatable (section 5.7); its arguments are those of its definition, and of their types (sections 5.4 and 5.6).
use Rattle.std.specs.Prelude.{ℕ, List, [], Contains}
use Rattle.gq_text.specs.declared.place.Span.{Span}
use Rattle.gq_fault.specs.declared.fault.Fault.{Fault}
use Rattle.gq_tree.specs.declared.tree.OperationKind.{OperationKind}
use Rattle.gq_tree.specs.declared.tree.OperationKind.TheVariants as operation
use Rattle.gq_tree.specs.declared.type_system.DirectiveLocation.{DirectiveLocation}
use Rattle.gq_tree.specs.declared.type_system.DirectiveLocation.TheVariants as location
use Rattle.gq_tree.specs.Plain.{DirectiveOf, VariableOf, Head, field, spread, inline}
use Rattle.gq_document.specs.Definitions.{OperationOf, FragmentOf}
use Rattle.gq_document.specs.Selections.{SelectedOf}
use Rattle.gq_document.specs.Executable.{ExecutableOf, Selects}
use Rattle.gq_values.specs.DirectiveFaults.{IsDirectiveFault}

-- a place that may have directives: its document, its location (section 3.13), and the directives that it has
pub record Site : Type 0 where
  pub file : ℕ
  pub location : DirectiveLocation
  pub directives : List (DirectiveOf Span)

abbrev pub operation_location : OperationKind → DirectiveLocation
operation_location operation.Query = location.Query
operation_location operation.Mutation = location.Mutation
operation_location operation.Subscription = location.Subscription

abbrev pub selection_location : Head Span → DirectiveLocation
selection_location (field alias name arguments directives braces place) = location.Field
selection_location (spread name directives place) = location.FragmentSpread
selection_location (inline condition directives braces place) = location.InlineFragment

abbrev pub selection_directives : Head Span → List (DirectiveOf Span)
selection_directives (field alias name arguments directives braces place) = directives
selection_directives (spread name directives place) = directives
selection_directives (inline condition directives braces place) = directives

-- an operation, the definition of a variable, a fragment, a field, a fragment spread, and an inline fragment
abbrev pub operation_site : OperationOf → Site
operation_site o = record { file = o.file; location = operation_location o.kind; directives = o.directives }

abbrev pub variable_site : ℕ → VariableOf Span → Site
variable_site file v = record { file = file; location = location.VariableDefinition; directives = v.directives }

abbrev pub fragment_site : FragmentOf → Site
fragment_site f = record { file = f.file; location = location.FragmentDefinition; directives = f.directives }

abbrev pub selection_site : SelectedOf → Site
selection_site s = record { file = s.file; location = selection_location s.selection.label; directives = selection_directives s.selection.label }

-- the places of operations and fragments that may have directives
pub data IsSite (x : ExecutableOf) : Site → Type 0 where
  of_operation : {o : OperationOf} → Contains x.operations o → IsSite x (operation_site o)
  of_variable : {o : OperationOf} {v : VariableOf Span} → Contains x.operations o → Contains o.variables v → IsSite x (variable_site o.file v)
  of_fragment : {f : FragmentOf} → Contains x.fragments f → IsSite x (fragment_site f)
  of_selection : {s : SelectedOf} → Selects x s → IsSite x (selection_site s)

-- what is wrong with the directives at one of them
pub record HasWrongDirective (x : ExecutableOf) (item : Fault) : Type 0 where
  pub site : Site
  pub stands : IsSite x site
  pub fault : IsDirectiveFault x.entries site.file site.location [] site.directives item
