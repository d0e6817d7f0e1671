-- Faults of directives: their names, places and uniqueness, and their arguments (sections 5.4 and 5.7).
use Rattle.std.specs.Prelude.{◌≡◌, ℕ, Bool, false, List, Some, None, Contains}
use Rattle.std.specs.List.{list_any}
use Rattle.gq_text.specs.declared.place.Span.{Span}
use Rattle.gq_tree.specs.declared.type_system.DirectiveLocation.{DirectiveLocation}
use Rattle.gq_tree.specs.Plain.{DirectiveOf, TypeSystemOf, schema, type_definition, directive_definition}
use Rattle.gq_tree.specs.Same.{same_locations}
use Rattle.gq_names.specs.Repeats.{IsRepeatedAfter}
use Rattle.gq_fault.specs.declared.code.Code.TheVariants.{UnknownDirective, DirectiveInWrongPlace, DirectiveRepeated}
use Rattle.gq_fault.specs.declared.fault.Fault.{Fault}
use Rattle.gq_types.specs.Arguments.{directive_arguments}
use Rattle.gq_types.specs.Directives.{locations_in}
use Rattle.gq_types.specs.Entries.{Text, EntryOf}
use Rattle.gq_types.specs.Names.{directive_named}
use Rattle.gq_fault.specs.FaultPlaces.{fault_at}
use Rattle.gq_values.specs.ArgumentFaults.{IsArgumentFault}

-- whether the definition of a directive is repeatable (section 3.13)
abbrev pub is_repeatable : TypeSystemOf Span → Bool
is_repeatable (schema extends description directives roots place) = false
is_repeatable (type_definition extends description name directives body place) = false
is_repeatable (directive_definition description name arguments repeatable locations place) = repeatable

-- What is wrong with the directives at a place. Before them stand directives of the names `before`: those of the definition
-- where the place is an extension of it.
pub data IsDirectiveFault (es : List EntryOf) (file : ℕ) (location : DirectiveLocation) (before : List Text) (directives : List (DirectiveOf Span)) (fault : Fault) : Type 0 where
  -- section 5.7.1, at the name
  unknown_directive : {d : DirectiveOf Span} →
      Contains directives d → directive_named es d.name.text ≡ None →
      fault ≡ fault_at file UnknownDirective d.name → IsDirectiveFault es file location before directives fault
  -- section 5.7.2, at the name
  directive_in_wrong_place : {d : DirectiveOf Span} {definition : TypeSystemOf Span} →
      Contains directives d → directive_named es d.name.text ≡ Some definition → list_any (same_locations location) (locations_in definition) ≡ false →
      fault ≡ fault_at file DirectiveInWrongPlace d.name → IsDirectiveFault es file location before directives fault
  -- section 5.7.3, at the later name
  directive_repeated : {d : DirectiveOf Span} {definition : TypeSystemOf Span} →
      IsRepeatedAfter (λ d. d.name.text) before directives d → directive_named es d.name.text ≡ Some definition → is_repeatable definition ≡ false →
      fault ≡ fault_at file DirectiveRepeated d.name → IsDirectiveFault es file location before directives fault
  -- sections 5.4 and 5.6, in its arguments
  fault_in_arguments : {d : DirectiveOf Span} →
      Contains directives d → IsArgumentFault es file (directive_arguments es d.name.text) d.name d.arguments fault →
      IsDirectiveFault es file location before directives fault
