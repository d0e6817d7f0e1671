-- The faults of fields, arguments, directives and default values where a spread is inlined: none that was not there.
use Rattle.std.proofs.Common.{◌≡◌, ℕ, true, List, [], ◌∷◌, ◌++◌, Option, Some, None, Contains, inl, inr, refl, sym, ap, ◌∙◌, subst}
use Rattle.std.specs.Prelude.{codes}
use Rattle.std.specs.List.{list_any}
use Rattle.std.proofs.lemmas.Option.{same_Some}
use Rattle.gq_text.specs.declared.place.Span.{Span}
use Rattle.gq_fault.specs.declared.fault.Fault.{Fault}
use Rattle.gq_fault.specs.FaultPlaces.{fault_at}
use Rattle.gq_fault.specs.declared.code.Code.TheVariants as code
use Rattle.gq_tree.specs.declared.type_system.DirectiveLocation.TheVariants as location
use Rattle.gq_tree.specs.Plain.{NameOf, Val, DirectiveOf, TypeSystemOf, non_null, named, field, Sels}
use Rattle.gq_tree.specs.Same.{same_locations}
use Rattle.gq_types.specs.Entries.{Text, EntryOf}
use Rattle.gq_types.specs.BuiltIn.{built_in, nowhere}
use Rattle.gq_types.specs.BuiltIn as built
use Rattle.gq_types.specs.Directives.{locations_in}
use Rattle.gq_types.specs.Names.{directive_named}
use Rattle.gq_document.specs.Selections.{SelectedOf}
use Rattle.gq_document.specs.Executable.{ExecutableOf, Selects}
use Rattle.gq_values.specs.Literals.{default_at}
use Rattle.gq_values.specs.LiteralFaults.{IsLiteralFault}
use Rattle.gq_values.specs.DirectiveFaults.{IsDirectiveFault, unknown_directive, directive_in_wrong_place, directive_repeated, fault_in_arguments}
use Rattle.gq_fields.specs.SelectedFields.{SelectsField}
use Rattle.gq_fields.specs.Directives.{Site, operation_site, variable_site, fragment_site, selection_location, selection_directives, selection_site, IsSite, HasWrongDirective}
use Rattle.gq_fields.specs.Directives as sites
use Rattle.gq_fields.specs.FieldFaults.{IsFieldFault, unknown_field, wrong_selections, wrong_argument, wrong_directive, wrong_default}
use Rattle.gq_rules.specs.Files.{in_file}
use Rattle.gq_laws.specs.Rewriting.Edits.{SpreadAt}
use Rattle.gq_laws.specs.RewrittenValid.InlinedSpread.{IsCondition}
use Rattle.gq_laws.proofs.Placing.Elsewhere.{argument_elsewhere, directive_elsewhere}
use Rattle.gq_laws.proofs.RewrittenValid.InlinedProject.{inlined_executable}
use Rattle.gq_laws.proofs.RewrittenValid.InlinedFacts.{CanBeInlined, was_operation, was_fragment, CameSelected, was_there, was_spread, was_in_fragment, came_selected}

-- what is built in
abbrev condition_definition : Text → TypeSystemOf Span
condition_definition text =
    (built.directive text (built.argument (codes "if") (non_null (named (built.name (codes "Boolean")))) None) (location.Field ∷ location.FragmentSpread ∷ location.InlineFragment ∷ [])).definition

skip_is : (own : List EntryOf) → directive_named (built_in ++ own) (codes "skip") ≡ Some (condition_definition (codes "skip"))
skip_is own = refl

include_is : (own : List EntryOf) → directive_named (built_in ++ own) (codes "include") ≡ Some (condition_definition (codes "include"))
include_is own = refl

-- Such a directive may stand at an inline fragment.
may_stand : (own : List EntryOf) (d : DirectiveOf Span) (definition : TypeSystemOf Span) → IsCondition d → directive_named (built_in ++ own) d.name.text ≡ Some definition →
    list_any (same_locations location.InlineFragment) (locations_in definition) ≡ true
may_stand own d definition (inl e) h =
    let one : Some (condition_definition (codes "skip")) ≡ Some definition = sym (skip_is own) ∙ ap (directive_named (built_in ++ own)) (sym e) ∙ h in
    ap (λ z. list_any (same_locations location.InlineFragment) (locations_in z)) (sym (same_Some (condition_definition (codes "skip")) definition one))
may_stand own d definition (inr e) h =
    let one : Some (condition_definition (codes "include")) ≡ Some definition = sym (include_is own) ∙ ap (directive_named (built_in ++ own)) (sym e) ∙ h in
    ap (λ z. list_any (same_locations location.InlineFragment) (locations_in z)) (sym (same_Some (condition_definition (codes "include")) definition one))

at_spread : (es own : List EntryOf) → es ≡ built_in ++ own → (file : ℕ) (directives : List (DirectiveOf Span)) → ((d : DirectiveOf Span) → Contains directives d → IsCondition d) → (item : Fault) →
    IsDirectiveFault es file location.InlineFragment [] directives item → IsDirectiveFault es file location.FragmentSpread [] directives item
at_spread es own e file directives conditions item (unknown_directive a b c) = unknown_directive a b c
at_spread es own e file directives conditions item (directive_in_wrong_place {d = d} {definition = definition} a b c f) =
    let stands = may_stand own d definition (conditions d a) (ap (λ z. directive_named z d.name.text) (sym e) ∙ b) in absurd (cc)
at_spread es own e file directives conditions item (directive_repeated a b c f) = directive_repeated a b c f
at_spread es own e file directives conditions item (fault_in_arguments a b) = fault_in_arguments a b

module _ (s : SpreadAt) (x : ExecutableOf) (k : CanBeInlined s x) (none : (f : Fault) → IsFieldFault x f → ⊥) where
  abbrev y : ExecutableOf
  y = inlined_executable s x

  -- where a field stood
  record StoodSomewhere (t : SelectedOf) : Type 0 where
    file : ℕ
    below : Sels Span
    stands : Selects x (record { file = file; parent = t.parent; selection = record { label = t.selection.label; below = below } })

  stood : (t : SelectedOf) (alias : Option (NameOf Span)) (name : NameOf Span) (arguments : List (Val Span)) (directives : List (DirectiveOf Span)) (braces : Option Span) (place : Span) →
      t.selection.label ≡ field alias name arguments directives braces place → CameSelected s x k t → StoodSomewhere t
  stood t alias name arguments directives braces place e (was_there below c) = record { file = t.file; below = below; stands = c }
  stood t alias name arguments directives braces place e (was_spread l c) = absurd (cc)
  stood t alias name arguments directives braces place e (was_in_fragment c) = record { file = k.its.fragment.file; below = t.selection.below; stands = c }

  stood_field : (one : SelectsField y) → StoodSomewhere one.selected
  stood_field one = stood one.selected one.alias one.name one.arguments one.directives one.braces one.place one.is_field (came_selected s x k one.selected one.stands)

  abbrev field_before : (one : SelectsField y) → StoodSomewhere one.selected → SelectsField x
  field_before one w = record {
    selected = record { file = w.file; parent = one.selected.parent; selection = record { label = one.selected.selection.label; below = w.below } };
    stands = w.stands;
    alias = one.alias;
    name = one.name;
    arguments = one.arguments;
    directives = one.directives;
    braces = one.braces;
    place = one.place;
    is_field = one.is_field;
  }

  at_selection : (t : SelectedOf) (item : Fault) → IsDirectiveFault x.entries t.file (selection_location t.selection.label) [] (selection_directives t.selection.label) item →
      CameSelected s x k t → ⊥
  at_selection t item h (was_there below c) = none item (wrong_directive (record { site = _; stands = sites.of_selection c; fault = h }))
  at_selection t item h (was_spread l c) =
      let at_inline = subst (λ z. IsDirectiveFault x.entries t.file (selection_location z) [] (selection_directives z) item) l h in
      none item (wrong_directive (record { site = _; stands = sites.of_selection c; fault = at_spread x.entries k.own k.is_entries t.file k.directives k.conditions item at_inline }))
  at_selection t item h (was_in_fragment c) =
      none (in_file k.its.fragment.file item) (wrong_directive (record { site = _; stands = sites.of_selection c; fault = (directive_elsewhere h).1 k.its.fragment.file }))

  at_site : {site : Site} (item : Fault) → IsSite y site → IsDirectiveFault x.entries site.file site.location [] site.directives item → ⊥
  at_site item (sites.of_operation {o = p} c) h =
      let w = was_operation s x p c in
      none item (wrong_directive (record {
        site = operation_site w.was;
        stands = sites.of_operation w.stood;
        fault = subst (λ z. IsDirectiveFault x.entries (operation_site z).file (operation_site z).location [] (operation_site z).directives item) w.is h;
      }))
  at_site item (sites.of_variable {o = p} {v = v} c d) h =
      let w = was_operation s x p c in
      none item (wrong_directive (record {
        site = variable_site w.was.file v;
        stands = sites.of_variable w.stood (subst (λ z. Contains z.variables v) w.is d);
        fault = subst (λ z. IsDirectiveFault x.entries z.file location.VariableDefinition [] v.directives item) w.is h;
      }))
  at_site item (sites.of_fragment {f = g} c) h =
      let w = was_fragment s x g c in
      none item (wrong_directive (record {
        site = fragment_site w.was;
        stands = sites.of_fragment w.stood;
        fault = subst (λ z. IsDirectiveFault x.entries (fragment_site z).file (fragment_site z).location [] (fragment_site z).directives item) w.is h;
      }))
  at_site item (sites.of_selection {s = t} c) h = at_selection t item h (came_selected s x k t c)

  pub no_field_fault : (f : Fault) → IsFieldFault y f → ⊥
  no_field_fault f (unknown_field h) =
      let w = stood_field h.one in
      none (fault_at w.file code.UnknownField h.one.name) (unknown_field (record {
        one = field_before h.one w;
        type_name = h.type_name;
        is_parent = h.is_parent;
        kind = h.kind;
        is_known = h.is_known;
        is_not_defined = h.is_not_defined;
        is = refl;
      }))
  no_field_fault f (wrong_selections h) =
      let w = stood_field h.one in
      none (fault_at w.file code.WrongSelections h.one.name) (wrong_selections (record {
        one = field_before h.one w;
        definition = h.definition;
        is_defined = h.is_defined;
        kind = h.kind;
        is_known = h.is_known;
        is_wrong = h.is_wrong;
        is = refl;
      }))
  no_field_fault f (wrong_argument h) =
      let w = stood_field h.one in
      none (in_file w.file f) (wrong_argument (record { one = field_before h.one w; fault = (argument_elsewhere h.fault).1 w.file }))
  no_field_fault f (wrong_directive h) = at_site f h.stands h.fault
  no_field_fault f (wrong_default h) =
      let w = was_operation s x h.operation h.stands in
      none f (wrong_default (record {
        operation = w.was;
        stands = w.stood;
        variable = h.variable;
        is_defined = subst (λ z. Contains z.variables h.variable) w.is h.is_defined;
        default = h.default;
        has_default = h.has_default;
        fault = subst (λ z. IsLiteralFault x.entries z.file (default_at x.entries h.variable.type_ref) h.default f) w.is h.fault;
      }))
