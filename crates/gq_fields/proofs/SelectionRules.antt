-- What is told of a field at one selection is what the rules say of it.
use Rattle.std.proofs.Common.{◌≡◌, ◌≢◌, Bool, true, false, List, Contains, Option, Some, None, refl, sym, ap, subst, ◌∙◌, is_some}
use Rattle.gq_text.specs.declared.place.Span.{Span}
use Rattle.gq_fault.specs.declared.code.Code.TheVariants.{UnknownField, WrongSelections}
use Rattle.gq_fault.specs.declared.fault.Fault.{Fault}
use Rattle.gq_tree.specs.Plain.{Head, field, spread, inline}
use Rattle.gq_names.proofs.RepeatLemmas.{contains_none}
use Rattle.gq_types.specs.declared.entry.TypeKind.{TypeKind}
use Rattle.gq_types.specs.Entries.{Text, EntryOf}
use Rattle.gq_types.specs.Kinds.{is_composite}
use Rattle.gq_types.specs.Joined.{kind_named}
use Rattle.gq_fault.specs.FaultPlaces.{fault_at}
use Rattle.gq_values.proofs.ArgumentRules.{argument_faults_are}
use Rattle.gq_document.specs.Selections.{FieldOf, SelectedOf, field_on, selected_field}
use Rattle.gq_tree.specs.NamedTypes.{base_name}
use Rattle.gq_document.specs.Executable.{ExecutableOf, Selects}
use Rattle.gq_fields.specs.SelectedFields.{SelectsField}
use Rattle.gq_fields.specs.FieldSelections.{IsUnknownField}
use Rattle.gq_fields.specs.Helping.FieldSelectionsPlaces.{is_unknown_where, is_unknown, unknown_field_on, unknown_field_in, unknown_field_at}
use Rattle.gq_fields.specs.LeafFieldSelections.{HasWrongSelections}
use Rattle.gq_fields.specs.Helping.LeafFieldSelectionsPlaces.{differ, wrong_at_kind, wrong_of_field, wrong_selections_in, wrong_selections_at}
use Rattle.gq_fields.specs.Arguments.{HasWrongArgument}
use Rattle.gq_fields.specs.Helping.ArgumentsPlaces.{defined_arguments, wrong_arguments_in, wrong_arguments_at}
use Rattle.gq_types.proofs.Gathered.{from_if, to_if}

-- a type that is known, and a field that it does not have
from_unknown : (k : Option TypeKind) (f : Option FieldOf) → is_unknown_where (is_some k) f ≡ true → (kind : TypeKind) × (k ≡ Some kind) × (f ≡ None)
from_unknown None None holds = absurd (cc)
from_unknown (Some kind) None holds = (kind, refl, refl)
from_unknown k (Some f) holds = absurd (cc)

-- the test whether two differ
from_differ : (a b : Bool) → differ a b ≡ true → a ≢ b
from_differ true true holds = absurd (cc)
from_differ true false holds = λ same. cc
from_differ false true holds = λ same. cc
from_differ false false holds = absurd (cc)

to_differ : (a b : Bool) → a ≢ b → differ a b ≡ true
to_differ true true different = absurd (different refl)
to_differ true false different = refl
to_differ false true different = refl
to_differ false false different = absurd (different refl)

module _ (x : ExecutableOf) (fault : Fault) where
  abbrev es : List EntryOf
  es = x.entries

  -- section 5.3.1
  unknown_on : (one : SelectsField x) (parent : Option Text) → one.selected.parent ≡ parent → Contains (unknown_field_on es one.selected.file parent one.name) fault → IsUnknownField x fault
  unknown_on one None is_parent found = absurd (contains_none fault found)
  unknown_on one (Some type_name) is_parent found =
      let told = from_if (is_unknown es type_name one.name.text) (fault_at one.selected.file UnknownField one.name) fault found in
      let not_defined = from_unknown (kind_named es type_name) (field_on es type_name one.name.text) told.0 in
      record { one = one; type_name = type_name; is_parent = is_parent; kind = not_defined.0; is_known = not_defined.1; is_not_defined = not_defined.2; is = told.1 }

  unknown_in : (s : SelectedOf) → Selects x s → (head : Head Span) → s.selection.label ≡ head → Contains (unknown_field_in es s.file s.parent head) fault → IsUnknownField x fault
  unknown_in s stands (field alias name arguments directives braces place) is found =
      unknown_on (record { selected = s; stands = stands; alias = alias; name = name; arguments = arguments; directives = directives; braces = braces; place = place; is_field = is }) s.parent refl found
  unknown_in s stands (spread name directives place) is found = absurd (contains_none fault found)
  unknown_in s stands (inline condition directives braces place) is found = absurd (contains_none fault found)

  pub from_unknown_field : (s : SelectedOf) → Selects x s → Contains (unknown_field_at es s) fault → IsUnknownField x fault
  from_unknown_field s stands found = unknown_in s stands s.selection.label refl found

  pub to_unknown_field : (w : IsUnknownField x fault) → Contains (unknown_field_at es w.one.selected) fault
  to_unknown_field w =
      let s = w.one.selected in
      let holds : is_unknown es w.type_name w.one.name.text ≡ true =
      ap (λ k. is_unknown_where (is_some k) (field_on es w.type_name w.one.name.text)) w.is_known ∙ ap (λ f. is_unknown_where true f) w.is_not_defined in
      subst (λ head. Contains (unknown_field_in es s.file s.parent head) fault) (sym w.one.is_field)
      (subst (λ parent. Contains (unknown_field_on es s.file parent w.one.name) fault) (sym w.is_parent)
      (to_if (is_unknown es w.type_name w.one.name.text) (fault_at s.file UnknownField w.one.name) fault holds w.is))

  -- section 5.3.3
  wrong_at : (one : SelectsField x) (definition : FieldOf) → selected_field es one.selected.parent one.name.text ≡ Some definition → (k : Option TypeKind) → kind_named es (base_name definition.type_ref) ≡ k →
      Contains (wrong_at_kind one.selected.file one.name (is_some one.braces) k) fault → HasWrongSelections x fault
  wrong_at one definition is_defined None is_known found = absurd (contains_none fault found)
  wrong_at one definition is_defined (Some kind) is_known found =
      let told = from_if (differ (is_some one.braces) (is_composite kind)) (fault_at one.selected.file WrongSelections one.name) fault found in
      record { one = one; definition = definition; is_defined = is_defined; kind = kind; is_known = is_known; is_wrong = from_differ (is_some one.braces) (is_composite kind) told.0; is = told.1 }

  wrong_of : (one : SelectsField x) (o : Option FieldOf) → selected_field es one.selected.parent one.name.text ≡ o → Contains (wrong_of_field es one.selected.file one.name (is_some one.braces) o) fault → HasWrongSelections x fault
  wrong_of one None is_defined found = absurd (contains_none fault found)
  wrong_of one (Some definition) is_defined found = wrong_at one definition is_defined (kind_named es (base_name definition.type_ref)) refl found

  wrong_in : (s : SelectedOf) → Selects x s → (head : Head Span) → s.selection.label ≡ head → Contains (wrong_selections_in es s head) fault → HasWrongSelections x fault
  wrong_in s stands (field alias name arguments directives braces place) is found =
      wrong_of (record { selected = s; stands = stands; alias = alias; name = name; arguments = arguments; directives = directives; braces = braces; place = place; is_field = is })
      (selected_field es s.parent name.text) refl found
  wrong_in s stands (spread name directives place) is found = absurd (contains_none fault found)
  wrong_in s stands (inline condition directives braces place) is found = absurd (contains_none fault found)

  pub from_wrong_selections : (s : SelectedOf) → Selects x s → Contains (wrong_selections_at es s) fault → HasWrongSelections x fault
  from_wrong_selections s stands found = wrong_in s stands s.selection.label refl found

  pub to_wrong_selections : (w : HasWrongSelections x fault) → Contains (wrong_selections_at es w.one.selected) fault
  to_wrong_selections w =
      let s = w.one.selected in
      let has_set = is_some w.one.braces in
      subst (λ head. Contains (wrong_selections_in es s head) fault) (sym w.one.is_field)
      (subst (λ o. Contains (wrong_of_field es s.file w.one.name has_set o) fault) (sym w.is_defined)
      (subst (λ k. Contains (wrong_at_kind s.file w.one.name has_set k) fault) (sym w.is_known)
      (to_if (differ has_set (is_composite w.kind)) (fault_at s.file WrongSelections w.one.name) fault (to_differ has_set (is_composite w.kind) w.is_wrong) w.is)))

  -- sections 5.4 and 5.6
  arguments_in : (s : SelectedOf) → Selects x s → (head : Head Span) → s.selection.label ≡ head → Contains (wrong_arguments_in es s head) fault → HasWrongArgument x fault
  arguments_in s stands (field alias name arguments directives braces place) is found = record {
    one = record { selected = s; stands = stands; alias = alias; name = name; arguments = arguments; directives = directives; braces = braces; place = place; is_field = is };
    fault = (argument_faults_are es s.file name arguments fault (defined_arguments es s.parent name.text)).0 found;
  }
  arguments_in s stands (spread name directives place) is found = absurd (contains_none fault found)
  arguments_in s stands (inline condition directives braces place) is found = absurd (contains_none fault found)

  pub from_wrong_arguments : (s : SelectedOf) → Selects x s → Contains (wrong_arguments_at es s) fault → HasWrongArgument x fault
  from_wrong_arguments s stands found = arguments_in s stands s.selection.label refl found

  pub to_wrong_arguments : (w : HasWrongArgument x fault) → Contains (wrong_arguments_at es w.one.selected) fault
  to_wrong_arguments w =
      let s = w.one.selected in
      subst (λ head. Contains (wrong_arguments_in es s head) fault) (sym w.one.is_field)
      ((argument_faults_are es s.file w.one.name w.one.arguments fault (defined_arguments es s.parent w.one.name.text)).1 w.fault)
