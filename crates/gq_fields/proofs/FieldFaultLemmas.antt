-- What the rules put is what is wrong.
use Rattle.std.proofs.Common.{◌≡◌, List, [], ◌++◌, inl, inr, ◌↔◌, Contains, Option, Some, None, refl, sym, ap, subst, ◌∙◌}
use Rattle.std.proofs.lemmas.List.Elements.{Contains-append_left, Contains-append_right, Contains-append_cases}
use Rattle.gq_text.specs.declared.place.Span.{Span}
use Rattle.gq_fault.specs.declared.fault.Fault.{Fault}
use Rattle.gq_fault.specs.Adds.{AddsExactly}
use Rattle.gq_tree.specs.Plain.{VariableOf, Val}
use Rattle.gq_names.proofs.RepeatLemmas.{contains_none}
use Rattle.gq_types.specs.Entries.{EntryOf}
use Rattle.gq_values.specs.Literals.{default_at}
use Rattle.gq_values.proofs.LiteralRules.{literal_faults_are}
use Rattle.gq_values.proofs.DirectiveRules.{directive_faults_are}
use Rattle.gq_document.specs.Definitions.{OperationOf, FragmentOf}
use Rattle.gq_document.specs.Selections.{SelectedOf, operation_selections, fragment_selections, of_operation, of_fragment}
use Rattle.gq_document.specs.Executable.{ExecutableOf, Selects}
use Rattle.gq_document.proofs.SelectionLemmas.{operation_holds, fragment_holds}
use Rattle.gq_fields.specs.Helping.FieldSelectionsPlaces.{unknown_field_at}
use Rattle.gq_fields.specs.Helping.LeafFieldSelectionsPlaces.{wrong_selections_at}
use Rattle.gq_fields.specs.Helping.ArgumentsPlaces.{wrong_arguments_at}
use Rattle.gq_fields.specs.Directives.{Site, IsSite, HasWrongDirective, operation_site, variable_site, fragment_site, selection_site}
use Rattle.gq_fields.specs.Directives as site
use Rattle.gq_fields.specs.Helping.DirectivesPlaces.{wrong_directives_at}
use Rattle.gq_fields.specs.Values.{HasWrongDefault}
use Rattle.gq_fields.specs.Helping.ValuesPlaces.{wrong_value_of, wrong_default_of}
use Rattle.gq_fields.specs.FieldFaults.{IsFieldFault, unknown_field, wrong_selections, wrong_argument, wrong_directive, wrong_default}
use Rattle.gq_fields.specs.Helping.FieldFaultsPlaces.{selection_faults, selections_faults, variable_faults, variables_faults, operation_faults, fragment_faults, operations_faults, fragments_faults, field_faults}
use Rattle.gq_fields.proofs.SelectionRules.{from_unknown_field, to_unknown_field, from_wrong_selections, to_wrong_selections, from_wrong_arguments, to_wrong_arguments}
use Rattle.gq_types.proofs.Gathered.{from_flat, to_flat}

module _ (x : ExecutableOf) (fault : Fault) where
  abbrev es : List EntryOf
  es = x.entries

  -- the directives at a place
  from_site : (one : Site) → IsSite x one → Contains (wrong_directives_at es one) fault → IsFieldFault x fault
  from_site one stands found = wrong_directive (record { site = one; stands = stands; fault = (directive_faults_are es one.file one.location [] one.directives fault).0 found })

  -- the default value of a variable
  from_value : (o : OperationOf) → Contains x.operations o → (v : VariableOf Span) → Contains o.variables v → (default : Option (Val Span)) → v.default ≡ default → Contains (wrong_value_of es o.file v.type_ref default) fault → IsFieldFault x fault
  from_value o stands v defined None has found = absurd (contains_none fault found)
  from_value o stands v defined (Some default) has found = wrong_default (record {
    operation = o;
    stands = stands;
    variable = v;
    is_defined = defined;
    default = default;
    has_default = has;
    fault = (literal_faults_are es o.file fault (default_at es v.type_ref) default).0 found;
  })

  to_value : (w : HasWrongDefault x fault) → Contains (wrong_default_of es w.operation.file w.variable) fault
  to_value w =
      subst (λ o. Contains (wrong_value_of es w.operation.file w.variable.type_ref o) fault) (sym w.has_default)
      ((literal_faults_are es w.operation.file fault (default_at es w.variable.type_ref) w.default).1 w.fault)

  -- one selection
  from_selection : (s : SelectedOf) → Selects x s → Contains (selection_faults es s) fault → IsFieldFault x fault
  from_selection s stands found =
      elim (Contains-append_cases (unknown_field_at es s) (wrong_selections_at es s ++ (wrong_arguments_at es s ++ wrong_directives_at es (selection_site s))) fault found) [
        | inl a ↦ unknown_field (from_unknown_field x fault s stands a)
        | inr b ↦ elim (Contains-append_cases (wrong_selections_at es s) (wrong_arguments_at es s ++ wrong_directives_at es (selection_site s)) fault b) [
          | inl c ↦ wrong_selections (from_wrong_selections x fault s stands c)
          | inr d ↦ elim (Contains-append_cases (wrong_arguments_at es s) (wrong_directives_at es (selection_site s)) fault d) [
            | inl e ↦ wrong_argument (from_wrong_arguments x fault s stands e)
            | inr f ↦ from_site (selection_site s) (site.of_selection stands) f
          ]
        ]
      ]

  in_selection_unknown : (s : SelectedOf) → Contains (unknown_field_at es s) fault → Contains (selection_faults es s) fault
  in_selection_unknown s found = Contains-append_left (unknown_field_at es s) (wrong_selections_at es s ++ (wrong_arguments_at es s ++ wrong_directives_at es (selection_site s))) fault found

  in_selection_wrong : (s : SelectedOf) → Contains (wrong_selections_at es s) fault → Contains (selection_faults es s) fault
  in_selection_wrong s found =
      Contains-append_right (unknown_field_at es s) (wrong_selections_at es s ++ (wrong_arguments_at es s ++ wrong_directives_at es (selection_site s))) fault
      (Contains-append_left (wrong_selections_at es s) (wrong_arguments_at es s ++ wrong_directives_at es (selection_site s)) fault found)

  in_selection_later : (s : SelectedOf) → Contains (wrong_arguments_at es s ++ wrong_directives_at es (selection_site s)) fault → Contains (selection_faults es s) fault
  in_selection_later s found =
      Contains-append_right (unknown_field_at es s) (wrong_selections_at es s ++ (wrong_arguments_at es s ++ wrong_directives_at es (selection_site s))) fault
      (Contains-append_right (wrong_selections_at es s) (wrong_arguments_at es s ++ wrong_directives_at es (selection_site s)) fault found)

  -- an operation, and a fragment
  from_variable : (o : OperationOf) → Contains x.operations o → (v : VariableOf Span) → Contains o.variables v → Contains (variable_faults es o.file v) fault → IsFieldFault x fault
  from_variable o stands v defined found = elim (Contains-append_cases (wrong_directives_at es (variable_site o.file v)) (wrong_default_of es o.file v) fault found) [
    | inl a ↦ from_site (variable_site o.file v) (site.of_variable stands defined) a
    | inr b ↦ from_value o stands v defined v.default refl b
  ]

  from_operation : (o : OperationOf) → Contains x.operations o → Contains (operation_faults es o) fault → IsFieldFault x fault
  from_operation o stands found =
      elim (Contains-append_cases (wrong_directives_at es (operation_site o)) (variables_faults es o.file o.variables ++ selections_faults es (operation_selections es o)) fault found) [
        | inl a ↦ from_site (operation_site o) (site.of_operation stands) a
        | inr b ↦ elim (Contains-append_cases (variables_faults es o.file o.variables) (selections_faults es (operation_selections es o)) fault b) [
          | inl c ↦ let v = from_flat (variable_faults es o.file) o.variables fault c in from_variable o stands v.0 v.1 v.2
          | inr d ↦
              let s = from_flat (selection_faults es) (operation_selections es o) fault d in
              from_selection s.0 (of_operation stands ((operation_holds es o s.0).0 s.1)) s.2
        ]
      ]

  from_fragment : (f : FragmentOf) → Contains x.fragments f → Contains (fragment_faults es f) fault → IsFieldFault x fault
  from_fragment f stands found = elim (Contains-append_cases (wrong_directives_at es (fragment_site f)) (selections_faults es (fragment_selections es f)) fault found) [
    | inl a ↦ from_site (fragment_site f) (site.of_fragment stands) a
    | inr b ↦
        let s = from_flat (selection_faults es) (fragment_selections es f) fault b in
        from_selection s.0 (of_fragment stands ((fragment_holds es f s.0).0 s.1)) s.2
  ]

  from_faults : Contains (field_faults x) fault → IsFieldFault x fault
  from_faults found = elim (Contains-append_cases (operations_faults es x.operations) (fragments_faults es x.fragments) fault found) [
    | inl a ↦ let o = from_flat (operation_faults es) x.operations fault a in from_operation o.0 o.1 o.2
    | inr b ↦ let f = from_flat (fragment_faults es) x.fragments fault b in from_fragment f.0 f.1 f.2
  ]

  to_operation : (o : OperationOf) → Contains x.operations o → Contains (operation_faults es o) fault → Contains (field_faults x) fault
  to_operation o stands found = Contains-append_left (operations_faults es x.operations) (fragments_faults es x.fragments) fault (to_flat (operation_faults es) x.operations o fault stands found)

  to_fragment : (f : FragmentOf) → Contains x.fragments f → Contains (fragment_faults es f) fault → Contains (field_faults x) fault
  to_fragment f stands found = Contains-append_right (operations_faults es x.operations) (fragments_faults es x.fragments) fault (to_flat (fragment_faults es) x.fragments f fault stands found)

  to_variable : (o : OperationOf) → Contains x.operations o → (v : VariableOf Span) → Contains o.variables v → Contains (variable_faults es o.file v) fault → Contains (field_faults x) fault
  to_variable o stands v defined found =
      to_operation o stands
      (Contains-append_right (wrong_directives_at es (operation_site o)) (variables_faults es o.file o.variables ++ selections_faults es (operation_selections es o)) fault
      (Contains-append_left (variables_faults es o.file o.variables) (selections_faults es (operation_selections es o)) fault
      (to_flat (variable_faults es o.file) o.variables v fault defined found)))

  to_selection : {s : SelectedOf} → Selects x s → Contains (selection_faults es s) fault → Contains (field_faults x) fault
  to_selection {s} (of_operation {o} stands is) found =
      to_operation o stands
      (Contains-append_right (wrong_directives_at es (operation_site o)) (variables_faults es o.file o.variables ++ selections_faults es (operation_selections es o)) fault
      (Contains-append_right (variables_faults es o.file o.variables) (selections_faults es (operation_selections es o)) fault
      (to_flat (selection_faults es) (operation_selections es o) s fault ((operation_holds es o s).1 is) found)))
  to_selection {s} (of_fragment {f} stands is) found =
      to_fragment f stands
      (Contains-append_right (wrong_directives_at es (fragment_site f)) (selections_faults es (fragment_selections es f)) fault
      (to_flat (selection_faults es) (fragment_selections es f) s fault ((fragment_holds es f s).1 is) found))

  to_site : {one : Site} → IsSite x one → Contains (wrong_directives_at es one) fault → Contains (field_faults x) fault
  to_site (site.of_operation {o} stands) found =
      to_operation o stands (Contains-append_left (wrong_directives_at es (operation_site o)) (variables_faults es o.file o.variables ++ selections_faults es (operation_selections es o)) fault found)
  to_site (site.of_variable {o} {v} stands defined) found =
      to_variable o stands v defined (Contains-append_left (wrong_directives_at es (variable_site o.file v)) (wrong_default_of es o.file v) fault found)
  to_site (site.of_fragment {f} stands) found =
      to_fragment f stands (Contains-append_left (wrong_directives_at es (fragment_site f)) (selections_faults es (fragment_selections es f)) fault found)
  to_site (site.of_selection {s} stands) found =
      to_selection stands (in_selection_later s (Contains-append_right (wrong_arguments_at es s) (wrong_directives_at es (selection_site s)) fault found))

  to_faults : IsFieldFault x fault → Contains (field_faults x) fault
  to_faults (unknown_field w) = to_selection w.one.stands (in_selection_unknown w.one.selected (to_unknown_field x fault w))
  to_faults (wrong_selections w) = to_selection w.one.stands (in_selection_wrong w.one.selected (to_wrong_selections x fault w))
  to_faults (wrong_argument w) =
      let s = w.one.selected in
      to_selection w.one.stands (in_selection_later s (Contains-append_left (wrong_arguments_at es s) (wrong_directives_at es (selection_site s)) fault (to_wrong_arguments x fault w)))
  to_faults (wrong_directive w) = to_site w.stands ((directive_faults_are es w.site.file w.site.location [] w.site.directives fault).1 w.fault)
  to_faults (wrong_default w) =
      to_variable w.operation w.stands w.variable w.is_defined
      (Contains-append_right (wrong_directives_at es (variable_site w.operation.file w.variable)) (wrong_default_of es w.operation.file w.variable) fault (to_value w))

  pub field_faults_are : Contains (field_faults x) fault ↔ IsFieldFault x fault
  field_faults_are = (from_faults, to_faults)

-- the list behind others is what is put there
pub puts_faults : (x : ExecutableOf) (old new : List Fault) → new ≡ old ++ field_faults x → AddsExactly (IsFieldFault x) old new
puts_faults x old new is = record { added = field_faults x; is = is; exactly = λ fault. field_faults_are x fault }
