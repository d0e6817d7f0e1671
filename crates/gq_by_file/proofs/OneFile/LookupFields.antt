-- The field faults over type systems in which each look-up finds the same.
use Rattle.std.proofs.Common.{List, Option, sym, ◌∙◌, subst}
use Rattle.std.specs.Option.{option_map}
use Rattle.gq_tree.specs.NamedTypes.{base_name}
use Rattle.gq_fault.specs.declared.fault.Fault.{Fault}
use Rattle.gq_types.specs.Entries.{EntryOf}
use Rattle.gq_values.specs.LiteralFaults.{IsLiteralFault}
use Rattle.gq_values.specs.ArgumentFaults.{IsArgumentFault}
use Rattle.gq_document.specs.Definitions.{OperationOf, FragmentOf}
use Rattle.gq_document.specs.Selections.{FieldOf}
use Rattle.gq_fields.specs.SelectedFields.{SelectsField}
use Rattle.gq_fields.specs.Directives.{Site, IsSite}
use Rattle.gq_fields.specs.Directives as directives
use Rattle.gq_fields.specs.FieldFaults.{IsFieldFault}
use Rattle.gq_fields.specs.FieldFaults as faults
use Rattle.gq_by_file.proofs.OneFile.Comes.{executable}
use Rattle.gq_by_file.proofs.OneFile.Lookups.{SameLookups, defaults, literal, argument, directive, on, selected_on, selects}

module _ (es us : List EntryOf) (same : SameLookups es us) (os : List OperationOf) (gs : List FragmentOf) where
  abbrev one_in : SelectsField (executable es os gs) → SelectsField (executable us os gs)
  one_in one = record {
    selected = one.selected;
    stands = selects es us same one.stands;
    alias = one.alias;
    name = one.name;
    arguments = one.arguments;
    directives = one.directives;
    braces = one.braces;
    place = one.place;
    is_field = one.is_field;
  }

  site : {s : Site} → IsSite (executable es os gs) s → IsSite (executable us os gs) s
  site (directives.of_operation c) = directives.of_operation c
  site (directives.of_variable c v) = directives.of_variable c v
  site (directives.of_fragment c) = directives.of_fragment c
  site (directives.of_selection c) = directives.of_selection (selects es us same c)

  pub field_fault : (f : Fault) → IsFieldFault (executable es os gs) f → IsFieldFault (executable us os gs) f
  field_fault f (faults.unknown_field h) = faults.unknown_field (record {
    one = one_in h.one;
    type_name = h.type_name;
    is_parent = h.is_parent;
    kind = h.kind;
    is_known = sym (same.kind h.type_name) ∙ h.is_known;
    is_not_defined = sym (on es us same h.type_name h.one.name.text) ∙ h.is_not_defined;
    is = h.is;
  })
  field_fault f (faults.wrong_selections h) = faults.wrong_selections (record {
    one = one_in h.one;
    definition = h.definition;
    is_defined = sym (selected_on es us same h.one.selected.parent h.one.name.text) ∙ h.is_defined;
    kind = h.kind;
    is_known = sym (same.kind (base_name h.definition.type_ref)) ∙ h.is_known;
    is_wrong = h.is_wrong;
    is = h.is;
  })
  field_fault f (faults.wrong_argument h) = faults.wrong_argument (record {
    one = one_in h.one;
    fault =
        subst (λ (z : Option FieldOf). IsArgumentFault us h.one.selected.file (option_map (λ d. d.arguments) z) h.one.name h.one.arguments f) (selected_on es us same h.one.selected.parent h.one.name.text) (argument es us same h.fault);
  })
  field_fault f (faults.wrong_directive h) = faults.wrong_directive (record { site = h.site; stands = site h.stands; fault = directive es us same h.fault })
  field_fault f (faults.wrong_default h) = faults.wrong_default (record {
    operation = h.operation;
    stands = h.stands;
    variable = h.variable;
    is_defined = h.is_defined;
    default = h.default;
    has_default = h.has_default;
    fault = subst (λ z. IsLiteralFault us h.operation.file z h.default f) (defaults es us same h.variable.type_ref) (literal es us same h.fault);
  })
