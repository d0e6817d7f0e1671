-- The faults of operations, fragments and type conditions over type systems in which each look-up finds the same but for places, and for fields that are not selected.
use Rattle.std.proofs.Common.{ℕ, List, [], sym, ◌∙◌}
use Rattle.gq_text.specs.declared.place.Span.{Span}
use Rattle.gq_tree.specs.declared.tree.OperationKind.TheVariants.{Mutation}
use Rattle.gq_tree.specs.Plain.{NameOf}
use Rattle.gq_fault.specs.declared.fault.Fault.{Fault}
use Rattle.gq_types.specs.Entries.{Text, EntryOf}
use Rattle.gq_types.specs.Possible.{IsPossible, itself, member, declaring}
use Rattle.gq_document.specs.Definitions.{OperationOf, FragmentOf}
use Rattle.gq_document.specs.Executable.{ExecutableOf}
use Rattle.gq_fragments.specs.OperationFaults.{IsOperationFault}
use Rattle.gq_fragments.specs.OperationFaults as operations
use Rattle.gq_fragments.specs.TypeConditions.{IsTypeCondition}
use Rattle.gq_fragments.specs.TypeConditions as conditions
use Rattle.gq_fragments.specs.FragmentSpreadIsPossible.{HaveNoObject}
use Rattle.gq_fragments.specs.FragmentFaults.{IsFragmentFault}
use Rattle.gq_fragments.specs.FragmentFaults as fragments
use Rattle.gq_laws.specs.Placing.Types.{PlacesOfTypesDoNotMatter}
use Rattle.gq_laws.specs.Placing.OtherFields.{LooksAlikeBut, SelectNone, OtherFieldsDoNotMatter}
use Rattle.gq_laws.proofs.Placing.Lookups.{turned, all_fields, none_selected, selects}

possible : (names : List Text) (es us : List EntryOf) → LooksAlikeBut names es us → {type_name object : Text} → IsPossible es type_name object → IsPossible us type_name object
possible names es us same (itself {object = object} k) = itself (sym (same.kind object) ∙ k)
possible names es us same (member {union = union} {object = object} k m o) = member (sym (same.kind union) ∙ k) (sym (same.member union object) ∙ m) (sym (same.kind object) ∙ o)
possible names es us same (declaring {interface = interface} {object = object} k d o) =
    declaring (sym (same.kind interface) ∙ k) (sym (same.declared object interface) ∙ d) (sym (same.kind object) ∙ o)

no_object : (names : List Text) (es us : List EntryOf) → LooksAlikeBut names es us → {parent condition : Text} → HaveNoObject es parent condition → HaveNoObject us parent condition
no_object names es us same {parent} {condition} h = record {
  parent_kind = h.parent_kind;
  parent_is_known = sym (same.kind parent) ∙ h.parent_is_known;
  condition_kind = h.condition_kind;
  condition_is_known = sym (same.kind condition) ∙ h.condition_is_known;
  none_is_possible = λ object a b. h.none_is_possible object (possible names us es (turned names es us same) a) (possible names us es (turned names es us same) b);
}

module _ (names : List Text) (es us : List EntryOf) (same : LooksAlikeBut names es us) (os : List OperationOf) (gs : List FragmentOf) (none : SelectNone names os gs) where
  abbrev x : ExecutableOf
  x = record { entries = es; operations = os; fragments = gs }

  abbrev y : ExecutableOf
  y = record { entries = us; operations = os; fragments = gs }

  operation_fault : (f : Fault) → IsOperationFault x f → IsOperationFault y f
  operation_fault f (operations.subscription h) = operations.subscription (record {
    operation = h.operation;
    stands = h.stands;
    is_subscription = h.is_subscription;
    is = h.is;
  })
  operation_fault f (operations.no_root_type h) = operations.no_root_type (record {
    operation = h.operation;
    stands = h.stands;
    is_mutation = h.is_mutation;
    has_no_root = sym (same.root Mutation) ∙ h.has_no_root;
    is = h.is;
  })
  operation_fault f (operations.repeated_operation_name h) = operations.repeated_operation_name (record {
    later = h.later;
    is_repeated = h.is_repeated;
    is = h.is;
  })
  operation_fault f (operations.not_alone h) = operations.not_alone (record {
    number = h.number;
    operation = h.operation;
    stands = h.stands;
    is_anonymous = h.is_anonymous;
    other_number = h.other_number;
    other = h.other;
    other_stands = h.other_stands;
    is_another = h.is_another;
    is = h.is;
  })

  condition : {file : ℕ} {name : NameOf Span} → IsTypeCondition x file name → IsTypeCondition y file name
  condition (conditions.of_fragment c) = conditions.of_fragment c
  condition (conditions.of_inline_fragment c is) = conditions.of_inline_fragment (selects names es us same os gs none c) is

  fragment_fault : (f : Fault) → IsFragmentFault x f → IsFragmentFault y f
  fragment_fault f (fragments.repeated_fragment_name h) = fragments.repeated_fragment_name (record {
    later = h.later;
    is_repeated = h.is_repeated;
    is = h.is;
  })
  fragment_fault f (fragments.unknown_condition h) = fragments.unknown_condition (record {
    file = h.file;
    name = h.name;
    is_condition = condition h.is_condition;
    is_unknown = sym (same.kind h.name.text) ∙ h.is_unknown;
    is = h.is;
  })
  fragment_fault f (fragments.condition_not_composite h) = fragments.condition_not_composite (record {
    file = h.file;
    name = h.name;
    is_condition = condition h.is_condition;
    kind = h.kind;
    is_known = sym (same.kind h.name.text) ∙ h.is_known;
    is_not_composite = h.is_not_composite;
    is = h.is;
  })
  fragment_fault f (fragments.spread_not_possible h) = fragments.spread_not_possible (record {
    selected = h.selected;
    is_selected = selects names es us same os gs none h.is_selected;
    parent = h.parent;
    is_below = h.is_below;
    condition = h.condition;
    place = h.place;
    is_spread = h.is_spread;
    have_no_object = no_object names es us same h.have_no_object;
    is = h.is;
  })

pub other_fields_of_operations : OtherFieldsDoNotMatter IsOperationFault
other_fields_of_operations names es us same os gs none f h = operation_fault names es us same os gs none f h

pub other_fields_of_fragments : OtherFieldsDoNotMatter IsFragmentFault
other_fields_of_fragments names es us same os gs none f h = fragment_fault names es us same os gs none f h

pub types_of_operations : PlacesOfTypesDoNotMatter IsOperationFault
types_of_operations es us same os gs f h = other_fields_of_operations [] es us (all_fields es us same) os gs (none_selected os gs) f h

pub types_of_fragments : PlacesOfTypesDoNotMatter IsFragmentFault
types_of_fragments es us same os gs f h = other_fields_of_fragments [] es us (all_fields es us same) os gs (none_selected os gs) f h
