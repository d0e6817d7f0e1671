-- The faults of operations, fragments and spreads over type systems in which each look-up finds the same.
use Rattle.std.proofs.Common.{ℕ, List, sym, ◌∙◌}
use Rattle.gq_text.specs.declared.place.Span.{Span}
use Rattle.gq_tree.specs.declared.tree.OperationKind.TheVariants.{Mutation}
use Rattle.gq_tree.specs.Plain.{NameOf}
use Rattle.gq_fault.specs.declared.fault.Fault.{Fault}
use Rattle.gq_types.specs.Entries.{Text, EntryOf}
use Rattle.gq_types.specs.Possible.{IsPossible, itself, member, declaring}
use Rattle.gq_document.specs.Definitions.{OperationOf, FragmentOf}
use Rattle.gq_document.specs.Executable.{ExecutableOf}
use Rattle.gq_fragments.specs.OperationFaults.{IsOperationFault}
use Rattle.gq_fragments.specs.OperationFaults as operations
use Rattle.gq_fragments.specs.TypeConditions.{IsTypeCondition}
use Rattle.gq_fragments.specs.TypeConditions as conditions
use Rattle.gq_fragments.specs.FragmentSpreadIsPossible.{HaveNoObject}
use Rattle.gq_fragments.specs.FragmentFaults.{IsFragmentFault}
use Rattle.gq_fragments.specs.FragmentFaults as fragments
use Rattle.gq_spreads.specs.FragmentSpreadTargetDefined.{IsSpreadName}
use Rattle.gq_spreads.specs.FragmentSpreadTargetDefined as targets
use Rattle.gq_spreads.specs.SpreadFaults.{IsSpreadFault}
use Rattle.gq_spreads.specs.SpreadFaults as spreads
use Rattle.gq_by_file.proofs.OneFile.Comes.{executable}
use Rattle.gq_by_file.proofs.OneFile.Lookups.{SameLookups, turned, selects}

possible : (es us : List EntryOf) → SameLookups es us → {type_name object : Text} → IsPossible es type_name object → IsPossible us type_name object
possible es us same (itself {object = object} k) = itself (sym (same.kind object) ∙ k)
possible es us same (member {union = union} {object = object} k m o) = member (sym (same.kind union) ∙ k) (sym (same.member union object) ∙ m) (sym (same.kind object) ∙ o)
possible es us same (declaring {interface = interface} {object = object} k d o) = declaring (sym (same.kind interface) ∙ k) (sym (same.declared object interface) ∙ d) (sym (same.kind object) ∙ o)

no_object : (es us : List EntryOf) → SameLookups es us → {parent condition : Text} → HaveNoObject es parent condition → HaveNoObject us parent condition
no_object es us same {parent} {condition} h = record {
  parent_kind = h.parent_kind;
  parent_is_known = sym (same.kind parent) ∙ h.parent_is_known;
  condition_kind = h.condition_kind;
  condition_is_known = sym (same.kind condition) ∙ h.condition_is_known;
  none_is_possible = λ object a b. h.none_is_possible object (possible us es (turned same) a) (possible us es (turned same) b);
}

module _ (es us : List EntryOf) (same : SameLookups es us) (os : List OperationOf) (gs : List FragmentOf) where
  abbrev x : ExecutableOf
  x = executable es os gs

  abbrev y : ExecutableOf
  y = executable us os gs

  pub operation_fault : (f : Fault) → IsOperationFault x f → IsOperationFault y f
  operation_fault f (operations.subscription h) = operations.subscription (record {
    operation = h.operation;
    stands = h.stands;
    is_subscription = h.is_subscription;
    is = h.is;
  })
  operation_fault f (operations.no_root_type h) = operations.no_root_type (record {
    operation = h.operation;
    stands = h.stands;
    is_mutation = h.is_mutation;
    has_no_root = sym (same.root Mutation) ∙ h.has_no_root;
    is = h.is;
  })
  operation_fault f (operations.repeated_operation_name h) = operations.repeated_operation_name (record {
    later = h.later;
    is_repeated = h.is_repeated;
    is = h.is;
  })
  operation_fault f (operations.not_alone h) = operations.not_alone (record {
    number = h.number;
    operation = h.operation;
    stands = h.stands;
    is_anonymous = h.is_anonymous;
    other_number = h.other_number;
    other = h.other;
    other_stands = h.other_stands;
    is_another = h.is_another;
    is = h.is;
  })

  condition : {file : ℕ} {name : NameOf Span} → IsTypeCondition x file name → IsTypeCondition y file name
  condition (conditions.of_fragment c) = conditions.of_fragment c
  condition (conditions.of_inline_fragment c is) = conditions.of_inline_fragment (selects es us same c) is

  pub fragment_fault : (f : Fault) → IsFragmentFault x f → IsFragmentFault y f
  fragment_fault f (fragments.repeated_fragment_name h) = fragments.repeated_fragment_name (record {
    later = h.later;
    is_repeated = h.is_repeated;
    is = h.is;
  })
  fragment_fault f (fragments.unknown_condition h) = fragments.unknown_condition (record {
    file = h.file;
    name = h.name;
    is_condition = condition h.is_condition;
    is_unknown = sym (same.kind h.name.text) ∙ h.is_unknown;
    is = h.is;
  })
  fragment_fault f (fragments.condition_not_composite h) = fragments.condition_not_composite (record {
    file = h.file;
    name = h.name;
    is_condition = condition h.is_condition;
    kind = h.kind;
    is_known = sym (same.kind h.name.text) ∙ h.is_known;
    is_not_composite = h.is_not_composite;
    is = h.is;
  })
  fragment_fault f (fragments.spread_not_possible h) = fragments.spread_not_possible (record {
    selected = h.selected;
    is_selected = selects es us same h.is_selected;
    parent = h.parent;
    is_below = h.is_below;
    condition = h.condition;
    place = h.place;
    is_spread = h.is_spread;
    have_no_object = no_object es us same h.have_no_object;
    is = h.is;
  })

  spread_name : {file : ℕ} {name : NameOf Span} → IsSpreadName x file name → IsSpreadName y file name
  spread_name (targets.of_operation c s e) = targets.of_operation c s e
  spread_name (targets.of_fragment c s e) = targets.of_fragment c s e

  pub spread_fault : (f : Fault) → IsSpreadFault x f → IsSpreadFault y f
  spread_fault f (spreads.fragment_not_used h) = spreads.fragment_not_used (record {
    fragment = h.fragment;
    stands = h.stands;
    in_no_operation = h.in_no_operation;
    in_no_fragment = h.in_no_fragment;
    is = h.is;
  })
  spread_fault f (spreads.unknown_fragment h) = spreads.unknown_fragment (record {
    file = h.file;
    name = h.name;
    is_spread = spread_name h.is_spread;
    is_unknown = h.is_unknown;
    is = h.is;
  })
  spread_fault f (spreads.fragment_cycle h) = spreads.fragment_cycle (record {
    fragment = h.fragment;
    stands = h.stands;
    name = h.name;
    is_spread = h.is_spread;
    target = h.target;
    target_stands = h.target_stands;
    is_named = h.is_named;
    leads_back = h.leads_back;
    is = h.is;
  })
