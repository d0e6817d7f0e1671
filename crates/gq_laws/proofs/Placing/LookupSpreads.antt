-- The faults of spreads over any type system: none is asked.
use Rattle.std.proofs.Common.{ℕ, List, []}
use Rattle.gq_text.specs.declared.place.Span.{Span}
use Rattle.gq_tree.specs.Plain.{NameOf}
use Rattle.gq_fault.specs.declared.fault.Fault.{Fault}
use Rattle.gq_types.specs.Entries.{EntryOf}
use Rattle.gq_document.specs.Definitions.{OperationOf, FragmentOf}
use Rattle.gq_document.specs.Executable.{ExecutableOf}
use Rattle.gq_spreads.specs.FragmentSpreadTargetDefined.{IsSpreadName}
use Rattle.gq_spreads.specs.FragmentSpreadTargetDefined as targets
use Rattle.gq_spreads.specs.SpreadFaults.{IsSpreadFault}
use Rattle.gq_spreads.specs.SpreadFaults as spreads
use Rattle.gq_laws.specs.Placing.Types.{PlacesOfTypesDoNotMatter}
use Rattle.gq_laws.specs.Placing.OtherFields.{OtherFieldsDoNotMatter}
use Rattle.gq_laws.proofs.Placing.Lookups.{all_fields, none_selected}

module _ (es us : List EntryOf) (os : List OperationOf) (gs : List FragmentOf) where
  abbrev x : ExecutableOf
  x = record { entries = es; operations = os; fragments = gs }

  abbrev y : ExecutableOf
  y = record { entries = us; operations = os; fragments = gs }

  spread_name : {file : ℕ} {name : NameOf Span} → IsSpreadName x file name → IsSpreadName y file name
  spread_name (targets.of_operation c s e) = targets.of_operation c s e
  spread_name (targets.of_fragment c s e) = targets.of_fragment c s e

  spread_fault : (f : Fault) → IsSpreadFault x f → IsSpreadFault y f
  spread_fault f (spreads.fragment_not_used h) = spreads.fragment_not_used (record {
    fragment = h.fragment;
    stands = h.stands;
    in_no_operation = h.in_no_operation;
    in_no_fragment = h.in_no_fragment;
    is = h.is;
  })
  spread_fault f (spreads.unknown_fragment h) = spreads.unknown_fragment (record {
    file = h.file;
    name = h.name;
    is_spread = spread_name h.is_spread;
    is_unknown = h.is_unknown;
    is = h.is;
  })
  spread_fault f (spreads.fragment_cycle h) = spreads.fragment_cycle (record {
    fragment = h.fragment;
    stands = h.stands;
    name = h.name;
    is_spread = h.is_spread;
    target = h.target;
    target_stands = h.target_stands;
    is_named = h.is_named;
    leads_back = h.leads_back;
    is = h.is;
  })

pub other_fields_of_spreads : OtherFieldsDoNotMatter IsSpreadFault
other_fields_of_spreads names es us same os gs none f h = spread_fault es us os gs f h

pub types_of_spreads : PlacesOfTypesDoNotMatter IsSpreadFault
types_of_spreads es us same os gs f h = other_fields_of_spreads [] es us (all_fields es us same) os gs (none_selected os gs) f h
