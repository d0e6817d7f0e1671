-- The faults of all rules over type systems in which each look-up finds the same.
use Rattle.std.proofs.Common.{List}
use Rattle.gq_fault.specs.declared.fault.Fault.{Fault}
use Rattle.gq_types.specs.Entries.{EntryOf}
use Rattle.gq_document.specs.Definitions.{OperationOf, FragmentOf}
use Rattle.gq_rules.specs.RuleFaults.{IsRuleFault, of_operations, of_fields, of_fragments, of_spreads, of_variables, of_merging}
use Rattle.gq_by_file.proofs.OneFile.Comes.{executable}
use Rattle.gq_by_file.proofs.OneFile.Lookups.{SameLookups}
use Rattle.gq_by_file.proofs.OneFile.LookupFields.{field_fault}
use Rattle.gq_by_file.proofs.OneFile.LookupFragments.{operation_fault, fragment_fault, spread_fault}
use Rattle.gq_by_file.proofs.OneFile.LookupVariables.{variable_fault}
use Rattle.gq_by_file.proofs.OneFile.LookupMerging.{merging_fault}

pub rule_fault : (es us : List EntryOf) → SameLookups es us → (os : List OperationOf) (gs : List FragmentOf) (f : Fault) → IsRuleFault (executable es os gs) f → IsRuleFault (executable us os gs) f
rule_fault es us same os gs f (of_operations h) = of_operations (operation_fault es us same os gs f h)
rule_fault es us same os gs f (of_fields h) = of_fields (field_fault es us same os gs f h)
rule_fault es us same os gs f (of_fragments h) = of_fragments (fragment_fault es us same os gs f h)
rule_fault es us same os gs f (of_spreads h) = of_spreads (spread_fault es us same os gs f h)
rule_fault es us same os gs f (of_variables h) = of_variables (variable_fault es us same os gs f h)
rule_fault es us same os gs f (of_merging h) = of_merging (merging_fault es us same os gs f h)
