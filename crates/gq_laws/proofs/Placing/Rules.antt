-- All rules of executable definitions, from those of each group.
use Rattle.gq_fields.specs.FieldFaults.{IsFieldFault}
use Rattle.gq_fragments.specs.OperationFaults.{IsOperationFault}
use Rattle.gq_fragments.specs.FragmentFaults.{IsFragmentFault}
use Rattle.gq_spreads.specs.SpreadFaults.{IsSpreadFault}
use Rattle.gq_variables.specs.VariableFaults.{IsVariableFault}
use Rattle.gq_merging.specs.FieldsMerge.{IsMergingFault}
use Rattle.gq_rules.specs.Files.{together}
use Rattle.gq_rules.specs.RuleFaults.{IsRuleFault, of_operations, of_fields, of_fragments, of_spreads, of_variables, of_merging}
use Rattle.gq_renamed.specs.Renamings.{fragment_called}
use Rattle.gq_laws.specs.Placing.Types.{NoPlacesMatter, PlacesOfTypesDoNotMatter}
use Rattle.gq_laws.specs.Placing.OtherFields.{OtherFieldsDoNotMatter}
use Rattle.gq_laws.specs.Placing.Names.{RenamesKeepFaultless, FragmentRenamesKeepFaultless}

pub by_group : NoPlacesMatter IsOperationFault → NoPlacesMatter IsFieldFault → NoPlacesMatter IsFragmentFault →
    NoPlacesMatter IsSpreadFault → NoPlacesMatter IsVariableFault → NoPlacesMatter IsMergingFault → NoPlacesMatter IsRuleFault
by_group operations fields fragments spreads variables merging x y s f (of_operations h) = let like = operations x y s f h in (like.0, of_operations like.1, like.2, like.3)
by_group operations fields fragments spreads variables merging x y s f (of_fields h) = let like = fields x y s f h in (like.0, of_fields like.1, like.2, like.3)
by_group operations fields fragments spreads variables merging x y s f (of_fragments h) = let like = fragments x y s f h in (like.0, of_fragments like.1, like.2, like.3)
by_group operations fields fragments spreads variables merging x y s f (of_spreads h) = let like = spreads x y s f h in (like.0, of_spreads like.1, like.2, like.3)
by_group operations fields fragments spreads variables merging x y s f (of_variables h) = let like = variables x y s f h in (like.0, of_variables like.1, like.2, like.3)
by_group operations fields fragments spreads variables merging x y s f (of_merging h) = let like = merging x y s f h in (like.0, of_merging like.1, like.2, like.3)

-- the same of places in the type system alone
pub types_by_group : PlacesOfTypesDoNotMatter IsOperationFault → PlacesOfTypesDoNotMatter IsFieldFault → PlacesOfTypesDoNotMatter IsFragmentFault →
    PlacesOfTypesDoNotMatter IsSpreadFault → PlacesOfTypesDoNotMatter IsVariableFault → PlacesOfTypesDoNotMatter IsMergingFault → PlacesOfTypesDoNotMatter IsRuleFault
types_by_group operations fields fragments spreads variables merging es us same os gs f (of_operations h) = of_operations (operations es us same os gs f h)
types_by_group operations fields fragments spreads variables merging es us same os gs f (of_fields h) = of_fields (fields es us same os gs f h)
types_by_group operations fields fragments spreads variables merging es us same os gs f (of_fragments h) = of_fragments (fragments es us same os gs f h)
types_by_group operations fields fragments spreads variables merging es us same os gs f (of_spreads h) = of_spreads (spreads es us same os gs f h)
types_by_group operations fields fragments spreads variables merging es us same os gs f (of_variables h) = of_variables (variables es us same os gs f h)
types_by_group operations fields fragments spreads variables merging es us same os gs f (of_merging h) = of_merging (merging es us same os gs f h)

-- the same of fields that are not selected
pub other_fields_by_group : OtherFieldsDoNotMatter IsOperationFault → OtherFieldsDoNotMatter IsFieldFault → OtherFieldsDoNotMatter IsFragmentFault →
    OtherFieldsDoNotMatter IsSpreadFault → OtherFieldsDoNotMatter IsVariableFault → OtherFieldsDoNotMatter IsMergingFault → OtherFieldsDoNotMatter IsRuleFault
other_fields_by_group operations fields fragments spreads variables merging names es us same os gs none f (of_operations h) = of_operations (operations names es us same os gs none f h)
other_fields_by_group operations fields fragments spreads variables merging names es us same os gs none f (of_fields h) = of_fields (fields names es us same os gs none f h)
other_fields_by_group operations fields fragments spreads variables merging names es us same os gs none f (of_fragments h) = of_fragments (fragments names es us same os gs none f h)
other_fields_by_group operations fields fragments spreads variables merging names es us same os gs none f (of_spreads h) = of_spreads (spreads names es us same os gs none f h)
other_fields_by_group operations fields fragments spreads variables merging names es us same os gs none f (of_variables h) = of_variables (variables names es us same os gs none f h)
other_fields_by_group operations fields fragments spreads variables merging names es us same os gs none f (of_merging h) = of_merging (merging names es us same os gs none f h)

-- the same of the rename of a fragment
pub fragment_renames : RenamesKeepFaultless IsOperationFault → RenamesKeepFaultless IsFieldFault → FragmentRenamesKeepFaultless IsFragmentFault →
    FragmentRenamesKeepFaultless IsSpreadFault → FragmentRenamesKeepFaultless IsVariableFault → FragmentRenamesKeepFaultless IsMergingFault → FragmentRenamesKeepFaultless IsRuleFault
fragment_renames operations fields fragments spreads variables merging es old new before after e fresh none f h = by h
  where
    by : IsRuleFault (together es after) f → ⊥
    by (of_operations h) = operations es (λ n. fragment_called old) new before after e (λ g k. none g (of_operations k)) f h
    by (of_fields h) = fields es (λ n. fragment_called old) new before after e (λ g k. none g (of_fields k)) f h
    by (of_fragments h) = fragments es old new before after e fresh (λ g k. none g (of_fragments k)) f h
    by (of_spreads h) = spreads es old new before after e fresh (λ g k. none g (of_spreads k)) f h
    by (of_variables h) = variables es old new before after e fresh (λ g k. none g (of_variables k)) f h
    by (of_merging h) = merging es old new before after e fresh (λ g k. none g (of_merging k)) f h
