-- Each fault of a rule that rests on one file comes from one definition.
use Rattle.std.proofs.Common.{◌≡◌, ℕ, true, false, List, Contains, refl, ap}
use Rattle.gq_fault.specs.declared.fault.Fault.{Fault}
use Rattle.gq_types.specs.Entries.{EntryOf}
use Rattle.gq_document.specs.Definitions.{OperationOf, FragmentOf}
use Rattle.gq_document.specs.Executable.{ExecutableOf}
use Rattle.gq_fragments.specs.OperationFaults.{IsOperationFault}
use Rattle.gq_fragments.specs.OperationFaults as operations
use Rattle.gq_fragments.specs.FragmentFaults.{IsFragmentFault}
use Rattle.gq_fragments.specs.FragmentFaults as fragments
use Rattle.gq_spreads.specs.SpreadFaults.{IsSpreadFault}
use Rattle.gq_spreads.specs.SpreadFaults as spreads
use Rattle.gq_variables.specs.VariableFaults.{IsFaultOfOperation, IsVariableFault}
use Rattle.gq_variables.specs.VariableFaults as variables
use Rattle.gq_merging.specs.FieldsMerge.{IsMergingFault}
use Rattle.gq_merging.specs.FieldsMerge as merging
use Rattle.gq_rules.specs.RuleFaults.{IsRuleFault, of_operations, of_fields, of_fragments, of_spreads, of_variables, of_merging}
use Rattle.gq_rules.specs.RestsOnFile.{rests_on_file}
use Rattle.gq_rules.specs.Files.{in_file, IsLocalFault}
use Rattle.gq_by_file.proofs.OneFile.Comes.{ComesFrom, weaken, executable, AreLocal}
use Rattle.gq_by_file.proofs.OneFile.Fields.{are_local}
use Rattle.gq_by_file.proofs.OneFile.Fragments.{unknown_conditions_are, not_composite_are, subscriptions_are, no_roots_are}
use Rattle.gq_by_file.proofs.OneFile.Variables.{not_unique_comes, not_of_input_type_comes}

-- no fault with such a code has the code of another
no_other : {f g : Fault} {A : Type 0} → rests_on_file f.code ≡ true → f ≡ g → rests_on_file g.code ≡ false → A
no_other {f} {g} rests is rests_not = let e : rests_on_file f.code ≡ rests_on_file g.code = ap (λ z. rests_on_file z.code) is in absurd (cc)

module _ (es : List EntryOf) (os : List OperationOf) (gs : List FragmentOf) (f : Fault) (rests : rests_on_file f.code ≡ true) where
  abbrev x : ExecutableOf
  x = executable es os gs

  abbrev Elsewhere : List OperationOf → List FragmentOf → ℕ → Type 0
  Elsewhere ps hs m = IsLocalFault (executable es ps hs) (in_file m f)

  of_operation : IsOperationFault x f → ComesFrom os gs Elsewhere f.file
  of_operation (operations.subscription h) = weaken Elsewhere refl (λ ps hs m d. (rests, of_operations (operations.subscription d))) (subscriptions_are es os gs f h)
  of_operation (operations.no_root_type h) = weaken Elsewhere refl (λ ps hs m d. (rests, of_operations (operations.no_root_type d))) (no_roots_are es os gs f h)
  of_operation (operations.repeated_operation_name h) = no_other rests h.is refl
  of_operation (operations.not_alone h) = no_other rests h.is refl

  of_fragment : IsFragmentFault x f → ComesFrom os gs Elsewhere f.file
  of_fragment (fragments.unknown_condition h) = weaken Elsewhere refl (λ ps hs m d. (rests, of_fragments (fragments.unknown_condition d))) (unknown_conditions_are es os gs f h)
  of_fragment (fragments.condition_not_composite h) = weaken Elsewhere refl (λ ps hs m d. (rests, of_fragments (fragments.condition_not_composite d))) (not_composite_are es os gs f h)
  of_fragment (fragments.repeated_fragment_name h) = no_other rests h.is refl
  of_fragment (fragments.spread_not_possible h) = no_other rests h.is refl

  of_spread : IsSpreadFault x f → ComesFrom os gs Elsewhere f.file
  of_spread (spreads.fragment_not_used h) = no_other rests h.is refl
  of_spread (spreads.unknown_fragment h) = no_other rests h.is refl
  of_spread (spreads.fragment_cycle h) = no_other rests h.is refl

  in_operation : {o : OperationOf} → Contains os o → IsFaultOfOperation x o f → ComesFrom os gs Elsewhere f.file
  in_operation c (variables.not_unique h) = weaken Elsewhere refl (λ ps hs m d. (rests, of_variables d)) (not_unique_comes es os gs f c h)
  in_operation c (variables.not_of_input_type h) = weaken Elsewhere refl (λ ps hs m d. (rests, of_variables d)) (not_of_input_type_comes es os gs f c h)
  in_operation c (variables.not_defined h) = no_other rests h.is refl
  in_operation c (variables.not_used h) = no_other rests h.is refl
  in_operation c (variables.not_allowed h) = no_other rests h.is refl

  of_merging_fault : IsMergingFault x f → ComesFrom os gs Elsewhere f.file
  of_merging_fault (merging.of_shapes h) = no_other rests h.is refl
  of_merging_fault (merging.of_names h) = no_other rests h.is refl

  of_rule : IsRuleFault x f → ComesFrom os gs Elsewhere f.file
  of_rule (of_operations h) = of_operation h
  of_rule (of_fields h) = weaken Elsewhere refl (λ ps hs m d. (rests, of_fields d)) (are_local es os gs f h)
  of_rule (of_fragments h) = of_fragment h
  of_rule (of_spreads h) = of_spread h
  of_rule (of_variables h) = in_operation h.stands h.fault
  of_rule (of_merging h) = of_merging_fault h

pub local_faults_are : AreLocal IsLocalFault
local_faults_are es os gs f h = of_rule es os gs f h.0 h.1
