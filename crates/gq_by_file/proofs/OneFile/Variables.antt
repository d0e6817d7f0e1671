-- The faults of variables that come from one operation.
use Rattle.std.proofs.Common.{ℕ, List, Contains, ap}
use Rattle.gq_fault.specs.declared.fault.Fault.{Fault}
use Rattle.gq_types.specs.Entries.{EntryOf}
use Rattle.gq_document.specs.Definitions.{OperationOf, FragmentOf}
use Rattle.gq_variables.specs.VariableUniqueness.{IsNotUnique}
use Rattle.gq_variables.specs.VariablesAreInputTypes.{IsNotOfInputType}
use Rattle.gq_variables.specs.VariableFaults.{IsVariableFault, not_unique, not_of_input_type}
use Rattle.gq_rules.specs.Files.{in_file}
use Rattle.gq_by_file.proofs.OneFile.Comes.{ComesFrom, from_operation, executable}
use Rattle.gq_by_file.proofs.OneFile.Numbers.{operation_to}

module _ (es : List EntryOf) (os : List OperationOf) (gs : List FragmentOf) (f : Fault) where
  abbrev pub VariableElsewhere : List OperationOf → List FragmentOf → ℕ → Type 0
  VariableElsewhere ps hs m = IsVariableFault (executable es ps hs) (in_file m f)

  pub not_unique_comes : {o : OperationOf} → Contains os o → IsNotUnique o f → ComesFrom os gs VariableElsewhere f.file
  not_unique_comes {o} c h = from_operation c (ap (λ z. z.file) h.is) (λ m ps hs d. record {
    operation = operation_to m o;
    stands = d;
    fault = not_unique (record { variable = h.variable; repeated = h.repeated; is = ap (in_file m) h.is });
  })

  pub not_of_input_type_comes : {o : OperationOf} → Contains os o → IsNotOfInputType es o f → ComesFrom os gs VariableElsewhere f.file
  not_of_input_type_comes {o} c h = from_operation c (ap (λ z. z.file) h.is) (λ m ps hs d. record {
    operation = operation_to m o;
    stands = d;
    fault = not_of_input_type (record { variable = h.variable; defined = h.defined; no_input = h.no_input; is = ap (in_file m) h.is });
  })
