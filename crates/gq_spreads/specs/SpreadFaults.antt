-- What is wrong with fragments and their spreads: each fault that a rule demands, one case a rule (section 5.5).
use Rattle.gq_fault.specs.declared.fault.Fault.{Fault}
use Rattle.gq_document.specs.Executable.{ExecutableOf}
use Rattle.gq_spreads.specs.FragmentsMustBeUsed.{IsUnusedFragment}
use Rattle.gq_spreads.specs.FragmentSpreadTargetDefined.{IsUnknownFragment}
use Rattle.gq_spreads.specs.FragmentSpreadsMustNotFormCycles.{IsFragmentCycle}

pub data IsSpreadFault (x : ExecutableOf) (fault : Fault) : Type 0 where
  fragment_not_used : IsUnusedFragment x fault → IsSpreadFault x fault
  unknown_fragment : IsUnknownFragment x fault → IsSpreadFault x fault
  fragment_cycle : IsFragmentCycle x fault → IsSpreadFault x fault
