-- What the rules put is what is wrong.
use Rattle.std.proofs.Common.{◌⊎◌, inl, inr, ⊎_elim, List}
use Rattle.gq_fault.specs.declared.fault.Fault.{Fault}
use Rattle.gq_fault.specs.Adds.{AddsExactly}
use Rattle.gq_fault.proofs.PutLemmas.{puts_both, puts_as}
use Rattle.gq_document.specs.Executable.{ExecutableOf}
use Rattle.gq_spreads.specs.FragmentsMustBeUsed.{IsUnusedFragment}
use Rattle.gq_spreads.specs.FragmentSpreadTargetDefined.{IsUnknownFragment}
use Rattle.gq_spreads.specs.FragmentSpreadsMustNotFormCycles.{IsFragmentCycle}
use Rattle.gq_spreads.specs.SpreadFaults.{IsSpreadFault, fragment_not_used, unknown_fragment, fragment_cycle}

module _ (x : ExecutableOf) where
  abbrev IsOne : Fault → Type 0
  IsOne fault = (IsUnusedFragment x fault ⊎ IsUnknownFragment x fault) ⊎ IsFragmentCycle x fault

  to_cases : (fault : Fault) → IsSpreadFault x fault → IsOne fault
  to_cases fault (fragment_not_used w) = inl (inl w)
  to_cases fault (unknown_fragment w) = inl (inr w)
  to_cases fault (fragment_cycle w) = inr w

  from_cases : (fault : Fault) → IsOne fault → IsSpreadFault x fault
  from_cases fault w = ⊎_elim (λ v. ⊎_elim fragment_not_used unknown_fragment v) fragment_cycle w

  pub puts_faults : (old one two new : List Fault) → AddsExactly (IsUnusedFragment x) old one → AddsExactly (IsUnknownFragment x) one two → AddsExactly (IsFragmentCycle x) two new → AddsExactly (IsSpreadFault x) old new
  puts_faults old one two new a b c =
      puts_as IsOne (IsSpreadFault x) old new (λ fault. (from_cases fault, to_cases fault))
      (puts_both (λ fault. IsUnusedFragment x fault ⊎ IsUnknownFragment x fault) (IsFragmentCycle x) old two new (puts_both (IsUnusedFragment x) (IsUnknownFragment x) old one two a b) c)
