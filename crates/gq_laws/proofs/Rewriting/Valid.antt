-- What validity promises to execution.
use Rattle.std.proofs.Common.{List}
use Rattle.std.proofs.lemmas.Grind.{not_there}
use Rattle.gq_project.specs.declared.document.Doc.{Doc}
use Rattle.gq_fault.specs.declared.fault.Fault.{Fault}
use Rattle.gq_spreads.specs.SpreadFaults.{unknown_fragment, fragment_cycle}
use Rattle.gq_rules.specs.RuleFaults.{of_spreads}
use Rattle.gq_rules.specs.Faults.{IsToldFirst, first, rule}
use Rattle.gq_rules.specs.Project.{executable_of}
use Rattle.gq_rules.specs.Validity.{IsValid, IsInvalid}
use Rattle.gq_laws.specs.Rewriting.Validity.{NothingIsDemanded, FragmentsAreRanked}
use Rattle.gq_laws.proofs.Rewriting.Fragments.{are_ranked}

pub nothing_demanded : ((documents : List Doc) → IsValid documents → IsInvalid documents → ⊥) → NothingIsDemanded
nothing_demanded apart documents valid readings are item demanded = not_there valid (λ v. apart documents v (record { readings = readings; are_readings = are; some = (item, demanded) }))

pub fragments_are_ranked : ((documents : List Doc) → IsValid documents → IsInvalid documents → ⊥) → FragmentsAreRanked
fragments_are_ranked apart documents valid readings are o stands =
    let none = nothing_demanded apart documents valid readings are in
    let no_first : (other : Fault) → IsToldFirst readings other → ⊥ = λ other told. none other (first told) in
    are_ranked (executable_of readings) (λ item c. none item (rule no_first (of_spreads (fragment_cycle c)))) (λ item u. none item (rule no_first (of_spreads (unknown_fragment u)))) o stands
