-- What is told of a project is told by its files.
use Rattle.std.proofs.Common.{◌≡◌, Bool, true, false, List, refl}
use Rattle.gq_fault.specs.declared.fault.Fault.{Fault}
use Rattle.gq_tree.specs.Readings.{ParsedOf}
use Rattle.gq_rules.specs.Project.{type_system_of, executable_of}
use Rattle.gq_rules.specs.RuleFaults.{IsRuleFault}
use Rattle.gq_rules.specs.Faults.{IsToldFirst, IsFaultOf, first, rule}
use Rattle.gq_rules.specs.RestsOnFile.{rests_on_file}
use Rattle.gq_rules.specs.Files.{IsLocalFault}
use Rattle.gq_by_file.specs.OneFile.Laws.{IsToldByFiles, FaultsAreToldByFiles}
use Rattle.gq_by_file.specs.OneFile.Laws as files
use Rattle.gq_by_file.proofs.OneFile.Local.{local_faults_are}
use Rattle.gq_by_file.proofs.OneFile.LocalLaws.{of_their_file}

module _ (rs : List ParsedOf) (f : Fault) where
  by_code : (b : Bool) → rests_on_file f.code ≡ b → ((other : Fault) → IsToldFirst rs other → ⊥) → IsRuleFault (executable_of rs) f → IsToldByFiles rs f
  by_code true rests none h = files.of_file none ((of_their_file IsLocalFault local_faults_are (type_system_of rs) rs f).0 (rests, h))
  by_code false rests none h = files.across none (rests, h)

  by_files : IsFaultOf rs f → IsToldByFiles rs f
  by_files (first h) = files.first h
  by_files (rule none h) = by_code (rests_on_file f.code) refl none h

  together : IsToldByFiles rs f → IsFaultOf rs f
  together (files.first h) = first h
  together (files.of_file none h) = rule none ((of_their_file IsLocalFault local_faults_are (type_system_of rs) rs f).1 h).1
  together (files.across none h) = rule none h.1

pub told_by_files : FaultsAreToldByFiles
told_by_files rs f = (λ h. by_files rs f h, λ h. together rs f h)
