-- What each file tells by itself, and what rests on several, is all.
use Rattle.std.proofs.Common.{◌↔◌, ◌⊎◌, List, Contains, subst}
use Rattle.gq_tree.specs.Readings.{ParsedOf, readings_view}
use Rattle.gq_types.specs.Entries.{EntryOf}
use Rattle.gq_fault.specs.declared.fault.Fault.{Fault}
use Rattle.gq_rules.specs.Files.{together, IsFaultAcross, IsOfItsFile}
use Rattle.gq_rules.specs.Project.{type_system_of, executable_of}
use Rattle.gq_kept.proofs.JudgingLemmas.{told_by_files}
use Rattle.gq_kept.proofs.judging.faults_by_files.Goals as goal

pub returns-clause-faults : goal.returns-clause-faults
returns-clause-faults c known kept none f =
    let rs : List ParsedOf = readings_view c.args.known.readings.now in
    let all : List Fault = c.in_ok-all.all.items in
    let all_are : (g : Fault) → Contains all g ↔ (IsOfItsFile (type_system_of rs) rs g ⊎ IsFaultAcross (executable_of rs) g) =
    λ g. subst (λ (us : List EntryOf). Contains all g ↔ (IsOfItsFile us rs g ⊎ IsFaultAcross (together us rs) g)) known.is_type_system (c.in_ok-all.ensures.faults kept g) in
    told_by_files c.faults_are_told_by_files.ensures rs none all all_are f
