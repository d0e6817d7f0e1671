-- Nothing is told of names that are clean, and the names are clean of which nothing is told.
use Rattle.std.proofs.Common.{List, Contains, length, ◌≡◌, subst, arith}
use Rattle.std.proofs.lemmas.Bool.Decides.{nat_tests}
use Rattle.gq_fault.specs.declared.fault.Fault.{Fault}
use Rattle.gq_types.proofs.Gathered.{nothing_in}
use Rattle.gq_document.specs.Executable.{executable_view}
use Rattle.gq_by_file.proofs.AcrossLemmas.{none_told}
use Rattle.gq_by_file.proofs.CleanLemmas.{clean_told, named_exact}
use Rattle.gq_by_file.proofs.across.found_named.Goals as goal

pub returns-then-is_clean-clause-faults : goal.returns-then-is_clean-clause-faults
returns-then-is_clean-clause-faults c es rs is are known f = (
  (λ s. nothing_in f (subst (λ (fs : List Fault). Contains fs f) c.new.ensures.items s)),
  (λ h. absurd (known c.if-is_clean.true es rs are f h)),
)

pub returns-clause-kept : goal.returns-clause-kept
returns-clause-kept c es rs is are known e =
    let none : length c.in_ok-faults.faults.items ≡ 0 = (let u = c.is_empty.ensures in grind (arith, nat_tests)) in
    clean_told es rs c.args.names.now are (executable_view c.args.executable.now) is c.in_ok-faults.faults.items c.in_ok-faults.ensures (none_told c.in_ok-faults.faults.items none)

pub returns-clause-faults : goal.returns-clause-faults
returns-clause-faults c es rs is are known = named_exact es rs c.args.names.now are (executable_view c.args.executable.now) is c.in_ok-faults.faults.items c.in_ok-faults.ensures
