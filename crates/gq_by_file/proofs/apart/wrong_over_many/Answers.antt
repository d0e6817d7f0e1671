-- What is wrong with the type system is all, where there is something; else what the rules tell.
use Rattle.std.proofs.Common.{◌↔◌, List, Contains, IfOk, ap, length, subst, arith}
use denote.Param.Send.{sendable}
use Rattle.std.proofs.Crossing.{crosses}
use Rattle.std.proofs.lemmas.Bool.Decides.{nat_tests}
use Rattle.std.proofs.lemmas.List.{nil_from_length}
use Rattle.gq_tree.specs.Readings.{unshared_view}
use Rattle.gq_types.proofs.Gathered.{nothing_in}
use Rattle.gq_fault.specs.declared.fault.Fault.{Fault}
use Rattle.gq_type_system.specs.SchemaFaults.{IsSchemaFault}
use Rattle.gq_document.specs.Executable.{executable_view}
use Rattle.gq_document.proofs.Crossing.{Types-sync}
use Rattle.gq_by_file.specs.Helping.Told.{AreLearnedOf}
use Rattle.gq_by_file.proofs.ToldLemmas.{schema_alone}
use Rattle.gq_by_file.proofs.apart.wrong_over_many.Goals as goal

pub join-wrong-requires-send-F : goal.join-wrong-requires-send-F
join-wrong-requires-send-F g c κs within = search (sendable, crosses, Types-sync) depth 12

pub returns-then-not-is_empty : goal.returns-then-not-is_empty
returns-then-not-is_empty g c _ =
    let x = executable_view c.args.executable.now in
    schema_alone x c.in_ok-wrong.wrong.items (λ e. let l = ap length e in grind (arith, nat_tests))
    (subst (λ r. IfOk r (λ faults. (f : Fault) → Contains faults.items f ↔ IsSchemaFault x.entries f)) c.in_ok-wrong.was c.join-wrong.ensures.first)

pub returns : goal.returns
returns g c is =
    let x = executable_view c.args.executable.now in
    let exact = subst (λ r. IfOk r (λ faults. (f : Fault) → Contains faults.items f ↔ IsSchemaFault x.entries f)) c.in_ok-wrong.was c.join-wrong.ensures.first in
    let none = nil_from_length c.in_ok-wrong.wrong.items (grind (arith, nat_tests)) in
    c.in_ok-faults.ensures is (subst (λ r. IfOk r (AreLearnedOf (unshared_view c.args.readings.now))) c.in_ok-known.was c.join-wrong.ensures.second)
    (λ f h. nothing_in f (subst (λ (fs : List Fault). Contains fs f) none ((exact f).1 h)))
