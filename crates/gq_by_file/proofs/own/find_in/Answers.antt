-- What is found is the file's own.
use Rattle.std.proofs.Common.{◌↔◌, List, Contains, subst, sym}
use Rattle.gq_tree.specs.declared.parsed.Parsed.{Parsed}
use Rattle.gq_tree.specs.Readings.{parsed_view, shared_view}
use Rattle.gq_types.specs.Look.{types_view}
use Rattle.gq_fault.specs.declared.fault.Fault.{Fault}
use Rattle.gq_rules.specs.Files.{alone, IsLocalFault}
use Rattle.gq_by_file.proofs.own.find_in.Goals as goal

pub returns-clause-ok : goal.returns-clause-ok
returns-clause-ok c _ f =
    subst (λ (fs : List Fault). Contains fs f ↔ IsLocalFault (alone (types_view c.args.types.now) 0 (shared_view c.args.reading.now)) f) (sym c.from_vec.ensures)
    (subst (λ (r : Parsed). Contains c.in_ok-faults.faults.items f ↔ IsLocalFault (alone (types_view c.args.types.now) 0 (parsed_view r)) f) c.deref.ensures (c.in_ok-faults.ensures f))
