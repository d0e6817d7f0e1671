use Rattle.std.proofs.Common.{◌↔◌, Contains, subst, sym}
use Rattle.gq_tree.specs.Readings.{readings_view}
use Rattle.gq_types.specs.Look.{types_view}
use Rattle.gq_fault.specs.declared.fault.Fault.{Fault}
use Rattle.gq_known.specs.Known.{IsKnown}
use Rattle.gq_rules.specs.Faults.{IsToldFirst}
use Rattle.gq_rules.proofs.ByFile.{first_with, first_without}
use Rattle.gq_rules.proofs.by_file.first_faults.Goals.{then-not-known+in_ok-wrong+in_ok-append, else-not-known}
use Rattle.gq_rules.proofs.by_file.first_faults.Goals as goal

pub returns : goal.returns
returns c = λ (k : IsKnown c.args.known).
    let rs = readings_view c.args.known.readings.now in
    let es = types_view c.args.known.types.now in
    elim c.if-not-known.branch [
      | then-not-known+in_ok-wrong+in_ok-append w ↦
          subst (λ v. (f : Fault) → Contains v.items f ↔ IsToldFirst rs f) (sym w.faults-is)
          (first_with rs es k.is_type_system w.in_ok-wrong.wrong.items c.in_ok-faults.faults.items w.append.new.self.items w.in_ok-wrong.ensures.exact (c.in_ok-faults.ensures k) w.in_ok-append.ensures.items)
      | else-not-known w ↦
          subst (λ v. (f : Fault) → Contains v.items f ↔ IsToldFirst rs f) (sym w.faults-is)
          (first_without rs es k.is_type_system c.in_ok-faults.faults.items (k.sound w.if-not-known.false) (c.in_ok-faults.ensures k))
    ]
