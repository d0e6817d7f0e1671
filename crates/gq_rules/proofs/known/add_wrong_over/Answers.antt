use Rattle.std.proofs.Common.{◌≡◌, true, ap, length, arith}
use Rattle.std.proofs.lemmas.List.{nil_from_length}
use Rattle.std.proofs.lemmas.Bool.Decides.{nat_tests}
use Rattle.gq_types.specs.Look.{types_view}
use Rattle.gq_fault.specs.declared.fault.Fault.{Fault}
use Rattle.gq_type_system.specs.SchemaFaults.{IsSchemaFault}
use Rattle.gq_document.specs.Executable.{executable_view}
use Rattle.gq_rules.proofs.KnownLemmas.{rules_alone, nothing_more}
use Rattle.gq_rules.proofs.known.add_wrong_over.Goals as goal

pub returns-then-not-is_empty : goal.returns-then-not-is_empty
returns-then-not-is_empty c = λ (sound : c.args.has_schema ≡ true → (fault : Fault) → IsSchemaFault (types_view c.args.executable.now.types.now) fault → ⊥).
    nothing_more (executable_view c.args.executable.now) (sound c.if-not-has_schema.false) c.args.faults.now.items (λ e. let l = ap length e in grind (arith, nat_tests))

pub returns : goal.returns
returns c = λ (sound : c.args.has_schema ≡ true → (fault : Fault) → IsSchemaFault (types_view c.args.executable.now.types.now) fault → ⊥).
    rules_alone (executable_view c.args.executable.now) (sound c.if-not-has_schema.false) c.args.faults.now.items c.in_ok-wrong.wrong.items c.append.new.self.items
    (nil_from_length _ (grind (arith, nat_tests))) c.in_ok-wrong.ensures c.in_ok-append.ensures.items
