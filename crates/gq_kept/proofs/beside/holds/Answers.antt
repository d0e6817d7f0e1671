-- The list of all faults tells whether a rule of the type system is broken.
use Rattle.std.proofs.Common.{ap, length, arith}
use Rattle.std.proofs.lemmas.List.{nil_from_length}
use Rattle.std.proofs.lemmas.Bool.Decides.{nat_tests}
use Rattle.gq_types.specs.Look.{types_view}
use Rattle.gq_known.proofs.LearnedLemmas.{none_found, some_found}
use Rattle.gq_kept.proofs.beside.holds.Goals as goal

pub returns : goal.returns
returns c =
    let es = types_view c.args.types.now in
    let faults = c.in_ok-schema_faults.field-0.items in (
      λ yes. none_found es faults c.in_ok-schema_faults.ensures.exact (nil_from_length _ (grind (arith, nat_tests))),
      λ no. some_found es faults c.in_ok-schema_faults.ensures.exact (λ e. let l = ap length e in grind (arith, nat_tests)),
    )
