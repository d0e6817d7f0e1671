use Rattle.gq_known.specs.Known.{IsKnown}
use Rattle.gq_rules.proofs.KnownLemmas.{none_is_valid, some_is_invalid}
use Rattle.gq_rules.proofs.known.why_not_known.Goals as goal

pub returns : goal.returns
returns c = record {
  valid = λ (k : IsKnown c.args.known). none_is_valid c.args.known.project.now c.in_ok-report.report (c.in_ok-report.ensures k);
  invalid = λ (k : IsKnown c.args.known). some_is_invalid c.args.known.project.now c.in_ok-report.report (c.in_ok-report.ensures k);
}
