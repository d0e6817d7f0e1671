use Rattle.std.proofs.Common.{rules}
use Rattle.std.proofs.lemmas.Fn.{always_returns_same}
use Rattle.gq_index.specs.Occurrences.{executables}
use Rattle.gq_query.proofs.OwnDefinitions.{is_before, first_is}
use Rattle.gq_query.proofs.own.first_number.Goals as goal

-- The closure asks whether a definition stands in an earlier document.
pub returns-clause-number : goal.returns-clause-number
returns-clause-number c = λ readings is.
    first_is c.args.file readings c.places.result.now c.partition_point.result (c.places.ensures (executables readings) is) c.partition_point.ensures.bound
    (c.partition_point.ensures.partitioned (is_before c.args.file) (always_returns_same _ _ _ (λ a r g called. search rules)))
