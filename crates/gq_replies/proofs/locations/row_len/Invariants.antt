use Rattle.std.proofs.Common.{◌≡◌, All, take}
use Rattle.gq_replies.specs.Helping.Rows.{first_file}
use Rattle.gq_replies.proofs.locations.row_len.Given as goal

abbrev pub invariant-loop-count : goal.invariant-loop-count
invariant-loop-count l = All (λ o. o.file ≡ first_file l.occurrences) (take l.count l.occurrences)
