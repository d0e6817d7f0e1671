use Rattle.std.proofs.Common.{◌≡◌, drop, map}
use Rattle.gq_check.specs.Reasons.{first_reason}
use Rattle.gq_check.proofs.reasons.first_reason.Given as goal

-- the line of all is that of those from here on
abbrev pub invariant-loop-file : goal.invariant-loop-file
invariant-loop-file l = first_reason (map (λ file. file.now) (drop l.file-index l.files)) ≡ first_reason (map (λ file. file.now) l.files)
