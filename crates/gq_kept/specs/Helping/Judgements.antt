-- What is known of the validity of a project that is held.
use Rattle.std.specs.Prelude.{true, false}
use Rattle.gq_rules.specs.Validity.{IsValid}
use Rattle.gq_kept.specs.KeptOf.{JudgedOf}
use Rattle.gq_kept.specs.declared.judged.Held.{Held}
use Rattle.gq_kept.specs.declared.judged.Held.TheVariants as held

abbrev pub judged_view : Held → JudgedOf
judged_view (held.Unjudged project) = record { documents = project; is_judged = false }
judged_view (held.Valid valid) = record { documents = valid; is_judged = true }
judged_view (held.Invalid project) = record { documents = project; is_judged = true }

abbrev pub IsJudgement : Held → Type 0
IsJudgement (held.Unjudged project) = Unit {0}
IsJudgement (held.Valid valid) = Unit {0}
IsJudgement (held.Invalid project) = IsValid project → ⊥
