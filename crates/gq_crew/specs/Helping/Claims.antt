-- What holds of turns that are answered. Only contracts of private functions speak of it.
use Rattle.std.specs.Prelude.{List}
use Rattle.gq_events.specs.Rules.{Turn}
use Rattle.gq_events.specs.Headline.{Headline}
use Rattle.gq_desk.specs.Standing.{AreAnswered}
use Rattle.gq_desk.specs.Driving.{AreExact}

-- each result among them is exactly its question's, and each edit is safe
abbrev pub AnswersHold : Type 0
AnswersHold = (turns : List Turn) → AreAnswered 0 turns → AreExact 0 turns × Headline 0 turns
