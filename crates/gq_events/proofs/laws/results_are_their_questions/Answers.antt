use Rattle.gq_events.proofs.Results.{results_are_their_questions}
use Rattle.gq_events.proofs.laws.results_are_their_questions.Goals as goal

pub returns : goal.returns
returns c = results_are_their_questions
