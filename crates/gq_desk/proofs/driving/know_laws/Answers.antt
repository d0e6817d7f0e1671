use Rattle.gq_desk.proofs.driving.know_laws.Goals as goal

pub returns : goal.returns
returns c = record {
  told = c.steps_tell_history.ensures;
  results = c.results_are_their_questions.ensures;
  modified = c.modified_at_change.ensures;
  safe = c.edits_are_safe.ensures;
}
