use Rattle.gq_crew.proofs.one_thread.know_claims.Goals as goal

pub returns : goal.returns
returns c = λ turns answered. (
  record {
    results = λ j within. c.results_are_their_questions.ensures 0 turns j (answered j within);
    modified = λ j within. c.modified_at_change.ensures 0 turns j (answered j within);
  },
  λ j within. c.edits_are_safe.ensures 0 turns j (answered j within),
)
