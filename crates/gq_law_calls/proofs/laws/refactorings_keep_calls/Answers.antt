use Rattle.gq_law_calls.proofs.Refactored.{removes_keep_calls, extracts_keep_calls, inlines_keep_calls}
use Rattle.gq_law_calls.proofs.laws.refactorings_keep_calls.Goals as goal

pub returns-clause-extract : goal.returns-clause-extract
returns-clause-extract c = extracts_keep_calls c.one_tree.ensures c.no_project_is_valid_and_invalid.ensures c.restated_projects_keep_calls.ensures

pub returns-clause-inline : goal.returns-clause-inline
returns-clause-inline c = inlines_keep_calls c.one_tree.ensures c.no_project_is_valid_and_invalid.ensures c.restated_projects_keep_calls.ensures

pub returns-clause-remove : goal.returns-clause-remove
returns-clause-remove c = removes_keep_calls c.one_tree.ensures c.no_project_is_valid_and_invalid.ensures c.restated_projects_keep_calls.ensures
