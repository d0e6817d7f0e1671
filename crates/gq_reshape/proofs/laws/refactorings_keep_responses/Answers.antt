use Rattle.gq_reshape.proofs.Refactored.{removes_keep, extracts_keep, inlines_keep}
use Rattle.gq_reshape.proofs.laws.refactorings_keep_responses.Goals as goal

pub returns-clause-extract : goal.returns-clause-extract
returns-clause-extract c = extracts_keep c.one_tree.ensures c.no_project_is_valid_and_invalid.ensures c.restated_projects_keep_responses.ensures

pub returns-clause-inline : goal.returns-clause-inline
returns-clause-inline c = inlines_keep c.one_tree.ensures c.no_project_is_valid_and_invalid.ensures c.restated_projects_keep_responses.ensures

pub returns-clause-remove : goal.returns-clause-remove
returns-clause-remove c = removes_keep c.one_tree.ensures c.no_project_is_valid_and_invalid.ensures c.restated_projects_keep_responses.ensures
