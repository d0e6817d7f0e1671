use Rattle.gq_select.proofs.RunsFound.{runs_are_runs, first_run_is_found, no_run_is_found}
use Rattle.gq_select.proofs.laws.runs_go_from_place_to_place.Goals as goal

pub returns-clause-in_set : goal.returns-clause-in_set
returns-clause-in_set c = runs_are_runs

pub returns-clause-in_sets : goal.returns-clause-in_sets
returns-clause-in_sets c = first_run_is_found

pub returns-clause-none : goal.returns-clause-none
returns-clause-none c = no_run_is_found
