use Rattle.std.proofs.Common.{◌≡◌, take}
use Rattle.gq_response.specs.Views.{path_view}
use Rattle.gq_executor.proofs.answer.copied_path.Given as goal

abbrev pub invariant-loop-step : goal.invariant-loop-step
invariant-loop-step l = path_view l.copy.items ≡ path_view (take l.step-index l.path)
