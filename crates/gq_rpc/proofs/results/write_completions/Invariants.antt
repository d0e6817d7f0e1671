use Rattle.std.proofs.Common.{◌≡◌, map, take}
use Rattle.serde_json.specs.View.{view}
use Rattle.gq_rpc.specs.Encoding.{completion_value}
use Rattle.gq_rpc.proofs.results.write_completions.Given as goal

abbrev pub invariant-loop-completion : goal.invariant-loop-completion
invariant-loop-completion l = map view l.values.items ≡ map completion_value (take l.completion-index l.completions)
