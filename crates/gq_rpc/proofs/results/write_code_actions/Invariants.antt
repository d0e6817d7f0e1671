use Rattle.std.proofs.Common.{◌≡◌, map, take}
use Rattle.serde_json.specs.View.{view}
use Rattle.gq_rpc.specs.Encoding.{code_action_value}
use Rattle.gq_rpc.proofs.results.write_code_actions.Given as goal

abbrev pub invariant-loop-action : goal.invariant-loop-action
invariant-loop-action l = map view l.values.items ≡ map code_action_value (take l.action-index l.actions)
