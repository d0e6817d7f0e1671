use Rattle.std.proofs.Common.{◌≡◌, map, take}
use Rattle.serde_json.specs.View.{view}
use Rattle.gq_rpc.specs.Encoding.{diagnostic_value}
use Rattle.gq_rpc.proofs.results.write_diagnostic_list.Given as goal

abbrev pub invariant-loop-diagnostic : goal.invariant-loop-diagnostic
invariant-loop-diagnostic l = map view l.values.items ≡ map diagnostic_value (take l.diagnostic-index l.diagnostics)
