use Rattle.std.proofs.Common.{◌≡◌, map, drop}
use Rattle.serde_json.specs.View.{view, items_of}
use Rattle.gq_rpc.specs.Decoding.{first_encoding}
use Rattle.gq_rpc.proofs.requests.read_first_encoding.Given as goal

-- the first that all values name is the first that those not yet seen name
abbrev pub invariant-loop-value : goal.invariant-loop-value
invariant-loop-value l =
    first_encoding (items_of (map view l.values)) ≡ first_encoding (items_of (map view (drop l.value-index l.values)))
