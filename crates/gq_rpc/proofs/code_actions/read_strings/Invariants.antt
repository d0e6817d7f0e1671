use Rattle.std.proofs.Common.{◌≡◌, ◌++◌, map, drop, option_map}
use Rattle.serde_json.specs.View.{view, items_of}
use Rattle.gq_rpc.specs.Decoding.{strings_from}
use Rattle.gq_rpc.proofs.code_actions.read_strings.Given as goal

-- what all values are is what was read, and behind it what the others are
abbrev pub invariant-loop-value : goal.invariant-loop-value
invariant-loop-value l =
    strings_from (items_of (map view l.values)) ≡ option_map (λ others. l.strings ++ others) (strings_from (items_of (map view (drop l.value-index l.values))))
