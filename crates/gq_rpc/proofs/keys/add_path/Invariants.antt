use Rattle.std.proofs.Common.{◌≡◌, ◌≤◌, ◌++◌, length, string_bytes}
use Rattle.gq_rpc.specs.Keys.{path_key}
use Rattle.gq_rpc.proofs.keys.add_path.Given as goal

abbrev pub invariant-parts : goal.invariant-parts
invariant-parts l = record {
  within : length l.rest ≤ length l.path;
  same : string_bytes l.initial.out ++ path_key l.path ≡ string_bytes l.out ++ path_key l.rest;
}

abbrev pub decreases-parts : goal.decreases-parts
decreases-parts l = length l.rest
