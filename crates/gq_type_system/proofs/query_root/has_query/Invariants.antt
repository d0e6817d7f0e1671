use Rattle.std.proofs.Common.{◌≡◌, drop}
use Rattle.std.specs.List.{list_any}
use Rattle.gq_type_system.specs.Helping.Groups.{roots_in_view}
use Rattle.gq_type_system.specs.Helping.QueryRootPlaces.{is_for_queries}
use Rattle.gq_type_system.proofs.query_root.has_query.Given as goal

abbrev pub invariant-loop-one : goal.invariant-loop-one
invariant-loop-one l = list_any is_for_queries (roots_in_view (drop l.one-index l.roots)) ≡ list_any is_for_queries (roots_in_view l.roots)
