use Rattle.std.proofs.Common.{◌≡◌, ◌++◌, drop, map}
use Rattle.gq_types.specs.Look.{types_view}
use Rattle.gq_document.specs.Definitions.{fragments_view}
use Rattle.gq_variables.specs.Helping.UsesPlaces.{fragment_uses}
use Rattle.gq_variables.specs.Helping.Views.{rows_view}
use Rattle.gq_variables.proofs.reached.uses_of_fragments.Given as goal

abbrev pub invariant-loop-fragment : goal.invariant-loop-fragment
invariant-loop-fragment l =
    rows_view l.rows.items ++ map (fragment_uses (types_view l.types)) (fragments_view (drop l.fragment-index l.fragments))
    ≡ map (fragment_uses (types_view l.types)) (fragments_view l.fragments)
