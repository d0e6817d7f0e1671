use Rattle.std.proofs.Common.{◌≡◌, drop}
use Rattle.gq_index.specs.Views.{definitions_view}
use Rattle.gq_query.specs.Words.{fragment_told}
use Rattle.gq_query.proofs.fragments.fragment_named.Given as goal

abbrev pub invariant-loop-one : goal.invariant-loop-one
invariant-loop-one l = fragment_told (definitions_view (drop l.one-index l.definitions)) l.name ≡ fragment_told (definitions_view l.definitions) l.name
