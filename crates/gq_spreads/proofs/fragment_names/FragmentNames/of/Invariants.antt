use Rattle.std.proofs.Common.{◌≡◌, ◌++◌, drop}
use Rattle.gq_names.specs.UnderNames.{items_under}
use Rattle.gq_types.specs.Entries.{Text}
use Rattle.gq_document.specs.Definitions.{fragments_view}
use Rattle.gq_spreads.specs.Helping.Rows.{texts}
use Rattle.gq_spreads.specs.Spreads.{places_from}
use Rattle.gq_spreads.proofs.fragment_names.FragmentNames.of.Given as goal

abbrev pub invariant-loop-fragment : goal.invariant-loop-fragment
invariant-loop-fragment l = record {
  names : l.names.items ++ texts (fragments_view (drop l.fragment-index l.fragments)) ≡ texts (fragments_view l.fragments);
  found : (text : Text) → items_under l.numbers text ≡ places_from 0 text l.names.items;
}
