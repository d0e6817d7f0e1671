-- One fragment more.
use Rattle.gq_types.specs.Look.{types_view}
use Rattle.gq_document.specs.Definitions.{fragment_view}
use Rattle.gq_fragments.specs.Helping.FragmentPlaces.{conditions_in_fragment}
use Rattle.gq_fragments.proofs.InlineConditionLemmas.{one_more}
use Rattle.gq_fragments.proofs.inline_conditions.add_conditions_in_fragments.Goals as goal

pub loop-fragment-preserved : goal.loop-fragment-preserved
loop-fragment-preserved c =
    one_more fragment_view (conditions_in_fragment (types_view c.args.types.now)) c.args.fragments.now c.loop-fragment.fragment-index c.fragment-item.result c.args.faults.now.items c.loop-fragment.faults.items c.add_conditions_in_fragment.new.faults.items
    c.loop-fragment-test.true c.fragment-item.is c.loop-fragment.invariant c.in_ok-add_conditions_in_fragment.ensures
