use Rattle.std.proofs.Common.{◌≡◌, Bool, drop}
use Rattle.std.specs.Prelude.{◌||◌}
use Rattle.gq_types.specs.Entries.{Text}
use Rattle.gq_document.specs.Definitions.{fragments_view}
use Rattle.gq_fragments.specs.Helping.ConditionsPlaces.{has_some}
use Rattle.gq_fragments.specs.Helping.FragmentPlaces.{some_condition}
use Rattle.gq_fragments.proofs.conditions_by_name.conditions_by_name.Given as goal

abbrev pub invariant-loop-fragment : goal.invariant-loop-fragment
invariant-loop-fragment l = (name : Text) (test : Text → Bool) →
    (has_some l.conditions test name || some_condition test (fragments_view (drop l.fragment-index l.fragments)) name) ≡ some_condition test (fragments_view l.fragments) name
