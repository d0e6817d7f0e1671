use Rattle.std.proofs.Common.{subst, ap, ◌∙◌}
use Rattle.gq_tree.specs.Readings.{readings_view}
use Rattle.gq_document.specs.Definitions.{operations_view, fragments_view}
use Rattle.gq_known.specs.Known.{IsKnown}
use Rattle.gq_rules.specs.Helping.Wrongs.{PutsWrong}
use Rattle.gq_rules.proofs.DemandLemmas.{executable_is}
use Rattle.gq_rules.proofs.known.add_wrong_known.Goals as goal

pub returns : goal.returns
returns c = λ (k : IsKnown c.args.known).
    let definitions = c.in_ok-definitions.ensures in
    subst (λ x. PutsWrong x c.args.faults.now.items c.add_wrong_over.new.faults.items)
    (executable_is (readings_view c.args.known.readings.now) _ _ _ k.is_type_system
    (ap operations_view c.deref.ensures.value ∙ definitions.operations) (ap fragments_view c.deref-2.ensures.value ∙ definitions.fragments))
    (c.in_ok-add_wrong_over.ensures k.sound)
