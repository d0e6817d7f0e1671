use Rattle.std.proofs.Common.{◌↔◌, ◌⊎◌, List, Contains, subst, sym}
use Rattle.gq_tree.specs.Readings.{unshared_view}
use Rattle.gq_fault.specs.declared.fault.Fault.{Fault}
use Rattle.gq_rules.specs.Faults.{IsMixed}
use Rattle.gq_rules.specs.Unread.{IsUnread}
use Rattle.gq_rules.proofs.DemandLemmas.{of_texts}
use Rattle.gq_rules.proofs.by_file.unread_and_mixed.Goals as goal

pub returns : goal.returns
returns c f =
    let rs = unshared_view c.args.readings.now in
    subst (λ (fs : List Fault). Contains fs f ↔ (IsUnread rs f ⊎ IsMixed rs f)) (sym c.in_ok-faults.ensures) (of_texts rs f)
