use Rattle.std.proofs.Common.{ap, ◌∙◌}
use Rattle.gq_types.specs.Directives.{stands_at_location}
use Rattle.gq_types.specs.Entries.{entries_view}
use Rattle.gq_types.proofs.IndexLemmas.{stands_kept, stands_nowhere}
use Rattle.gq_types.proofs.types.Types.stands_at.Goals as goal

pub returns-in-None : goal.returns-in-None
returns-in-None c =
    let es = entries_view c.self.inside.definitions in
    stands_nowhere es c.args.directive.now c.args.location c.in-None.ensures.is ∙ ap (λ ds. stands_at_location (entries_view ds) c.args.directive.now c.args.location) c.self.view_is

pub returns-in-Some : goal.returns-in-Some
returns-in-Some c =
    let es = entries_view c.self.inside.definitions in
    (rw c.deref.ensures.value at c.has_location.ensures)
    ∙ stands_kept es c.self.inside.uses.locations.items c.args.directive.now c.in-Some.number c.index.result.now c.args.location c.self.invariant.uses_are.locations_are c.in-Some.ensures.is c.in-Some.ensures.within c.index.ensures
    ∙ ap (λ ds. stands_at_location (entries_view ds) c.args.directive.now c.args.location) c.self.view_is
