use Rattle.std.proofs.Common.{◌∙◌, ap}
use Rattle.gq_types.specs.Entries.{entries_view}
use Rattle.gq_types.specs.Declarers.{declarers}
use Rattle.gq_types.proofs.ImplementerLemmas.{declarers_are}
use Rattle.gq_types.proofs.types.Types.declarers.Goals as goal

pub returns : goal.returns
returns c =
    c.get.ensures ∙ c.self.invariant.declarers_are c.args.interface.now
    ∙ declarers_are (entries_view c.self.inside.definitions) c.args.interface.now c.self.inside.parts.items c.self.invariant.parts_are
    ∙ ap (λ es. declarers (entries_view es) c.args.interface.now) c.self.view_is
