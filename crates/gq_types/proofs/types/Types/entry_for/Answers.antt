use Rattle.std.proofs.Common.{ap, sym, ◌∙◌}
use Rattle.gq_types.specs.Entries.{entries_view}
use Rattle.gq_types.specs.Roots.{entry_for}
use Rattle.gq_types.proofs.PartLookups.{entry_is}
use Rattle.gq_types.proofs.types.Types.entry_for.Goals as goal

pub returns : goal.returns
returns c =
    let es = entries_view c.self.inside.definitions in
    c.named.ensures ∙ c.self.invariant.uses_are.roots_are c.args.kind ∙ sym (entry_is es c.args.kind) ∙ ap (λ ds. entry_for (entries_view ds) c.args.kind) c.self.view_is
