use Rattle.std.proofs.Common.{sym, ◌∙◌}
use Rattle.gq_types.proofs.IndexLemmas.{known_already}
use Rattle.gq_types.proofs.locations.put_location.Goals as goal

pub returns-else-not-has_location : goal.returns-else-not-has_location
returns-else-not-has_location c =
    known_already c.args.kept.now.items c.args.location (sym (rw c.deref.ensures.value at c.has_location.ensures) ∙ c.if-not-has_location.false)
