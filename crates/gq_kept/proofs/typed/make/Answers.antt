use Rattle.std.proofs.Common.{List, subst}
use Rattle.gq_types.specs.Entries.{EntryOf}
use Rattle.gq_kept.specs.Helping.TypesOf.{Tells}
use Rattle.gq_kept.proofs.typed.make.Goals as goal

pub returns-clause-tells : goal.returns-clause-tells
returns-clause-tells c = rw c.replace.ensures.after (subst (λ (es : List EntryOf). Tells c.in_ok-has_schema.has_schema es) c.in_ok-types.ensures c.in_ok-has_schema.ensures)
