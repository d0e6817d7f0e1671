use Rattle.gq_types.specs.Entries.{entries_view}
use Rattle.gq_types.specs.Look.{types_view}
use Rattle.gq_kept.proofs.BesideLemmas.{told_of}
use Rattle.gq_kept.proofs.typed.make_beside.Goals as goal

pub returns-clause-tells : goal.returns-clause-tells
returns-clause-tells c = rw c.replace.ensures.after
    (told_of (types_view c.args.typed.now.types) (entries_view c.args.entries.items) (types_view c.in_ok-types.types) c.args.beside.now c.args.typed.now.has_schema c.in_ok-has_schema.has_schema
    c.in_ok-types.ensures c.requires c.in_ok-has_schema.ensures)
