use Rattle.std.proofs.Common.{◌++◌, ap, ◌∙◌, List}
use Rattle.gq_index.specs.declared.occurrence.Occurrence.{Occurrence}
use Rattle.gq_replies.specs.Locations.{locations_of}
use Rattle.gq_replies.proofs.Rows.{locations-rest}
use Rattle.gq_replies.proofs.locations.locations.Goals as goal

pub rows-preserved : goal.rows-preserved
rows-preserved c =
    locations-rest c.args.encoding c.args.documents.now c.rows.rest.now c.split_at.result.1.now c.row_len.result c.rows.locations c.put_row.new.locations _ c.split_at.ensures.back
    (c.in_ok-put_row.ensures ∙ ap (λ (os : List Occurrence). c.rows.locations ++ locations_of c.args.encoding c.args.documents.now os) c.split_at.ensures.front) c.rows.invariant
