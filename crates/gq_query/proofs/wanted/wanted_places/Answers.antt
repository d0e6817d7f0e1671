use Rattle.std.proofs.Common.{◌↔◌, List, Contains, subst}
use Rattle.gq_index.specs.declared.occurrence.Occurrence.{Occurrence}
use Rattle.gq_mentions.specs.Views.{mention_view}
use Rattle.gq_query.specs.Helping.Wants.{IsWanted}
use Rattle.gq_query.proofs.Exact.{exactly_of}
use Rattle.gq_query.proofs.wanted.wanted_places.Goals as goal

pub returns : goal.returns
returns c = λ ds is.
    let found = c.in_ok-found.found.items in
    let same = subst (λ (l : List Occurrence). (o : Occurrence) → Contains found o ↔ Contains l o) c.deref.ensures.value c.in_ok-found.ensures.same in
    exactly_of (IsWanted ds c.args.wanted.uses c.args.wanted.declarations (mention_view c.args.mention.now)) c.in_ok-places.places.items found c.in_ok-found.ensures.sorted same (c.in_ok-places.ensures ds is)
