-- The places that were noted stay, and those of one part more are behind them.
use Rattle.std.proofs.Common.{◌++◌, List, subst}
use Rattle.std.proofs.lemmas.Result.{on_ok_weaker}
use Rattle.gq_tree.specs.declared.tree.Name.{Name}
use Rattle.gq_index.specs.Helping.SpreadPlaces.{ArePlaces}
use Rattle.gq_index.specs.Views.{names_view}
use Rattle.gq_index.proofs.SpreadPlaceLemmas.{places_kept}
use Rattle.gq_index.proofs.standing.put_part.Goals as goal

pub returns-clause-places : goal.returns-clause-places
returns-clause-places c =
    on_ok_weaker c.put_spreads.result
    (λ put ns are. subst (λ (l : List Name). ArePlaces c.put_spreads.new.all.names (ns ++ names_view l) c.put_spreads.new.places.items) c.args.one.now.spreads_are
    (put ns (places_kept c.args.all.now.names c.put_own.new.all.names c.in_ok-put_own.ensures.kept ns c.args.places.now.items are)))
    c.put_spreads.ensures.places
