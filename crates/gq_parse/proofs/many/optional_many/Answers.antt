use Rattle.std.proofs.Common.{arith, sym, ◌∙◌, false-eqb, ap, map}
use Rattle.std.proofs.lemmas.Bool.{eqb-true}
use Rattle.gq_parse.proofs.Fronts.{enclosed_some, enclosed_empty, enclosed_none, no_items, some_items}
use Rattle.gq_parse.proofs.many.optional_many.Goals as goal

pub returns-then-is_empty-clause-none : goal.returns-then-is_empty-clause-none
returns-then-is_empty-clause-none g c =
    let empty = no_items g.P.Phrase.view _ (omega (arith, c.in_ok-items-in-Some.items.ok.0, eqb-true _ _ (sym c.is_empty.ensures ∙ c.if-is_empty.true))) in
    λ e. enclosed_empty _ c.requires.unique c.requires.apart c.in-Some.ensures.found c.in_ok-items-in-Some.ensures.found empty

pub returns-else-is_empty-clause-found : goal.returns-else-is_empty-clause-found
returns-else-is_empty-clause-found g c =
    let some = some_items g.P.Phrase.view _ (omega (arith, c.in_ok-items-in-Some.items.ok.0, false-eqb _ _ (sym c.if-is_empty.false ∙ c.is_empty.ensures))) in
    enclosed_some _ c.in-Some.ensures.found c.in_ok-items-in-Some.ensures.found some

pub returns-in-None-clause-found : goal.returns-in-None-clause-found
returns-in-None-clause-found g c = enclosed_none _ (ap (map g.P.Phrase.view) c.new.ensures.items) c.in-None.ensures.none
