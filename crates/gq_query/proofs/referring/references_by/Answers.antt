use Rattle.std.proofs.Common.{◌≡◌, List, Some, None, ◌∙◌, ap, sym, subst}
use Rattle.std.specs.Option.{option_map}
use Rattle.gq_tree.specs.Readings.{readings_view}
use Rattle.gq_index.specs.declared.occurrence.Occurrence.{Occurrence}
use Rattle.gq_mentions.specs.Views.{mention_view}
use Rattle.gq_query.specs.Asked.{asked, AtMention}
use Rattle.gq_query.specs.Helping.Own.{all_definitions}
use Rattle.gq_query.specs.Order.{AreExactly}
use Rattle.gq_query.specs.References.{IsReference}
use Rattle.gq_query.proofs.Exact.{at_mention, at_none}
use Rattle.gq_query.proofs.Knowing.{own_index}
use Rattle.gq_query.proofs.referring.references_by.Goals as goal

pub returns-in_ok-found-in-Some : goal.returns-in_ok-found-in-Some
returns-in_ok-found-in-Some c = λ known is.
    let documents = c.args.known.project.now in
    let ds = all_definitions c.args.known.readings.now in
    let m = mention_view c.in-Some.mention in
    let own = own_index c.args.known c.args.index.now c.documents_have_one_list.ensures known is in
    let meant : Some m ≡ asked documents ds c.args.key.now c.args.offset = ap (option_map mention_view) (sym c.in-Some.is) ∙ c.in_ok-mention.ensures own in
    let exactly =
    at_mention documents ds c.args.key.now c.args.offset m (λ n o. IsReference ds c.args.include_declaration n o)
    c.in_ok-found-in-Some.found.items meant (c.in_ok-found-in-Some.ensures ds own) in
    record { readings = readings_view c.args.known.readings.now; are_readings = known.are_readings; exactly = exactly }

pub returns-in-None : goal.returns-in-None
returns-in-None c = λ known is.
    let documents = c.args.known.project.now in
    let ds = all_definitions c.args.known.readings.now in
    let own = own_index c.args.known c.args.index.now c.documents_have_one_list.ensures known is in
    let nothing : None ≡ asked documents ds c.args.key.now c.args.offset = ap (option_map mention_view) (sym c.in-None.is) ∙ c.in_ok-mention.ensures own in
    let none = at_none documents ds c.args.key.now c.args.offset (λ n o. IsReference ds c.args.include_declaration n o) nothing in
    let exactly =
    subst (λ (l : List Occurrence). AreExactly (λ o. AtMention documents ds c.args.key.now c.args.offset (λ n. IsReference ds c.args.include_declaration n o)) l) (sym c.new.ensures.items) none in
    record { readings = readings_view c.args.known.readings.now; are_readings = known.are_readings; exactly = exactly }
