use Rattle.std.proofs.Common.{◌≡◌, Option, Some, None, ◌∙◌, ap, sym, subst, refl}
use Rattle.std.specs.Option.{option_map}
use Rattle.gq_tree.specs.Readings.{readings_view}
use Rattle.gq_mentions.specs.Mentions.{MentionOf}
use Rattle.gq_mentions.specs.Views.{mention_view}
use Rattle.gq_query.specs.Asked.{asked}
use Rattle.gq_query.specs.Helping.Own.{all_definitions}
use Rattle.gq_query.specs.Hovers.{IsHoverAt}
use Rattle.gq_query.proofs.Knowing.{own_index}
use Rattle.gq_query.proofs.hovers.hover_by.Goals as goal

pub returns-in_ok-found-in-Some : goal.returns-in_ok-found-in-Some
returns-in_ok-found-in-Some c = λ known is.
    let documents = c.args.known.project.now in
    let ds = all_definitions c.args.known.readings.now in
    let own = own_index c.args.known c.args.index.now c.documents_have_one_list.ensures known is in
    let meant : Some (mention_view c.in-Some.mention) ≡ asked documents ds c.args.key.now c.args.offset = ap (option_map mention_view) (sym c.in-Some.is) ∙ c.in_ok-mention.ensures own in
    let is_hover = subst (λ (o : Option MentionOf). IsHoverAt documents ds o c.in_ok-found-in-Some.found) meant (c.in_ok-found-in-Some.ensures known own) in
    record { readings = readings_view c.args.known.readings.now; are_readings = known.are_readings; is_hover = is_hover }

pub returns-in-None : goal.returns-in-None
returns-in-None c = λ known is.
    let documents = c.args.known.project.now in
    let ds = all_definitions c.args.known.readings.now in
    let own = own_index c.args.known c.args.index.now c.documents_have_one_list.ensures known is in
    let nothing : None ≡ asked documents ds c.args.key.now c.args.offset = ap (option_map mention_view) (sym c.in-None.is) ∙ c.in_ok-mention.ensures own in
    record { readings = readings_view c.args.known.readings.now; are_readings = known.are_readings; is_hover = subst (λ o. IsHoverAt documents ds o None) nothing refl }
