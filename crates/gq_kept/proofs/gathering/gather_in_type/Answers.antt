use Rattle.std.proofs.lemmas.Result.{IfOk-weaker}
use Rattle.gq_tree.specs.Plain.{no_place, place_directive}
use Rattle.gq_tree.specs.Views.{directive_view}
use Rattle.gq_kept.proofs.SamenessLemmas.{alike_lists, definitions_alike, same_flags}
use Rattle.gq_kept.proofs.GatheredLemmas.{gathered_weaker}
use Rattle.gq_kept.proofs.gathering.gather_in_type.Goals as goal

pub returns : goal.returns
returns c =
    let directives = alike_lists (place_directive no_place) directive_view _ _ _ _ _ c.deref.ensures.value c.deref-2.ensures.value c.are_alike.ensures c.if-not-are_alike.false in
    let extends = same_flags c.args.one.now.extends c.args.other.now.extends c.if-one-other.false in
    let same = definitions_alike c.args.one.now c.args.other.now extends (c.is_alike.ensures c.if-not-is_alike.false) directives in
    IfOk-weaker c.gather_in_body.result _ _ (λ done g t. gathered_weaker same (g t)) c.gather_in_body.ensures
