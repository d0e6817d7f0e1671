use Rattle.std.proofs.lemmas.Result.{IfOk-weaker}
use Rattle.gq_tree.specs.Plain.{no_place, place_name}
use Rattle.gq_tree.specs.Views.{name_of}
use Rattle.gq_kept.proofs.SamenessLemmas.{alike_lists, parts_alike}
use Rattle.gq_kept.proofs.GatheredLemmas.{gathered_weaker}
use Rattle.gq_kept.proofs.gathering.gather_in_parts.Goals as goal

pub returns : goal.returns
returns c =
    let interfaces = alike_lists (place_name no_place) name_of _ _ _ _ _ c.deref.ensures.value c.deref-2.ensures.value c.are_alike.ensures c.if-not-are_alike.false in
    let fields = rw (c.deref-3.ensures.value, c.deref-4.ensures.value) at c.gather_between.ensures in
    IfOk-weaker c.gather_between.result _ _ (λ done g t. gathered_weaker (parts_alike c.args.one.now c.args.other.now interfaces) (g t)) fields
