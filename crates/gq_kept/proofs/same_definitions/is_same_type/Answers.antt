use Rattle.gq_tree.specs.Plain.{no_place, place_name, place_directive}
use Rattle.gq_tree.specs.Views.{literal_view, directive_view}
use Rattle.gq_kept.proofs.SamenessLemmas.{alike_lists, alike_options, same_flags}
use Rattle.gq_kept.proofs.ComparedLemmas.{types_alike}
use Rattle.gq_kept.proofs.same_definitions.is_same_type.Goals as goal

pub returns : goal.returns
returns c = λ h. types_alike c.args.one.now c.args.other.now (same_flags c.args.one.now.extends c.args.other.now.extends c.if-one-other.false)
    (alike_options (place_name no_place) literal_view _ _ _ c.are_both_alike.ensures c.if-not-are_both_alike.false)
    (c.is_alike.ensures c.if-not-is_alike.false)
    (alike_lists (place_directive no_place) directive_view _ _ _ _ _ c.deref.ensures.value c.deref-2.ensures.value c.are_alike.ensures c.if-not-are_alike.false)
    (c.is_same_body.ensures h)
