use Rattle.gq_tree.specs.Plain.{no_place, place_name, place_value, place_directive}
use Rattle.gq_tree.specs.Views.{literal_view, value_view, directive_view}
use Rattle.gq_kept.proofs.SamenessLemmas.{inputs_alike, alike_lists, alike_options}
use Rattle.gq_kept.proofs.sameness.InputValueDefinitionAlike.is_alike.Goals as goal

pub returns : goal.returns
returns c = λ h. inputs_alike c.args.self.now c.args.other.now (c.is_alike.ensures c.if-not-is_alike.false) (c.is_alike-2.ensures c.if-not-is_alike-2.false)
    (alike_options (place_value no_place) value_view _ _ _ c.are_both_alike.ensures c.if-not-are_both_alike.false)
    (alike_lists (place_directive no_place) directive_view _ _ _ _ _ c.deref.ensures.value c.deref-2.ensures.value c.are_alike.ensures c.if-not-are_alike.false)
    (alike_options (place_name no_place) literal_view _ _ _ c.are_both_alike-2.ensures h)
