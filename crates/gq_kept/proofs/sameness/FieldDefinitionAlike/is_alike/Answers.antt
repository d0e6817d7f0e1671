use Rattle.gq_tree.specs.Plain.{no_place, place_name, place_input, place_directive}
use Rattle.gq_tree.specs.Views.{literal_view, input_view, directive_view}
use Rattle.gq_kept.proofs.SamenessLemmas.{fields_alike, alike_lists, alike_options}
use Rattle.gq_kept.proofs.sameness.FieldDefinitionAlike.is_alike.Goals as goal

pub returns : goal.returns
returns c = λ h. fields_alike c.args.self.now c.args.other.now (c.is_alike.ensures c.if-not-is_alike.false) (c.is_alike-2.ensures c.if-not-is_alike-2.false)
    (alike_lists (place_input no_place) input_view _ _ _ _ _ c.deref.ensures.value c.deref-2.ensures.value c.are_alike.ensures c.if-not-are_alike.false)
    (alike_lists (place_directive no_place) directive_view _ _ _ _ _ c.deref-3.ensures.value c.deref-4.ensures.value c.are_alike-2.ensures c.if-not-are_alike-2.false)
    (alike_options (place_name no_place) literal_view _ _ _ c.are_both_alike.ensures h)
