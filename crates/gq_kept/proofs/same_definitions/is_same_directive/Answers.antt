use Rattle.gq_tree.specs.Plain.{no_place, place_name, place_input}
use Rattle.gq_tree.specs.Views.{literal_view, input_view}
use Rattle.gq_kept.proofs.SamenessLemmas.{directives_alike, alike_lists, same_lists, alike_options, same_flags}
use Rattle.gq_kept.proofs.same_definitions.is_same_directive.Goals as goal

pub returns : goal.returns
returns c = λ h. directives_alike c.args.one.now c.args.other.now (alike_options (place_name no_place) literal_view _ _ _ c.are_both_alike.ensures h)
    (c.is_alike.ensures c.if-not-is_alike.false)
    (alike_lists (place_input no_place) input_view _ _ _ _ _ c.deref-3.ensures.value c.deref-4.ensures.value c.are_alike-2.ensures c.if-not-are_alike-2.false)
    (same_flags c.args.one.now.repeatable c.args.other.now.repeatable c.if-one-other.false)
    (same_lists _ _ _ _ _ c.deref.ensures.value c.deref-2.ensures.value c.are_alike.ensures c.if-not-are_alike.false)
