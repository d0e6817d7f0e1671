use Rattle.gq_tree.specs.Plain.{no_place, place_name, place_directive, place_root}
use Rattle.gq_tree.specs.Views.{literal_view, directive_view, root_view}
use Rattle.gq_kept.proofs.SamenessLemmas.{schemas_alike, alike_lists, alike_options, same_flags}
use Rattle.gq_kept.proofs.same_definitions.is_same_schema.Goals as goal

pub returns : goal.returns
returns c = λ h. schemas_alike c.args.one.now c.args.other.now (same_flags c.args.one.now.extends c.args.other.now.extends c.if-one-other.false)
    (alike_options (place_name no_place) literal_view _ _ _ c.are_both_alike.ensures h)
    (alike_lists (place_directive no_place) directive_view _ _ _ _ _ c.deref-3.ensures.value c.deref-4.ensures.value c.are_alike-2.ensures c.if-not-are_alike-2.false)
    (alike_lists (place_root no_place) root_view _ _ _ _ _ c.deref.ensures.value c.deref-2.ensures.value c.are_alike.ensures c.if-not-are_alike.false)
