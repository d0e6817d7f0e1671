use Rattle.gq_tree.specs.Plain.{no_place, place_name, place_enum_value, place_input}
use Rattle.gq_tree.specs.Views.{name_of, enum_value_view, input_view}
use Rattle.gq_kept.proofs.SamenessLemmas.{alike_lists}
use Rattle.gq_kept.proofs.ComparedLemmas.{unions_same, enums_same, input_objects_same}
use Rattle.gq_kept.proofs.same_definitions.is_same_body.Goals as goal

pub returns-in-Union-other : goal.returns-in-Union-other
returns-in-Union-other c = λ h. unions_same _ _ _ _ c.in-Union.is c.in-Union-other.is
    (alike_lists (place_name no_place) name_of _ _ _ _ _ c.deref.ensures.value c.deref-in-Union-other.ensures.value c.are_alike.ensures h)

pub returns-in-Enum-other : goal.returns-in-Enum-other
returns-in-Enum-other c = λ h. enums_same _ _ _ _ c.in-Enum.is c.in-Enum-other.is
    (alike_lists (place_enum_value no_place) enum_value_view _ _ _ _ _ c.deref-in-Enum-other.ensures.value c.deref-in-Enum-other-2.ensures.value c.are_alike-in-Enum-other.ensures h)

pub returns-in-InputObject-other : goal.returns-in-InputObject-other
returns-in-InputObject-other c = λ h. input_objects_same _ _ _ _ c.in-InputObject.is c.in-InputObject-other.is
    (alike_lists (place_input no_place) input_view _ _ _ _ _ c.deref-in-InputObject-other.ensures.value c.deref-in-InputObject-other-2.ensures.value c.are_alike-in-InputObject-other.ensures h)
