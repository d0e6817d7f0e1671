use Rattle.std.proofs.Common.{◌≡◌, true, map}
use Rattle.gq_tree.specs.Plain.{no_place, place_name, place_field}
use Rattle.gq_tree.specs.Views.{name_of, field_definition_view}
use Rattle.gq_kept.proofs.SamenessLemmas.{alike_lists}
use Rattle.gq_kept.proofs.ComparedLemmas.{whole_parts_alike}
use Rattle.gq_kept.proofs.same_definitions.have_same_parts.Goals as goal

pub returns : goal.returns
returns c =
    let interfaces = alike_lists (place_name no_place) name_of _ _ _ _ _ c.deref.ensures.value c.deref-2.ensures.value c.are_alike.ensures c.if-not-are_alike.false in
    let fields : c.are_alike-2.result ≡ true →
    map (place_field no_place) (map field_definition_view c.args.one.now.fields.items) ≡ map (place_field no_place) (map field_definition_view c.args.other.now.fields.items) =
    λ h. alike_lists (place_field no_place) field_definition_view _ _ _ _ _ c.deref-3.ensures.value c.deref-4.ensures.value c.are_alike-2.ensures h in
    record {
      object = λ h. (whole_parts_alike c.args.one.now c.args.other.now interfaces (fields h)).0;
      interface = λ h. (whole_parts_alike c.args.one.now c.args.other.now interfaces (fields h)).1;
    }
