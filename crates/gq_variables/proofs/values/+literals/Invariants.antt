use Rattle.std.proofs.Common.{◌≡◌, ◌++◌, drop}
use Rattle.gq_types.specs.Look.{types_view}
use Rattle.gq_variables.specs.Helping.UsesPlaces.{item_uses, field_uses}
use Rattle.gq_variables.specs.Helping.Views.{place_view, uses_view}
use Rattle.gq_variables.proofs.values.+literals.Given as goal

abbrev pub invariant-put_uses_of_items-loop-value : goal.invariant-put_uses_of_items-loop-value
invariant-put_uses_of_items-loop-value l =
    uses_view l.uses.items ++ item_uses (types_view l.types) l.file (place_view l.place) (drop l.value-index l.values) ≡ uses_view l.initial.uses.items ++ item_uses (types_view l.types) l.file (place_view l.place) l.values

abbrev pub invariant-put_uses_of_fields-loop-field : goal.invariant-put_uses_of_fields-loop-field
invariant-put_uses_of_fields-loop-field l =
    uses_view l.uses.items ++ field_uses (types_view l.types) l.file (place_view l.place) (drop l.field-index l.fields) ≡ uses_view l.initial.uses.items ++ field_uses (types_view l.types) l.file (place_view l.place) l.fields
