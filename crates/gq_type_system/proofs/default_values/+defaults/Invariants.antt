use Rattle.std.proofs.Common.{◌≡◌, ◌++◌, drop}
use Rattle.gq_tree.specs.Views.{type_view, values_view, entries_view}
use Rattle.gq_type_system.specs.Helping.DefaultValuesPlaces.{led_in, below_of, gathered}
use Rattle.gq_types.specs.Look.{types_view}
use Rattle.gq_type_system.proofs.default_values.+defaults.Given as goal

abbrev pub invariant-put_fields-loop-field : goal.invariant-put_fields-loop-field
invariant-put_fields-loop-field l =
    l.row.items ++ gathered (types_view l.types) (led_in (types_view l.types) l.all) (below_of (types_view l.types) (type_view l.expected)) (entries_view (drop l.field-index l.given))
    ≡ l.initial.row.items ++ gathered (types_view l.types) (led_in (types_view l.types) l.all) (below_of (types_view l.types) (type_view l.expected)) (entries_view l.given)

abbrev pub invariant-put_items-loop-value : goal.invariant-put_items-loop-value
invariant-put_items-loop-value l =
    l.row.items ++ gathered (types_view l.types) (led_in (types_view l.types) l.all) (below_of (types_view l.types) (type_view l.expected)) (values_view (drop l.value-index l.items))
    ≡ l.initial.row.items ++ gathered (types_view l.types) (led_in (types_view l.types) l.all) (below_of (types_view l.types) (type_view l.expected)) (values_view l.items)
