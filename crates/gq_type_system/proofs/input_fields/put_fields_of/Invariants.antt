use Rattle.std.proofs.Common.{◌≡◌, ◌++◌, drop, flat_map, length}
use Rattle.gq_type_system.specs.Helping.DefaultValuesPlaces.{fields_view, named_fields_at, count_from}
use Rattle.gq_types.specs.Look.{types_view}
use Rattle.gq_type_system.proofs.input_fields.put_fields_of.Given as goal

abbrev pub invariant-loop-joined : goal.invariant-loop-joined
invariant-loop-joined l = record {
  fields : fields_view l.fields.items ++ flat_map (named_fields_at (types_view l.types) l.type_name) (drop l.joined-index l.joined-items)
      ≡ fields_view l.initial.fields.items ++ flat_map (named_fields_at (types_view l.types) l.type_name) l.joined-items;
  numbers : l.numbers.items ++ count_from (length (fields_view l.fields.items)) (flat_map (named_fields_at (types_view l.types) l.type_name) (drop l.joined-index l.joined-items))
      ≡ count_from (length (fields_view l.initial.fields.items)) (flat_map (named_fields_at (types_view l.types) l.type_name) l.joined-items);
}
