use Rattle.std.proofs.Common.{◌≡◌, ◌++◌, drop, map, length}
use Rattle.gq_tree.specs.Views.{input_view}
use Rattle.gq_type_system.specs.Helping.DefaultValuesPlaces.{fields_view, named_fields, count_from}
use Rattle.gq_type_system.proofs.input_fields.put_fields.Given as goal

abbrev pub invariant-loop-input : goal.invariant-loop-input
invariant-loop-input l = record {
  fields : fields_view l.fields.items ++ named_fields l.type_name (map input_view (drop l.input-index l.inputs)) ≡ fields_view l.initial.fields.items ++ named_fields l.type_name (map input_view l.inputs);
  numbers : l.numbers.items ++ count_from (length (fields_view l.fields.items)) (named_fields l.type_name (map input_view (drop l.input-index l.inputs)))
      ≡ l.initial.numbers.items ++ count_from (length (fields_view l.initial.fields.items)) (named_fields l.type_name (map input_view l.inputs));
}
