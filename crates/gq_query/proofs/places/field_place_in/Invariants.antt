use Rattle.std.proofs.Common.{◌≡◌, drop, map}
use Rattle.gq_tree.specs.Views.{field_definition_view}
use Rattle.gq_query.specs.Helping.Gathered.{field_place_in}
use Rattle.gq_query.proofs.places.field_place_in.Given as goal

abbrev pub invariant-loop-field : goal.invariant-loop-field
invariant-loop-field l = field_place_in l.file l.name (map field_definition_view (drop l.field-index l.fields)) ≡ field_place_in l.file l.name (map field_definition_view l.fields)
