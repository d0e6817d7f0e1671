use Rattle.std.proofs.Common.{◌≡◌, ◌++◌, drop, map}
use Rattle.gq_tree.specs.Views.{field_definition_view}
use Rattle.gq_type_system.specs.Helping.Groups.{names_in}
use Rattle.gq_types.specs.Joined.{put_in}
use Rattle.gq_type_system.proofs.parts.put_field_names.Given as goal

abbrev pub invariant-loop-field : goal.invariant-loop-field
invariant-loop-field l = names_in l.names.items ++ put_in l.file (map (λ y. y.name) (map field_definition_view (drop l.field-index l.fields))) ≡ names_in l.initial.names.items ++ put_in l.file (map (λ y. y.name) (map field_definition_view l.fields))
