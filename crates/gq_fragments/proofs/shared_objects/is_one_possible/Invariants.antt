use Rattle.std.proofs.Common.{◌≡◌, drop}
use Rattle.std.specs.List.{list_any}
use Rattle.gq_types.specs.Look.{types_view}
use Rattle.gq_types.specs.LookUps.{texts_of}
use Rattle.gq_types.specs.SubtypesTests.{is_possible}
use Rattle.gq_fragments.proofs.shared_objects.is_one_possible.Given as goal

abbrev pub invariant-loop-object : goal.invariant-loop-object
invariant-loop-object l = list_any (is_possible (types_view l.types) l.condition) (texts_of (drop l.object-index l.objects)) ≡ list_any (is_possible (types_view l.types) l.condition) (texts_of l.objects)
