use Rattle.std.proofs.Common.{◌≡◌, ◌++◌, [], drop}
use Rattle.gq_types.specs.Look.{types_view}
use Rattle.gq_types.specs.LookUps.{texts_of}
use Rattle.gq_types.specs.Helping.PossiblePlaces.{objects_after, member_texts}
use Rattle.gq_types.proofs.possible.members_of.Given as goal

abbrev pub invariant-loop-part : goal.invariant-loop-part
invariant-loop-part l = texts_of l.texts.items ++ objects_after (types_view l.types) l.seen (member_texts (types_view l.types) (drop l.part-index l.parts)) ≡ objects_after (types_view l.types) [] (member_texts (types_view l.types) l.parts)
