use Rattle.std.proofs.Common.{◌≡◌, ◌++◌, drop, map}
use Rattle.gq_tree.specs.Views.{name_of}
use Rattle.gq_types.specs.Look.{types_view}
use Rattle.gq_types.specs.LookUps.{texts_of}
use Rattle.gq_types.specs.Helping.PossiblePlaces.{objects_after, name_texts}
use Rattle.gq_types.proofs.possible.put_members.Given as goal

abbrev pub invariant-loop-member : goal.invariant-loop-member
invariant-loop-member l = record {
  objects : texts_of l.texts.items ++ objects_after (types_view l.types) l.seen (name_texts (map name_of (drop l.member-index l.members))) ≡ texts_of l.initial.texts.items ++ objects_after (types_view l.types) l.initial.seen (name_texts (map name_of l.members));
  all : l.seen ++ name_texts (map name_of (drop l.member-index l.members)) ≡ l.initial.seen ++ name_texts (map name_of l.members);
}
