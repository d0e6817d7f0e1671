use Rattle.std.proofs.Common.{◌≡◌, drop}
use Rattle.std.specs.List.{list_any}
use Rattle.std.specs.Str.{bytes_eq}
use Rattle.gq_type_system.specs.Helping.Groups.{names_in}
use Rattle.gq_type_system.specs.Helping.EmptyOrRepeatedPlaces.{texts_of}
use Rattle.gq_type_system.proofs.empty_or_repeated.is_among.Given as goal

abbrev pub invariant-loop-one : goal.invariant-loop-one
invariant-loop-one l = list_any (bytes_eq l.text) (texts_of (names_in (drop l.one-index l.names))) ≡ list_any (bytes_eq l.text) (texts_of (names_in l.names))
