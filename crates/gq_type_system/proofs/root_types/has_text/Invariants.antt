use Rattle.std.proofs.Common.{◌≡◌, drop}
use Rattle.gq_type_system.specs.Helping.RootTypesPlaces.{taken_view, has_text}
use Rattle.gq_type_system.proofs.root_types.has_text.Given as goal

abbrev pub invariant-loop-one : goal.invariant-loop-one
invariant-loop-one l = has_text (taken_view (drop l.one-index l.taken)) l.text ≡ has_text (taken_view l.taken) l.text
