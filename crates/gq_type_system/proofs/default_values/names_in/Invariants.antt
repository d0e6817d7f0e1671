use Rattle.std.proofs.Common.{◌≡◌, ◌++◌, drop}
use Rattle.gq_tree.specs.Views.{entries_view}
use Rattle.gq_type_system.specs.Helping.DefaultValuesPlaces.{keys_in}
use Rattle.gq_type_system.proofs.default_values.names_in.Given as goal

abbrev pub invariant-loop-field : goal.invariant-loop-field
invariant-loop-field l = l.names ++ keys_in (entries_view (drop l.field-index l.given)) ≡ keys_in (entries_view l.given)
