use Rattle.std.proofs.Common.{◌≡◌, drop}
use Rattle.gq_types.specs.Look.{types_view}
use Rattle.gq_table.specs.Views.{entries_view}
use Rattle.gq_coerce.specs.Literals.{input_fields}
use Rattle.gq_coerce.specs.Variables.{has_unknown}
use Rattle.gq_coerce.proofs.raw.has_unknown.Given as goal

abbrev pub invariant-loop-entry : goal.invariant-loop-entry
invariant-loop-entry l = has_unknown (input_fields (types_view l.types) l.name) (entries_view (drop l.entry-index l.entries)) ≡ has_unknown (input_fields (types_view l.types) l.name) (entries_view l.entries)
