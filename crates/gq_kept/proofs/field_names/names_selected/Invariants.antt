-- where none is among the definitions that are left, none is among all
use Rattle.std.proofs.Common.{drop}
use Rattle.gq_kept.proofs.FieldNamesLemmas.{Reaches, selects_within}
use Rattle.gq_kept.proofs.field_names.names_selected.Given as goal

abbrev pub invariant-loop-definition : goal.invariant-loop-definition
invariant-loop-definition l = Reaches selects_within (drop l.definition-index l.definition-items) l.definition-items l.names
