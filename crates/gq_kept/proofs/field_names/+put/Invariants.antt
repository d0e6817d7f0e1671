-- no name was lost, and where none is among those that are left, none is among all
use Rattle.std.proofs.Common.{drop}
use Rattle.gq_kept.specs.Helping.Selected.{Grows}
use Rattle.gq_kept.proofs.FieldNamesLemmas.{Reaches, selects_below}
use Rattle.gq_kept.proofs.field_names.+put.Given as goal

abbrev pub invariant-put_selections-loop-selection : goal.invariant-put_selections-loop-selection
invariant-put_selections-loop-selection l = Grows l.initial.names l.names × Reaches selects_below (drop l.selection-index l.selections) l.selections l.names
