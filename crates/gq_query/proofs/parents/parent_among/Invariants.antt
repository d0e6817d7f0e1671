use Rattle.std.proofs.Common.{◌≡◌, drop}
use Rattle.std.specs.Prelude.{find}
use Rattle.gq_document.specs.Views.{selections_view}
use Rattle.gq_query.specs.Parents.{is_field_at}
use Rattle.gq_query.proofs.parents.parent_among.Given as goal

abbrev pub invariant-loop-one : goal.invariant-loop-one
invariant-loop-one l = find (λ s. is_field_at l.at s.selection.label) (selections_view (drop l.one-index l.all)) ≡ find (λ s. is_field_at l.at s.selection.label) (selections_view l.all)
