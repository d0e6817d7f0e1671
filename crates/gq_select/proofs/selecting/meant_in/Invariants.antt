use Rattle.std.proofs.Common.{◌≡◌, drop}
use Rattle.std.specs.Option.{option_map}
use Rattle.gq_tree.specs.Views.{sels_view}
use Rattle.gq_types.specs.Look.{text_of}
use Rattle.gq_select.specs.Meant.{begins_last, is_meant, standing_in}
use Rattle.gq_select.specs.Views.{is_of_kind, standing_view}
use Rattle.gq_select.proofs.selecting.meant_in.Given as goal

abbrev pub invariant-loop-selection : goal.invariant-loop-selection
invariant-loop-selection l =
    begins_last (is_meant (is_of_kind l.kind) l.range) (option_map standing_view l.best) (standing_in (text_of l.set.parent) (sels_view (drop l.selection-index l.set.selections.now)))
    ≡ begins_last (is_meant (is_of_kind l.kind) l.range) (option_map standing_view l.initial.best) (standing_in (text_of l.set.parent) (sels_view l.set.selections.now))
