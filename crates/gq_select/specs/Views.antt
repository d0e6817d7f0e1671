-- What the code's selections stand for.
use Rattle.std.specs.Prelude.{Bool, List, map}
use Rattle.gq_text.specs.declared.place.Span.{Span}
use Rattle.gq_tree.specs.Plain.{Head}
use Rattle.gq_tree.specs.Views.{sel_view, sels_view}
use Rattle.gq_types.specs.Look.{text_of}
use Rattle.gq_select.specs.declared.selecting.SelectionKind.{SelectionKind}
use Rattle.gq_select.specs.declared.selecting.SelectionKind.TheVariants as kind
use Rattle.gq_select.specs.declared.selecting.Standing.{Standing}
use Rattle.gq_select.specs.declared.runs.Run.{Run}
use Rattle.gq_select.specs.Meant.{StandingOf, is_spread, is_inline}
use Rattle.gq_select.specs.Runs.{RunOf}

abbrev pub is_of_kind : SelectionKind → Head Span → Bool
is_of_kind kind.Spread head = is_spread head
is_of_kind kind.Inline head = is_inline head

abbrev pub standing_view : Standing → StandingOf
standing_view s = record { parent = text_of s.parent; selection = sel_view s.selection.now }

abbrev pub run_view : Run → RunOf
run_view r = record { parent = text_of r.parent; run = sels_view r.selections.now }
