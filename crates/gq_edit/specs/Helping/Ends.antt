-- The ends of spans in a row, and positions for them.
use Rattle.std.specs.Prelude.{ℕ, List, [], ◌∷◌}
use Rattle.gq_text.specs.declared.place.Position.{Position}
use Rattle.gq_text.specs.declared.replacement.Replacement.{Replacement}
use Rattle.gq_edit.specs.declared.workspace.TextEdit.{TextEdit}

-- both ends of each span, in order
abbrev pub ends_of : List Replacement → List ℕ
ends_of [] = []
ends_of (r ∷ rs) = r.span.start ∷ r.span.end ∷ ends_of rs

-- each replacement with the next two of the positions
abbrev pub placed : List Replacement → List Position → List TextEdit
placed [] ps = []
placed (r ∷ rs) [] = []
placed (r ∷ rs) (start ∷ []) = []
placed (r ∷ rs) (start ∷ end ∷ ps) = record { range = record { start = start; end = end }; new_text = r.text } ∷ placed rs ps
