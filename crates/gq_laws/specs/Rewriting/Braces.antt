-- Selections stand in braces (sections 2.4, 2.5 and 2.8).
use Rattle.std.specs.Prelude.{◌≡◌, Bool, true, false, List, is_some}
use Rattle.gq_text.specs.declared.place.Span.{Span}
use Rattle.gq_tree.specs.Forest.{none, more}
use Rattle.gq_tree.specs.Plain.{Head, field, spread, inline, Sels}
use Rattle.gq_project.specs.declared.document.Doc.{Doc}
use Rattle.gq_tree.specs.Readings.{ParsedOf}
use Rattle.gq_parse.specs.Parsed.{AreParsed}
use Rattle.gq_document.specs.Selections.{SelectedOf}
use Rattle.gq_document.specs.Executable.{Selects}
use Rattle.gq_rules.specs.Project.{executable_of}

-- whether a selection stands there
abbrev pub holds_any : Sels Span → Bool
holds_any none = false
holds_any (more head below rest) = true

-- Below a field selections stand exactly where it has braces, below a spread none stand, and below an inline fragment some.
abbrev pub IsBraced : Head Span → (below : Sels Span) → Type 0
IsBraced (field alias name arguments directives braces place) below = is_some braces ≡ holds_any below
IsBraced (spread name directives place) below = holds_any below ≡ false
IsBraced (inline on directives braces place) below = holds_any below ≡ true

-- of each project, valid or not
abbrev pub SelectionsStandInBraces : Type 0
SelectionsStandInBraces = (documents : List Doc) (readings : List ParsedOf) → AreParsed documents readings → (s : SelectedOf) → Selects (executable_of readings) s → IsBraced s.selection.label s.selection.below
