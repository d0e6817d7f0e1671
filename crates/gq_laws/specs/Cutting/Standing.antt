-- What stands in a document, at any depth.
use Rattle.std.specs.Prelude.{◌≡◌, ◌++◌, ℕ, List, Contains, Some}
use Rattle.gq_text.specs.declared.place.Span.{Span}
use Rattle.gq_tree.specs.Forest.{none, more, labels, row}
use Rattle.gq_tree.specs.Plain.{Head, Sel, Sels, Def, operation, fragment, type_system}
use Rattle.gq_laws.specs.Rewriting.Places.{run_start, run_end}

-- the selections of a definition
abbrev pub set_in : Def Span → Sels Span
set_in (operation kind name variables directives set braces place) = set
set_in (fragment name on directives set braces place) = set
set_in (type_system definition) = none

-- a selection that says this stands in a definition of the document
pub record HasSelection (document : List (Def Span)) (head : Head Span) : Type 0 where
  pub definition : Def Span
  pub stands : Contains document definition
  pub among : Contains (labels (set_in definition)) head

-- the last selections of a set: the set is this one, or stands in it at any depth
pub data EndsWithin : (set last : Sels Span) → Type 0 where
  all_of_it : {set : Sels Span} → EndsWithin set set
  in_braces : {head : Head Span} {below rest last : Sels Span} → EndsWithin below last → EndsWithin (more head below rest) last
  behind_it : {head : Head Span} {below rest last : Sels Span} → EndsWithin rest last → EndsWithin (more head below rest) last

-- consecutive selections of a set of the document, from start to end
pub record HasRun (document : List (Def Span)) (start end : ℕ) (run : List (Sel Span)) : Type 0 where
  pub definition : Def Span
  pub stands : Contains document definition
  pub others : List (Sel Span)
  pub ends : EndsWithin (set_in definition) (row (run ++ others))
  pub first : run_start run ≡ Some start
  pub last : run_end run ≡ Some end
