-- Type conditions (section 2.8): those of fragments and of inline fragments.
use Rattle.std.specs.Prelude.{◌≡◌, ℕ, List, Some, Contains}
use Rattle.gq_text.specs.declared.place.Span.{Span}
use Rattle.gq_tree.specs.Plain.{NameOf, DirectiveOf, inline}
use Rattle.gq_document.specs.Definitions.{FragmentOf}
use Rattle.gq_document.specs.Selections.{SelectedOf}
use Rattle.gq_document.specs.Executable.{ExecutableOf, Selects}

-- a type condition in the document of that number
pub data IsTypeCondition (x : ExecutableOf) : (file : ℕ) → NameOf Span → Type 0 where
  of_fragment : {f : FragmentOf} → Contains x.fragments f → IsTypeCondition x f.file f.on
  of_inline_fragment : {s : SelectedOf} {name : NameOf Span} {directives : List (DirectiveOf Span)} {braces place : Span} →
      Selects x s → s.selection.label ≡ inline (Some name) directives braces place → IsTypeCondition x s.file name
