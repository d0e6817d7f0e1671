-- What a cut has, so that its edit can be made and checked.
use Rattle.std.specs.Prelude.{◌≡◌, ℕ, true, List, Some, slice_get}
use Rattle.gq_text.specs.declared.place.Span.{Span}
use Rattle.gq_tree.specs.Plain.{Def}
use Rattle.gq_project.specs.declared.document.Doc.{Doc}
use Rattle.gq_tree.specs.Readings.{ParsedOf}
use Rattle.gq_meaning.specs.Thin.{IsIn}
use Rattle.gq_rewritten.specs.Executables.{IsExecutable}
use Rattle.gq_rename.specs.Asks.{trees_of}
use Rattle.gq_reshape.specs.Cuts.{Cut}
use Rattle.gq_reshape.specs.Helping.Fitting.{AllFit}
use Rattle.gq_reshape.specs.Helping.Judged.{IsQuiet}
use Rattle.gq_reshape.specs.Helping.Rereading.{is_edited}

-- an operation or a fragment stands among definitions
pub record SomeExecutable (ds : List (Def Span)) : Type 0 where
  pub definition : Def Span
  pub stands : IsIn definition ds
  pub is : IsExecutable definition

-- so it is in each document in which something may change
abbrev pub ChangesExecutables : List ParsedOf → Cut → Type 0
ChangesExecutables readings cut = (file : ℕ) (tree : List (Def Span)) → slice_get (trees_of readings) file ≡ Some tree → is_edited cut.rewrite file ≡ true → SomeExecutable tree

-- The replacements fit the texts, and where something is replaced something may change.
pub record CanBeMade (documents : List Doc) (readings : List ParsedOf) (cut : Cut) : Type 0 where
  pub fit : AllFit cut.replacements 0 documents
  pub quiet : IsQuiet cut
  pub executable : ChangesExecutables readings cut
