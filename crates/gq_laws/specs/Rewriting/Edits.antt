-- Selections that are extracted, inlined or opened in one document of a project, and what is kept.
use Rattle.std.specs.Prelude.{◌≡◌, ◌↔◌, ◌&&◌, ℕ, true, false, nat_eq, List, [], ◌∷◌, ◌++◌, Option, Some, None, slice_get}
use Rattle.gq_text.specs.declared.place.Span.{Span}
use Rattle.gq_tree.specs.declared.tree.OperationKind.{OperationKind}
use Rattle.gq_tree.specs.Forest.{more, row}
use Rattle.gq_tree.specs.Plain as tree
use Rattle.gq_tree.specs.Plain.{NameOf, DirectiveOf, Head, spread, Sel, Sels, Def, operation, fragment, type_system, erase_all}
use Rattle.gq_meaning.specs.Values.{Text}
use Rattle.gq_meaning.specs.Expand.{find_definition}
use Rattle.gq_meaning.specs.Thin.{IsIn}
use Rattle.gq_meaning.specs.Rewritten.{Static}
use Rattle.gq_rewritten.specs.Rewrites.{bare_name, head_place, same_place, with_extracted, with_inlined, without_braces, Rewrite, DefinitionPlace, is_kept, rewritten_from}
use Rattle.gq_laws.specs.Rewriting.KnownBefore.{Each, IsSpreadOf, SaysNothing}
use Rattle.gq_laws.specs.Rewriting.Places.{AreInPlace, run_start, run_end}
use Rattle.gq_laws.specs.Rewriting.Documents.{definitions_of, EachFrom, OfSet, IsSetOf, EndsSetIn, AreSound, Restates}

-- the document of that number, with its definitions in place
pub record HasDocument (trees : List (List (Def Span))) (file : ℕ) : Type 0 where
  pub tree : List (Def Span)
  pub is_tree : slice_get trees file ≡ Some tree
  pub in_place : AreInPlace 0 tree

-- A run that is extracted, the type of its parent, and the new fragment's name.
pub record RunAt : Type 0 where
  pub file : ℕ
  pub start : ℕ
  pub end : ℕ
  pub run : List (Sel Span)
  pub on : Text
  pub name : Text

abbrev pub extraction : RunAt → Rewrite
extraction e = record {
  file = e.file;
  change = with_extracted e.start e.end e.name;
  added = fragment (bare_name e.name) (bare_name e.on) [] (erase_all (row e.run)) tt tt ∷ [];
  dropped = None;
}

-- it stands in the document of that number, and no fragment has the name
pub record CanExtract (static : Static) (roots : OperationKind → Text) (trees : List (List (Def Span))) (e : RunAt) : Type 0 where
  pub document : HasDocument trees e.file
  pub others : List (Sel Span)
  pub ends : EndsSetIn static roots document.tree e.on (row (e.run ++ others))
  pub first : run_start e.run ≡ Some e.start
  pub last : run_end e.run ≡ Some e.end
  pub free : find_definition (definitions_of trees) e.name ≡ None

-- A spread that is inlined, and the type condition and the set of its fragment; a fragment that goes.
pub record SpreadAt : Type 0 where
  pub file : ℕ
  pub place : Span
  pub on : Text
  pub set : Sels Span
  pub dropped : Option DefinitionPlace

abbrev pub inlining : SpreadAt → Rewrite
inlining s = record { file = s.file; change = with_inlined s.place s.on (erase_all s.set); added = []; dropped = s.dropped }

-- a fragment of that name
abbrev pub IsNamed : Option Text → Def Span → Type 0
IsNamed f (operation kind name variables directives set braces place) = ⊥
IsNamed f (fragment name on directives set braces place) = f ≡ Some name.text
IsNamed f (type_system definition) = ⊥

-- it goes, and it alone, if it is the fragment of that name
abbrev pub GoesAs : Rewrite → Option Text → ℕ → Def Span → Type 0
GoesAs r old file d = (is_kept r.dropped file d ≡ false) ↔ IsNamed old d

-- a spread of another fragment than the one that goes
abbrev pub IsSpreadOther : Option Text → Head Span → Type 0
IsSpreadOther f (tree.field alias name arguments directives braces place) = Unit {0}
IsSpreadOther f (tree.spread name directives place) = f ≡ Some name.text → ⊥
IsSpreadOther f (tree.inline on directives braces place) = Unit {0}

-- a spread of the fragment that goes is the one that is inlined
abbrev pub IsLastSpread : Option Text → SpreadAt → ℕ → Head Span → Type 0
IsLastSpread f s file (tree.field alias name arguments directives braces place) = Unit {0}
IsLastSpread f s file (tree.spread name directives place) = f ≡ Some name.text → (nat_eq s.file file && same_place place s.place) ≡ true
IsLastSpread f s file (tree.inline on directives braces place) = Unit {0}

-- It stands in the document of that number, and its fragment in one of them. What goes is the fragment of the old name, if one
-- is given, and no other spread is of it.
pub record CanInline (static : Static) (roots : OperationKind → Text) (trees : List (List (Def Span))) (old : Option Text) (s : SpreadAt) : Type 0 where
  pub document : HasDocument trees s.file
  pub parent : Text
  pub name : NameOf Span
  pub directives : List (DirectiveOf Span)
  pub below : Sels Span
  pub rest : Sels Span
  pub ends : EndsSetIn static roots document.tree parent (more (spread name directives s.place) below rest)
  pub is_of : IsSpreadOf (definitions_of trees) s.on s.set name.text
  pub home : List (Def Span)
  pub is_home : IsIn home trees
  pub definition : Def Span
  pub stands : IsIn definition home
  pub is_set : IsSetOf roots definition s.on s.set
  pub goes : EachFrom (GoesAs (inlining s) old) 0 trees
  pub other : Each (IsSpreadOther old) s.set
  pub last : EachFrom (λ file d. OfSet roots (λ t set. Each (IsLastSpread old s file) set) d) 0 trees

-- An inline fragment stands at the place in the document of that number, and says nothing.
abbrev pub removal : ℕ → Span → Rewrite
removal file place = record { file = file; change = without_braces place; added = []; dropped = None }

pub record CanRemove (static : Static) (roots : OperationKind → Text) (trees : List (List (Def Span))) (file : ℕ) (place : Span) : Type 0 where
  pub document : HasDocument trees file
  pub parent : Text
  pub head : Head Span
  pub below : Sels Span
  pub rest : Sels Span
  pub ends : EndsSetIn static roots document.tree parent (more head below rest)
  pub at : head_place head ≡ place
  pub says : SaysNothing parent head

-- Rewritten documents ask for what those before do.
abbrev pub ExtractRestates : Type 0
ExtractRestates = (static : Static) (roots : OperationKind → Text) (trees : List (List (Def Span))) (e : RunAt) → AreSound static roots trees → CanExtract static roots trees e → Restates static roots trees (rewritten_from (extraction e) 0 trees)

abbrev pub InlineRestates : Type 0
InlineRestates = (static : Static) (roots : OperationKind → Text) (trees : List (List (Def Span))) (old : Option Text) (s : SpreadAt) → AreSound static roots trees → CanInline static roots trees old s → Restates static roots trees (rewritten_from (inlining s) 0 trees)

abbrev pub RemoveRestates : Type 0
RemoveRestates = (static : Static) (roots : OperationKind → Text) (trees : List (List (Def Span))) (file : ℕ) (place : Span) → AreSound static roots trees → CanRemove static roots trees file place → Restates static roots trees (rewritten_from (removal file place) 0 trees)
