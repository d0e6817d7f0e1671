-- What is so of each set where selections are extracted, inlined or opened.
use Rattle.std.specs.Prelude.{◌≡◌, ◌⊎◌, ◌&&◌, ℕ, ◌<◌, ◌≤◌, true, false, nat_eq, List, ◌++◌, Option, Some, None, length}
use Rattle.gq_text.specs.declared.place.Span.{Span}
use Rattle.gq_tree.specs.declared.tree.OperationKind.{OperationKind}
use Rattle.gq_tree.specs.Forest.{more, row}
use Rattle.gq_tree.specs.Plain as tree
use Rattle.gq_tree.specs.Plain.{Head, Sel, Sels, Def, operation, fragment, type_system}
use Rattle.gq_meaning.specs.Values.{Text}
use Rattle.gq_meaning.specs.Selected.{set_of}
use Rattle.gq_meaning.specs.Expand.{Definition, find_definition}
use Rattle.gq_meaning.specs.Rewritten.{Static}
use Rattle.gq_rewritten.specs.Rewrites.{head_place, same_place}
use Rattle.gq_laws.specs.Rewriting.KnownBefore.{IsSpreadFound, IsSpreadOf, SaysNothing, Each, IsTyped, EndsSet}
use Rattle.gq_laws.specs.Rewriting.Places.{AreNested, run_start, run_end}
use Rattle.gq_laws.specs.Rewriting.Documents.{definitions_of, EachFrom, OfSet, IsSpreadDefined}
use Rattle.gq_laws.specs.Rewriting.Edits.{RunAt, SpreadAt, inlining, GoesAs, IsSpreadOther}

abbrev pub IsInlinable : List Definition → Text → Sels Span → Head Span → Type 0
IsInlinable ds on set (tree.field alias name arguments directives braces place) = ⊥
IsInlinable ds on set (tree.spread name directives place) = IsSpreadOf ds on set name.text
IsInlinable ds on set (tree.inline condition directives braces place) = ⊥

-- At the place stands only such a spread, and the fragments of all others stand before and after.
pub record IsInlinedOrFound (ds ds' : List Definition) (place : Span) (on : Text) (set : Sels Span) (h : Head Span) : Type 0 where
  pub at_place : same_place (head_place h) place ≡ true → IsInlinable ds on set h
  pub elsewhere : same_place (head_place h) place ≡ false → IsSpreadFound ds ds' h

-- At the place stands only such a one, at any depth.
abbrev pub OnlyNothingAt : Static → Span → Text → Sels Span → Type 0
OnlyNothingAt static place t sels = (u : Text) (h : Head Span) (below rest : Sels Span) → EndsSet static t sels u (more h below rest) → same_place (head_place h) place ≡ true → SaysNothing u h

-- the definition that is added
abbrev pub IsNew : Option Definition → Def (Unit {0}) → Type 0
IsNew new (operation kind name variables directives set braces place) = ⊥
IsNew new (fragment name on directives set braces place) = new ≡ Some (record { name = name.text; on = on.text; set = set_of set })
IsNew new (type_system definition) = ⊥

-- A run stands in the set, or all that is in the set stands before it or after it.
pub data HoldsOrAvoids (static : Static) (start end : ℕ) (on : Text) (run : List (Sel Span)) (t : Text) (set : Sels Span) : Type 0 where
  holds : (from to : ℕ) → AreNested from to set → (others : List (Sel Span)) → EndsSet static t set on (row (run ++ others)) → HoldsOrAvoids static start end on run t set
  avoids : (from to : ℕ) → AreNested from to set → (to ≤ start) ⊎ (end ≤ from) → HoldsOrAvoids static start end on run t set

-- it stands in the document of that number and there alone, and the name is free
pub record MayExtract (static : Static) (roots : OperationKind → Text) (trees : List (List (Def Span))) (e : RunAt) : Type 0 where
  pub in_range : e.file < length trees
  pub is_some : e.start < e.end
  pub first : run_start e.run ≡ Some e.start
  pub last : run_end e.run ≡ Some e.end
  pub free : find_definition (definitions_of trees) e.name ≡ None
  pub stands : EachFrom (λ file d. nat_eq e.file file ≡ true → OfSet roots (HoldsOrAvoids static e.start e.end e.on e.run) d) 0 trees

-- At the place in that document stands a spread of the fragment, and no other one is of what goes.
pub record IsInlinedOrOther (ds : List Definition) (old : Option Text) (s : SpreadAt) (file : ℕ) (h : Head Span) : Type 0 where
  pub at_place : (nat_eq s.file file && same_place (head_place h) s.place) ≡ true → IsInlinable ds s.on s.set h
  pub elsewhere : (nat_eq s.file file && same_place (head_place h) s.place) ≡ false → IsSpreadOther old h

pub record MayInline (static : Static) (roots : OperationKind → Text) (trees : List (List (Def Span))) (old : Option Text) (s : SpreadAt) : Type 0 where
  pub goes : EachFrom (GoesAs (inlining s) old) 0 trees
  pub typed : IsTyped static s.on (set_of s.set)
  pub defined : Each (IsSpreadDefined (definitions_of trees)) s.set
  pub other : Each (IsSpreadOther old) s.set
  pub spreads : EachFrom (λ file d. OfSet roots (λ t set. Each (IsInlinedOrOther (definitions_of trees) old s file) set) d) 0 trees

-- at the place in that document stands only an inline fragment that says nothing
abbrev pub MayRemove : Static → (OperationKind → Text) → List (List (Def Span)) → ℕ → Span → Type 0
MayRemove static roots trees file place = EachFrom (λ k d. nat_eq file k ≡ true → OfSet roots (OnlyNothingAt static place) d) 0 trees
