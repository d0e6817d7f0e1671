-- Trees of a project with selections changed in one document, places forgotten.
use Rattle.std.specs.Prelude.{ℕ, suc, Bool, true, false, not, ◌==◌, ◌&&◌, nat_le, nat_eq, List, [], ◌∷◌, ◌++◌, Option, Some, None, map, filter, if◌then◌else◌}
use Rattle.std.specs.Option.{option_map, option_map_or}
use Rattle.gq_text.specs.declared.place.Span.{Span}
use Rattle.gq_tree.specs.Forest.{Forest, none, more}
use Rattle.gq_tree.specs.Plain.{NameOf, Head, field, spread, inline, Sels, Def, operation, fragment, type_system, no_place, place_name, place_variable, place_directive, place_head, place_def, erase_all}

abbrev pub Bare : Type 0
Bare = Sels (Unit {0})

abbrev pub bare_name : List ℕ → NameOf (Unit {0})
bare_name text = record { text = text; place = tt }

-- the place of all tokens of a selection
abbrev pub head_place : Head Span → Span
head_place (field alias name arguments directives braces place) = place
head_place (spread name directives place) = place
head_place (inline on directives braces place) = place

abbrev pub same_place : Span → Span → Bool
same_place a b = a.start == b.start && a.end == b.end

-- one row after another
abbrev pub followed_by : {L : Type 0} → Forest L → Forest L → Forest L
followed_by none after = after
followed_by (more label below rest) after = more label below (followed_by rest after)

-- The selections from start to end are put out, and a spread of that name stands for them. No other selection begins at start.
abbrev pub with_extracted : (start end : ℕ) → List ℕ → Sels Span → Bare
with_extracted start end name none = none
with_extracted start end name (more head below rest) =
    if (head_place head).start == start then more (spread (bare_name name) [] tt) none (with_extracted start end name rest) else
    if nat_le start (head_place head).start && nat_le (head_place head).end end then with_extracted start end name rest
    else more (place_head no_place head) (with_extracted start end name below) (with_extracted start end name rest)

-- the spread at that place is an inline fragment on a type, with its directives and these selections
abbrev pub inlined_head : List ℕ → Head Span → Head (Unit {0})
inlined_head on (spread name directives place) = inline (Some (bare_name on)) (map (place_directive no_place) directives) tt tt
inlined_head on head = place_head no_place head

abbrev pub with_inlined : Span → List ℕ → Bare → Sels Span → Bare
with_inlined place on set none = none
with_inlined place on set (more head below rest) =
    if same_place (head_place head) place then more (inlined_head on head) set (with_inlined place on set rest)
    else more (place_head no_place head) (with_inlined place on set below) (with_inlined place on set rest)

-- the selections of the inline fragment at that place stand in its place
abbrev pub without_braces : Span → Sels Span → Bare
without_braces place none = none
without_braces place (more head below rest) =
    if same_place (head_place head) place then followed_by (erase_all below) (without_braces place rest)
    else more (place_head no_place head) (without_braces place below) (without_braces place rest)

-- a definition with its selections changed
abbrev pub with_set : (Sels Span → Bare) → Def Span → Def (Unit {0})
with_set change (operation kind name variables directives set braces place) =
    operation kind (option_map (place_name no_place) name) (map (place_variable no_place) variables) (map (place_directive no_place) directives) (change set) tt tt
with_set change (fragment name on directives set braces place) =
    fragment (place_name no_place name) (place_name no_place on) (map (place_directive no_place) directives) (change set) tt tt
with_set change (type_system definition) = place_def no_place (type_system definition)

-- the number of a document, and the place of a definition of it
pub record DefinitionPlace : Type 0 where
  pub file : ℕ
  pub place : Span

-- What changes: the selections in the document of that number, definitions that are added at its end, and a definition that goes.
pub record Rewrite : Type 0 where
  pub file : ℕ
  pub change : Sels Span → Bare
  pub added : List (Def (Unit {0}))
  pub dropped : Option DefinitionPlace

abbrev pub executable_place : Def Span → Option Span
executable_place (operation kind name variables directives set braces place) = Some place
executable_place (fragment name on directives set braces place) = Some place
executable_place (type_system definition) = None

-- whether the definition of the document of that number stays
abbrev pub is_kept : Option DefinitionPlace → ℕ → Def Span → Bool
is_kept None file d = true
is_kept (Some dropped) file d = not (nat_eq dropped.file file && option_map_or (same_place dropped.place) (executable_place d) false)

abbrev pub rewritten_document : Rewrite → ℕ → List (Def Span) → List (Def (Unit {0}))
rewritten_document r file ds =
    if nat_eq r.file file then map (with_set r.change) (filter (is_kept r.dropped file) ds) ++ r.added
    else map (place_def no_place) (filter (is_kept r.dropped file) ds)

-- the trees of all documents, the first of which has the number file
abbrev pub rewritten_from : Rewrite → ℕ → List (List (Def Span)) → List (List (Def (Unit {0})))
rewritten_from r file [] = []
rewritten_from r file (tree ∷ trees) = rewritten_document r file tree ∷ rewritten_from r (suc file) trees
