-- A spread becomes an inline fragment with the selections of its fragment (section 2.8.2), and a definition goes.
use Rattle.std.specs.Prelude.{◌≡◌, ℕ, Bool, List, [], ◌∷◌, Contains, Some, map, filter, nat_lt, if◌then◌else◌}
use Rattle.std.specs.List.{AllByRecursion}
use Rattle.gq_text.specs.declared.place.Span.{Span}
use Rattle.gq_text.specs.declared.replacement.Replacement.{Replacement}
use Rattle.gq_text.specs.Replaced.{replaced}
use Rattle.gq_tree.specs.Plain.{NameOf, DirectiveOf, Sels, Def, spread, fragment, no_place, place_def, erase_all, erase_document}
use Rattle.gq_parse.specs.Derives.{Derives}
use Rattle.gq_parse.specs.Limits.{PassesLimitAt}
use Rattle.gq_rewritten.specs.Executables.{IsExecutable}
use Rattle.gq_rewritten.specs.Rewrites.{DefinitionPlace, with_set, with_inlined, is_kept}
use Rattle.gq_laws.specs.Cutting.Standing.{HasSelection}
use Rattle.gq_laws.specs.Cutting.Texts.{inlined_text}

-- what is put for a spread with these directives: of the other text what stands in the braces
abbrev pub inlined : (text home : List ℕ) (place : Span) (directives : List (DirectiveOf Span)) (on : List ℕ) (braces : Span) → Replacement
inlined text home place directives on braces = record { span = place; text = inlined_text text home on directives braces }

-- a definition goes
abbrev pub gone : Span → Replacement
gone place = record { span = place; text = [] }

-- the two replacements of one text, in order
abbrev pub put_in_order : (place whole : Span) → Replacement → List Replacement
put_in_order place whole opened = if nat_lt whole.start place.start then gone whole ∷ opened ∷ [] else opened ∷ gone whole ∷ []

-- the text with these replacements has a tree, and that is this, places forgotten
pub record ReadsAs (text : List ℕ) (replacements : List Replacement) (new : List (Def (Unit {0}))) : Type 0 where
  pub tree : List (Def Span)
  pub derives : Derives (replaced replacements text) tree
  pub is : erase_document tree ≡ new

-- where the text afterwards passes no limit
abbrev pub ReadsWithin : List ℕ → List Replacement → List (Def (Unit {0})) → Type 0
ReadsWithin text replacements new = ((at : ℕ) → PassesLimitAt (replaced replacements text) at → ⊥) → ReadsAs text replacements new

-- The spread becomes an inline fragment, and no definition of its document goes.
abbrev pub InlinedTextsRead : Type 0
InlinedTextsRead =
    (text home : List ℕ) (document others : List (Def Span)) (name : NameOf Span) (directives : List (DirectiveOf Span)) (place : Span)
    (called on : NameOf Span) (set : Sels Span) (braces whole : Span) →
    Derives text document → Derives home others → HasSelection document (spread name directives place) → Contains others (fragment called on [] set braces whole) →
    ReadsWithin text (inlined text home place directives on.text braces ∷ []) (map (with_set (with_inlined place on.text (erase_all set))) document)

-- A fragment goes from a document of operations and fragments alone.
abbrev pub TextsReadWithoutFragment : Type 0
TextsReadWithoutFragment =
    (text : List ℕ) (document : List (Def Span)) (called on : NameOf Span) (directives : List (DirectiveOf Span)) (set : Sels Span) (braces whole : Span) (file : ℕ) →
    Derives text document → AllByRecursion IsExecutable document → Contains document (fragment called on directives set braces whole) →
    ReadsWithin text (gone whole ∷ []) (map (place_def no_place) (filter (is_kept (Some (record { file = file; place = whole })) file) document))

-- Both in one document of operations and fragments alone: the fragment stands before the spread or behind it, and the spread is not in it.
abbrev pub InlinedTextsReadWithoutFragment : Type 0
InlinedTextsReadWithoutFragment =
    (text : List ℕ) (document : List (Def Span)) (name : NameOf Span) (directives : List (DirectiveOf Span)) (place : Span)
    (called on : NameOf Span) (set : Sels Span) (braces whole : Span) (file : ℕ) →
    Derives text document → AllByRecursion IsExecutable document →
    HasSelection (filter (is_kept (Some (record { file = file; place = whole })) file) document) (spread name directives place) → Contains document (fragment called on [] set braces whole) →
    ReadsWithin text (put_in_order place whole (inlined text text place directives on.text braces))
    (map (with_set (with_inlined place on.text (erase_all set))) (filter (is_kept (Some (record { file = file; place = whole })) file) document))
