-- An inline fragment without directives (section 2.8.2) goes, and its selections stand in its place.
use Rattle.std.specs.Prelude.{◌≡◌, ℕ, List, [], ◌∷◌, Option, map}
use Rattle.gq_text.specs.declared.place.Span.{Span}
use Rattle.gq_text.specs.declared.replacement.Replacement.{Replacement}
use Rattle.gq_text.specs.Replaced.{replaced}
use Rattle.gq_tree.specs.Plain.{NameOf, Def, inline, erase_document}
use Rattle.gq_parse.specs.Derives.{Derives}
use Rattle.gq_rewritten.specs.Rewrites.{with_set, without_braces}
use Rattle.gq_laws.specs.Cutting.Standing.{HasSelection}
use Rattle.gq_laws.specs.Cutting.Texts.{opened_text}

-- a space, what stands between the braces, a space
abbrev pub opened : List ℕ → (place braces : Span) → Replacement
opened text place braces = record { span = place; text = opened_text text braces }

-- the text with that in its place has a tree: the tree before, places forgotten, without the braces
pub record ReadsWithoutBraces (text : List ℕ) (document : List (Def Span)) (place braces : Span) : Type 0 where
  pub tree : List (Def Span)
  pub derives : Derives (replaced (opened text place braces ∷ []) text) tree
  pub rewritten : erase_document tree ≡ map (with_set (without_braces place)) document

-- for every text with a tree, and each inline fragment without directives in it
abbrev pub RemovedTextsRead : Type 0
RemovedTextsRead =
    (text : List ℕ) (document : List (Def Span)) (on : Option (NameOf Span)) (braces place : Span) → Derives text document → HasSelection document (inline on [] braces place) →
    ReadsWithoutBraces text document place braces
