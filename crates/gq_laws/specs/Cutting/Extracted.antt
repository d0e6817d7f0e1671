-- Consecutive selections of a set go into a new fragment at the end of the document, and a spread of it stands for them (section 2.8).
use Rattle.std.specs.Prelude.{◌≡◌, ℕ, List, [], ◌∷◌, ◌++◌, length, drop, slice_range, map}
use Rattle.gq_text.specs.declared.place.Span.{Span}
use Rattle.gq_text.specs.declared.replacement.Replacement.{Replacement}
use Rattle.gq_text.specs.Replaced.{replaced}
use Rattle.gq_tree.specs.Forest.{row}
use Rattle.gq_tree.specs.Plain.{Sel, Def, fragment, erase_all, erase_document}
use Rattle.gq_parse.specs.Derives.{Derives}
use Rattle.gq_parse.specs.Limits.{PassesLimitAt}
use Rattle.gq_renamed.specs.Names.{IsNameText, IsFragmentNameText}
use Rattle.gq_rewritten.specs.Rewrites.{bare_name, with_set, with_extracted}
use Rattle.gq_laws.specs.Cutting.Standing.{HasRun}
use Rattle.gq_laws.specs.Cutting.Texts.{spread_text, fragment_text}

-- a spread of that name for the selections of that place, and the fragment on that type at the end
abbrev pub extracted : List ℕ → (place : Span) → (name on : List ℕ) → List Replacement
extracted text place name on =
    record { span = place; text = spread_text name (drop place.end text) }
    ∷ record { span = record { start = length text; end = length text }; text = fragment_text name on (slice_range text place.start place.end) }
    ∷ []

-- the text with these has a tree: the tree before, places forgotten, with the spread and the fragment
pub record ReadsWithFragment (text : List ℕ) (document : List (Def Span)) (place : Span) (name on : List ℕ) (run : List (Sel Span)) : Type 0 where
  pub tree : List (Def Span)
  pub derives : Derives (replaced (extracted text place name on) text) tree
  pub rewritten : erase_document tree ≡ map (with_set (with_extracted place.start place.end name)) document ++ fragment (bare_name name) (bare_name on) [] (erase_all (row run)) tt tt ∷ []

-- for every text with a tree and each such selections in it, where the text afterwards passes no limit
abbrev pub ExtractedTextsRead : Type 0
ExtractedTextsRead =
    (text : List ℕ) (document : List (Def Span)) (place : Span) (name on : List ℕ) (run : List (Sel Span)) →
    Derives text document → HasRun document place.start place.end run → IsFragmentNameText name → IsNameText on →
    ((at : ℕ) → PassesLimitAt (replaced (extracted text place name on) text) at → ⊥) → ReadsWithFragment text document place name on run
