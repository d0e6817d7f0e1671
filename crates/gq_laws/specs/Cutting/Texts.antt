-- The texts that refactorings put.
use Rattle.std.specs.Prelude.{ℕ, ◌+◌, ◌-◌, Bool, false, List, [], ◌∷◌, ◌++◌, slice_range, codes, if◌then◌else◌}
use Rattle.gq_text.specs.declared.place.Span.{Span}
use Rattle.gq_lex.specs.Bytes.{is_name_continue}
use Rattle.gq_tree.specs.Plain.{DirectiveOf}
use Rattle.gq_types.specs.Entries.{Text}

-- whether a letter, a digit or an underscore comes next
abbrev pub begins_with_name : List ℕ → Bool
begins_with_name [] = false
begins_with_name (b ∷ bs) = is_name_continue b

-- the spread that stands for the run, and the text that comes at the end of the document
abbrev pub spread_text : Text → List ℕ → List ℕ
spread_text name after = codes "..." ++ name ++ (if begins_with_name after then 32 ∷ [] else [])

abbrev pub fragment_text : Text → Text → List ℕ → List ℕ
fragment_text name on run = codes "\n\nfragment " ++ name ++ codes " on " ++ on ++ codes " {\n" ++ run ++ codes "\n}\n"

-- a space, and the text from the first directive to the last one
abbrev pub last_directive_end : Span → List (DirectiveOf Span) → ℕ
last_directive_end first [] = first.end
last_directive_end first (d ∷ ds) = last_directive_end d.place ds

abbrev pub directives_text : List ℕ → List (DirectiveOf Span) → List ℕ
directives_text text [] = []
directives_text text (d ∷ ds) = 32 ∷ slice_range text d.place.start (last_directive_end d.place ds)

-- what takes the place of a spread in a text: of the text of the fragment's document what stands in its braces
abbrev pub inlined_text : (text home : List ℕ) (on : Text) → List (DirectiveOf Span) → (braces : Span) → List ℕ
inlined_text text home on directives braces = codes "...on " ++ on ++ directives_text text directives ++ 32 ∷ slice_range home braces.start braces.end

-- what takes the place of an inline fragment: a space, what stands between its braces, a space
abbrev pub opened_text : List ℕ → Span → List ℕ
opened_text text braces = 32 ∷ (slice_range text (braces.start + 1) (braces.end - 1) ++ 32 ∷ [])
