-- The selection set of a document (section 2.4) that an offset stands in.
use Rattle.std.specs.Prelude.{ℕ, Bool, false, ◌&&◌, ◌||◌, nat_lt, List, Option, flat_map}
use Rattle.gq_text.specs.declared.place.Span.{Span}
use Rattle.gq_tree.specs.Forest.{none, more}
use Rattle.gq_tree.specs.Plain.{Head, field, spread, inline, Sels, Def}
use Rattle.gq_types.specs.Entries.{EntryOf}
use Rattle.gq_document.specs.Last.{find_last}
use Rattle.gq_document.specs.Sets.{SetOf, sets_of}

-- the offset stands between the braces: at the end of `{`, at the start of `}`, or between the two
abbrev pub encloses : ℕ → SetOf → Bool
encloses i set = nat_lt set.braces.start i && nat_lt i set.braces.end

-- The innermost set whose braces enclose the offset. Sets that do so stand in one another, so it is the last in the text.
abbrev pub innermost : List EntryOf → ℕ → List (Def Span) → Option SetOf
innermost es i document = find_last (encloses i) (flat_map (sets_of es) document)

abbrev pub place_in : Head Span → Span
place_in (field alias name arguments directives braces place) = place
place_in (spread name directives place) = place
place_in (inline on directives braces place) = place

-- whether a place is within one of these selections, behind its start and before its end
abbrev pub is_within_one : ℕ → Sels Span → Bool
is_within_one p none = false
is_within_one p (more head below rest) = (nat_lt (place_in head).start p && nat_lt p (place_in head).end) || is_within_one p rest
