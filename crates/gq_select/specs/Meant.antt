-- The selections of selection sets, and which of them a range of a text means.
use Rattle.std.specs.Prelude.{ℕ, Bool, true, false, ◌&&◌, nat_lt, nat_le, List, [], ◌∷◌, Option, Some, None, flat_map, if◌then◌else◌}
use Rattle.gq_text.specs.declared.place.Span.{Span}
use Rattle.gq_tree.specs.Forest.{none, more}
use Rattle.gq_tree.specs.Plain.{Head, field, spread, inline, Sel, Sels, Def}
use Rattle.gq_types.specs.Entries.{Text, EntryOf}
use Rattle.gq_document.specs.Sets.{SetOf, sets_of}
use Rattle.gq_rewritten.specs.Rewrites.{head_place}

-- the selection sets of a document
abbrev pub document_sets : List EntryOf → List (Def Span) → List SetOf
document_sets es tree = flat_map (sets_of es) tree

-- a selection, and the type of its parent where that is known
pub record StandingOf : Type 0 where
  pub parent : Option Text
  pub selection : Sel Span

-- those of one set, and of sets
abbrev pub standing_in : Option Text → Sels Span → List StandingOf
standing_in parent none = []
standing_in parent (more head below rest) = record { parent = parent; selection = record { label = head; below = below } } ∷ standing_in parent rest

abbrev pub standing : List SetOf → List StandingOf
standing sets = flat_map (λ s. standing_in s.parent s.selections) sets

-- FragmentSpread (section 2.8) and InlineFragment (section 2.8.2)
abbrev pub is_spread : Head Span → Bool
is_spread (field alias name arguments directives braces place) = false
is_spread (spread name directives place) = true
is_spread (inline on directives braces place) = false

abbrev pub is_inline : Head Span → Bool
is_inline (field alias name arguments directives braces place) = false
is_inline (spread name directives place) = false
is_inline (inline on directives braces place) = true

-- whether the place holds the range
abbrev pub holds : (range place : Span) → Bool
holds range place = nat_le place.start range.start && nat_le range.end place.end

-- of those that pass, and the best one so far, the one that begins last; Choice says it of all at once
abbrev pub later : Option StandingOf → StandingOf → Option StandingOf
later None s = Some s
later (Some best) s = if nat_lt (head_place best.selection.label).start (head_place s.selection.label).start then Some s else Some best

abbrev pub begins_last : (StandingOf → Bool) → Option StandingOf → List StandingOf → Option StandingOf
begins_last test best [] = best
begins_last test best (s ∷ ss) = begins_last test (if test s then later best s else best) ss

-- the selection of a kind that a range means: of those whose place holds the range, the one that begins last
abbrev pub is_meant : (Head Span → Bool) → (range : Span) → StandingOf → Bool
is_meant kind range s = kind s.selection.label && holds range (head_place s.selection.label)

abbrev pub meant : (Head Span → Bool) → (range : Span) → List SetOf → Option StandingOf
meant kind range sets = begins_last (is_meant kind range) None (standing sets)
