-- Selections of a set one after the other, from one place to another, and the set that a pair of places lies in.
use Rattle.std.specs.Prelude.{ℕ, Bool, ◌&&◌, nat_lt, nat_eq, List, [], ◌∷◌, Option, Some, None, if◌then◌else◌}
use Rattle.std.specs.Option.{option_map, option_or}
use Rattle.gq_text.specs.declared.place.Span.{Span}
use Rattle.gq_tree.specs.Forest.{none, more}
use Rattle.gq_tree.specs.Plain.{Sels}
use Rattle.gq_types.specs.Entries.{Text}
use Rattle.gq_document.specs.Last.{find_last}
use Rattle.gq_document.specs.Sets.{SetOf}
use Rattle.gq_rewritten.specs.Rewrites.{head_place}

-- selections of a set one after the other, of which the first starts at start and the last ends at end; Choice says it of all at once
abbrev pub run_to : (end : ℕ) → Sels Span → Option (Sels Span)
run_to end none = None
run_to end (more head below rest) = if nat_eq (head_place head).end end then Some (more head below none) else option_map (λ run. more head below run) (run_to end rest)

abbrev pub run_in : (start end : ℕ) → Sels Span → Option (Sels Span)
run_in start end none = None
run_in start end (more head below rest) = if nat_eq (head_place head).start start then run_to end (more head below rest) else run_in start end rest

-- such a run, and the type of its set's parent
pub record RunOf : Type 0 where
  pub parent : Option Text
  pub run : Sels Span

abbrev pub run_of_set : (start end : ℕ) → SetOf → Option RunOf
run_of_set start end s = option_map (λ run. record { parent = s.parent; run = run }) (run_in start end s.selections)

-- that of the first set that has one
abbrev pub find_run : (start end : ℕ) → List SetOf → Option RunOf
find_run start end [] = None
find_run start end (s ∷ ss) = option_or (run_of_set start end s) (find_run start end ss)

-- The innermost set between whose braces both places lie. Sets of which that holds stand in one another, so it is the last one in the text.
abbrev pub lies_between : (start end : ℕ) → SetOf → Bool
lies_between start end s = nat_lt s.braces.start start && nat_lt end s.braces.end

abbrev pub innermost : (start end : ℕ) → List SetOf → Option SetOf
innermost start end sets = find_last (lies_between start end) sets
