-- What a range means and what a run is, said of all selections at once (sections 2.4 and 2.8).
use Rattle.std.specs.Prelude.{◌≡◌, ◌≢◌, ◌↔◌, ℕ, ◌<◌, ◌≤◌, Bool, true, List, [], ◌∷◌, ◌++◌, Some, None, Contains}
use Rattle.gq_text.specs.declared.place.Span.{Span}
use Rattle.gq_tree.specs.Forest.{row}
use Rattle.gq_tree.specs.Plain.{Head, Sel, Sels}
use Rattle.gq_document.specs.Sets.{SetOf}
use Rattle.gq_rewritten.specs.Rewrites.{head_place}
use Rattle.gq_select.specs.Meant.{StandingOf, standing, meant}
use Rattle.gq_select.specs.Runs.{RunOf, run_in, find_run}

-- where a selection begins and ends
abbrev pub begin_of : Sel Span → ℕ
begin_of s = (head_place s.label).start

abbrev pub end_of : Sel Span → ℕ
end_of s = (head_place s.label).end

-- it is of that kind, and its place holds the range
pub record Holds (kind : Head Span → Bool) (range : Span) (s : StandingOf) : Type 0 where
  pub is_kind : kind s.selection.label ≡ true
  pub from : begin_of s.selection ≤ range.start
  pub to : range.end ≤ end_of s.selection

-- It is one of these selections, holds the range, and none that holds it begins later; of those that begin together it is the first.
pub record BeginsLast (kind : Head Span → Bool) (range : Span) (all : List StandingOf) (s : StandingOf) : Type 0 where
  pub before : List StandingOf
  pub behind : List StandingOf
  pub whole : all ≡ before ++ s ∷ behind
  pub holds : Holds kind range s
  pub later_than_before : (t : StandingOf) → Contains before t → Holds kind range t → begin_of t.selection < begin_of s.selection
  pub none_later_behind : (t : StandingOf) → Contains behind t → Holds kind range t → begin_of t.selection ≤ begin_of s.selection

-- that one is meant, and only it; nothing is meant exactly where none holds the range
abbrev pub LastIsMeant : Type 0
LastIsMeant = (kind : Head Span → Bool) (range : Span) (sets : List SetOf) (s : StandingOf) →
    (meant kind range sets ≡ Some s) ↔ BeginsLast kind range (standing sets) s

abbrev pub NothingIsMeant : Type 0
NothingIsMeant = (kind : Head Span → Bool) (range : Span) (sets : List SetOf) →
    (meant kind range sets ≡ None) ↔ ((s : StandingOf) → Contains (standing sets) s → Holds kind range s → ⊥)

-- the first of selections begins there
abbrev pub BeginAt : ℕ → List (Sel Span) → Type 0
BeginAt start [] = ⊥
BeginAt start (s ∷ ss) = begin_of s ≡ start

-- The selections are what stands before the run, the run, and what stands behind it: the run's first one begins at start, as none
-- before it does, and its last one ends at end, as none in it before that does.
pub record IsRun (start end : ℕ) (selections run : Sels Span) : Type 0 where
  pub before : List (Sel Span)
  pub inside : List (Sel Span)
  pub last : Sel Span
  pub behind : List (Sel Span)
  pub whole : selections ≡ row (before ++ (inside ++ last ∷ behind))
  pub is : run ≡ row (inside ++ last ∷ [])
  pub begins : BeginAt start (inside ++ last ∷ [])
  pub ends : end_of last ≡ end
  pub begins_first : (s : Sel Span) → Contains before s → begin_of s ≢ start
  pub ends_first : (s : Sel Span) → Contains inside s → end_of s ≢ end

-- it is the run of the first of these sets that has one
pub record IsFirstRun (start end : ℕ) (sets : List SetOf) (r : RunOf) : Type 0 where
  pub before : List SetOf
  pub set : SetOf
  pub behind : List SetOf
  pub whole : sets ≡ before ++ set ∷ behind
  pub parent : r.parent ≡ set.parent
  pub is_run : IsRun start end set.selections r.run
  pub none_before : (s : SetOf) (run : Sels Span) → Contains before s → IsRun start end s.selections run → ⊥

-- a set's run, and that of sets, are these and nothing else; sets have none exactly where none of them has one
abbrev pub RunsAreRuns : Type 0
RunsAreRuns = (start end : ℕ) (selections run : Sels Span) → (run_in start end selections ≡ Some run) ↔ IsRun start end selections run

abbrev pub FirstRunIsFound : Type 0
FirstRunIsFound = (start end : ℕ) (sets : List SetOf) (r : RunOf) → (find_run start end sets ≡ Some r) ↔ IsFirstRun start end sets r

abbrev pub NoRunIsFound : Type 0
NoRunIsFound = (start end : ℕ) (sets : List SetOf) →
    (find_run start end sets ≡ None) ↔ ((s : SetOf) (run : Sels Span) → Contains sets s → IsRun start end s.selections run → ⊥)
