-- the places so far are there
use Rattle.std.proofs.Common.{◌≡◌, ◌++◌, drop}
use Rattle.gq_by_file.specs.Helping.Covers.{unmarked_from}
use Rattle.gq_by_file.proofs.covers.unmarked.Given as goal

abbrev pub invariant-loop-place : goal.invariant-loop-place
invariant-loop-place l = l.places.items ++ unmarked_from l.place (drop l.place l.marks) ≡ unmarked_from 0 l.marks
