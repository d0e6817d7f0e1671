-- the covers so far are such, and none of the old ones is gone
use Rattle.std.proofs.Common.{ℕ, List}
use Rattle.gq_document.specs.Executable.{ExecutableOf}
use Rattle.gq_by_file.specs.Across.{AreCovers}
use Rattle.gq_by_file.specs.Helping.Covers.{AreFaulty, IsCovered, LeadsInto}
use Rattle.gq_by_file.specs.Links.{AreLinks}
use Rattle.gq_by_file.proofs.covers.cover_clean.Given as goal

abbrev pub invariant-loop-file : goal.invariant-loop-file
invariant-loop-file l =
    ((x : ExecutableOf) (all : List ℕ) → AreLinks x l.rows → AreFaulty x all l.faulty → LeadsInto l.rows l.rest all → AreCovers x l.initial.covers.items → AreCovers x l.covers.items)
    × ((n : ℕ) → IsCovered l.initial.covers.items n → IsCovered l.covers.items n)
