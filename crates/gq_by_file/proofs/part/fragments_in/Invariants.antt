use Rattle.std.proofs.Common.{◌≡◌, ◌++◌, false, drop, filter}
use Rattle.std.specs.Prelude.{slice_index_or}
use Rattle.gq_document.specs.Definitions.{FragmentOf, fragments_view}
use Rattle.gq_by_file.proofs.part.fragments_in.Given as goal

abbrev pub invariant-loop-fragment : goal.invariant-loop-fragment
invariant-loop-fragment l =
    fragments_view l.some.items ++ filter (λ (f : FragmentOf). slice_index_or l.marks f.file false) (fragments_view (drop l.fragment-index l.fragments)) ≡ filter (λ (f : FragmentOf). slice_index_or l.marks f.file false) (fragments_view l.fragments)
