use Rattle.std.proofs.Common.{◌≡◌, ◌++◌, [], drop}
use Rattle.gq_document.specs.Definitions.{fragments_view}
use Rattle.gq_fragments.specs.Helping.FragmentPlaces.{repeated_names}
use Rattle.gq_by_file.proofs.by_names.add_repeated.Given as goal

abbrev pub invariant-loop-fragment : goal.invariant-loop-fragment
invariant-loop-fragment l = l.faults.items ++ repeated_names l.before (fragments_view (drop l.fragment-index l.fragments)) ≡ l.initial.faults.items ++ repeated_names [] (fragments_view l.fragments)
