use Rattle.std.proofs.Common.{◌≡◌, ◌++◌, [], drop, map}
use Rattle.gq_diagnostics.specs.Diagnostics.{found_in}
use Rattle.gq_diagnostics.proofs.parting.empty_lists.Given as goal

abbrev pub invariant-loop-document : goal.invariant-loop-document
invariant-loop-document l = l.all.items ++ map (found_in []) (drop l._document-index l.documents) ≡ map (found_in []) l.documents
