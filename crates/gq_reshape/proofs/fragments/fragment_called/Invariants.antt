use Rattle.std.proofs.Common.{◌≡◌, drop, find, flat_map}
use Rattle.std.specs.List.{enumerate_from}
use Rattle.std.specs.Str.{bytes_eq}
use Rattle.gq_tree.specs.Readings.{in_document, readings_view}
use Rattle.gq_document.specs.Definitions.{fragment_in, fragments_of}
use Rattle.gq_reshape.proofs.fragments.fragment_called.Given as goal

abbrev pub invariant-loop-file : goal.invariant-loop-file
invariant-loop-file l =
    find (λ f. bytes_eq f.name.text l.name) (flat_map (λ r. in_document fragment_in r.0 r.1) (enumerate_from l.file (readings_view (drop l.file l.readings))))
    ≡ find (λ f. bytes_eq f.name.text l.name) (fragments_of (readings_view l.readings))
