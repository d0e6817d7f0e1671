use Rattle.std.proofs.Common.{◌≡◌, drop, map, find, flat_map}
use Rattle.std.specs.Str.{bytes_eq}
use Rattle.gq_tree.specs.Views.{def_view}
use Rattle.gq_document.specs.Definitions.{fragment_in}
use Rattle.gq_reshape.proofs.fragments.fragment_among.Given as goal

abbrev pub invariant-loop-definition : goal.invariant-loop-definition
invariant-loop-definition l =
    find (λ f. bytes_eq f.name.text l.name) (flat_map (fragment_in l.file) (map def_view (drop l.definition-index l.definitions)))
    ≡ find (λ f. bytes_eq f.name.text l.name) (flat_map (fragment_in l.file) (map def_view l.definitions))
