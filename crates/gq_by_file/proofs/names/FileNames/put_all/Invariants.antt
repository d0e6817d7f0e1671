-- the names in the definitions so far are put behind
use Rattle.std.proofs.Common.{◌≡◌, ◌++◌, drop, flat_map, map}
use Rattle.gq_tree.specs.Views.{def_view}
use Rattle.gq_by_file.specs.Closed.Laws.{spreads_in}
use Rattle.gq_by_file.specs.Names.{fragment_names_in, operation_names_in, text_of_name, texts_of}
use Rattle.gq_by_file.proofs.names.FileNames.put_all.Given as goal

abbrev pub invariant-loop-definition : goal.invariant-loop-definition
invariant-loop-definition l =
    (l.self.operations.items ++ map text_of_name (flat_map operation_names_in (map def_view (drop l.definition-index l.definitions))) ≡ l.initial.self.operations.items ++ map text_of_name (flat_map operation_names_in (map def_view l.definitions)))
    × (l.self.spreads.items ++ texts_of (flat_map spreads_in (map def_view (drop l.definition-index l.definitions))) ≡ l.initial.self.spreads.items ++ texts_of (flat_map spreads_in (map def_view l.definitions)))
    × (l.self.fragments.items ++ texts_of (flat_map fragment_names_in (map def_view (drop l.definition-index l.definitions))) ≡ l.initial.self.fragments.items ++ texts_of (flat_map fragment_names_in (map def_view l.definitions)))
