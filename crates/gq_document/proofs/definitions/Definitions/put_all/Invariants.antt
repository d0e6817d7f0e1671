use Rattle.std.proofs.Common.{◌≡◌, ◌++◌, drop, flat_map, map}
use Rattle.gq_tree.specs.Views.{def_view}
use Rattle.gq_document.specs.Definitions.{operation_in, fragment_in, operations_view, fragments_view}
use Rattle.gq_document.proofs.definitions.Definitions.put_all.Given as goal

abbrev pub invariant-loop-definition : goal.invariant-loop-definition
invariant-loop-definition l = record {
  operations : operations_view l.self.operations.items ++ flat_map (operation_in l.file) (map def_view (drop l.definition-index l.definitions)) ≡ operations_view l.initial.self.operations.items ++ flat_map (operation_in l.file) (map def_view l.definitions);
  fragments : fragments_view l.self.fragments.items ++ flat_map (fragment_in l.file) (map def_view (drop l.definition-index l.definitions)) ≡ fragments_view l.initial.self.fragments.items ++ flat_map (fragment_in l.file) (map def_view l.definitions);
}
