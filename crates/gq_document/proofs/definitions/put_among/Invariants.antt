use Rattle.std.proofs.Common.{◌≡◌, ◌++◌, drop, flat_map, map}
use Rattle.gq_tree.specs.Views.{def_view}
use Rattle.gq_types.specs.Entries.{entries_view}
use Rattle.gq_document.specs.Definitions.{entry_in}
use Rattle.gq_document.proofs.definitions.put_among.Given as goal

abbrev pub invariant-loop-definition : goal.invariant-loop-definition
invariant-loop-definition l = record {
  entries : entries_view l.entries.items ++ flat_map (entry_in l.file) (map def_view (drop l.definition-index l.definitions))
      ≡ entries_view l.initial.entries.items ++ flat_map (entry_in l.file) (map def_view l.definitions);
}
