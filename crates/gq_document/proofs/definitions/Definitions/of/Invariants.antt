use Rattle.std.proofs.Common.{◌≡◌, ◌++◌, drop, flat_map}
use Rattle.std.specs.List.{enumerate_from}
use Rattle.gq_tree.specs.Readings.{in_document}
use Rattle.gq_document.specs.ReadBy.{read_by}
use Rattle.gq_document.specs.Definitions.{operation_in, fragment_in, operations_of, fragments_of, operations_view, fragments_view}
use Rattle.gq_document.proofs.definitions.Definitions.of.Given as goal

abbrev pub invariant-loop-file : goal.invariant-loop-file
invariant-loop-file g l = record {
  operations : operations_view l.all.operations.items ++ flat_map (λ r. in_document operation_in r.0 r.1) (enumerate_from l.file (read_by g.R.AsParsed.as_parsed (drop l.file l.readings))) ≡ operations_of (read_by g.R.AsParsed.as_parsed l.readings);
  fragments : fragments_view l.all.fragments.items ++ flat_map (λ r. in_document fragment_in r.0 r.1) (enumerate_from l.file (read_by g.R.AsParsed.as_parsed (drop l.file l.readings))) ≡ fragments_of (read_by g.R.AsParsed.as_parsed l.readings);
}
