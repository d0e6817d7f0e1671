use Rattle.std.proofs.Common.{◌≡◌, ◌++◌, drop, flat_map}
use Rattle.std.specs.List.{enumerate_from}
use Rattle.gq_tree.specs.Readings.{in_document}
use Rattle.gq_types.specs.Entries.{entries_view}
use Rattle.gq_document.specs.ReadBy.{read_by}
use Rattle.gq_document.specs.Definitions.{entry_in, entries_of}
use Rattle.gq_document.proofs.definitions.type_system_entries.Given as goal

abbrev pub invariant-loop-file : goal.invariant-loop-file
invariant-loop-file g l = record {
  entries : entries_view l.entries.items ++ flat_map (λ r. in_document entry_in r.0 r.1) (enumerate_from l.file (read_by g.R.AsParsed.as_parsed (drop l.file l.readings)))
      ≡ entries_of (read_by g.R.AsParsed.as_parsed l.readings);
}
