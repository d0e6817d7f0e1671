-- What the code's readings stand for, whoever owns them.
use Rattle.std.specs.Prelude.{List, map}
use Rattle.gq_tree.specs.declared.parsed.Parsed.{Parsed}
use Rattle.gq_tree.specs.Readings.{ParsedOf, parsed_view}

abbrev pub read_by : {A : Type 0} → (A → Parsed) → List A → List ParsedOf
read_by as_parsed readings = map (λ reading. parsed_view (as_parsed reading)) readings
