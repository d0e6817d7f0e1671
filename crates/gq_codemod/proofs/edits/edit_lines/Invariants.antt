use Rattle.std.proofs.Common.{◌≡◌, take, string_bytes}
use Rattle.std.specs.List.{flat_map}
use Rattle.gq_codemod.specs.Edits.{document_lines}
use Rattle.gq_codemod.proofs.edits.edit_lines.Given as goal

abbrev pub invariant-loop-changes : goal.invariant-loop-changes
invariant-loop-changes l = string_bytes l.lines ≡ flat_map document_lines (take l.changes-index l.changes-items)
