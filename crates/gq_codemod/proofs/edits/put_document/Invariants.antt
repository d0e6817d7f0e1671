use Rattle.std.proofs.Common.{◌≡◌, ◌++◌, take, string_bytes}
use Rattle.std.specs.List.{flat_map}
use Rattle.gq_codemod.specs.Edits.{edit_line}
use Rattle.gq_codemod.proofs.edits.put_document.Given as goal

abbrev pub invariant-loop-edit : goal.invariant-loop-edit
invariant-loop-edit l = string_bytes l.lines ≡ string_bytes l.initial.lines ++ flat_map (edit_line l.changes.uri) (take l.edit-index l.edit-items)
