use Rattle.std.proofs.Common.{◌≡◌, map, take}
use Rattle.serde_json.specs.View.{view}
use Rattle.gq_rpc.specs.Encoding.{text_edit_value}
use Rattle.gq_rpc.proofs.edits.write_text_edits.Given as goal

abbrev pub invariant-loop-edit : goal.invariant-loop-edit
invariant-loop-edit l = map view l.values.items ≡ map text_edit_value (take l.edit-index l.edits)
