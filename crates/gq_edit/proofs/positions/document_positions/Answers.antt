-- The ends of the spans ascend on boundaries of the text, so their positions are found in one pass.
use Rattle.std.proofs.Common.{◌≡◌, map, ◌∙◌, rules}
use Rattle.gq_edit.specs.Workspace.{text_edit_of}
use Rattle.gq_edit.proofs.Placing.{ends_of-boundaries, ends_of-ascend, length-positions, placed-positions}
use Rattle.gq_edit.proofs.positions.document_positions.Goals as goal

pub positions_in-requires-clause-boundaries : goal.positions_in-requires-clause-boundaries
positions_in-requires-clause-boundaries c =
    rw (c.as_str.ensures, c.deref.ensures.value, c.in_ok-ends.ensures, c.as_slice-replacements.ensures.all) (ends_of-boundaries _ _ c.requires.fit)

pub positions_in-requires-clause-ascending : goal.positions_in-requires-clause-ascending
positions_in-requires-clause-ascending c =
    rw (c.deref.ensures.value, c.in_ok-ends.ensures, c.as_slice-replacements.ensures.all) (ends_of-ascend _ c.as_slice-replacements.ensures.disjoint)

pub text_edits-requires : goal.text_edits-requires
text_edits-requires c =
    length-positions c.args.encoding c.as_str.result.now _ c.deref.result.now _ (c.deref.ensures.value ∙ c.in_ok-ends.ensures) (c.deref-2.ensures.value ∙ c.in_ok-positions.ensures)

pub returns : goal.returns
returns c =
    let edits = placed-positions c.args.encoding c.as_str.result.now _ c.deref.result.now _ (c.deref.ensures.value ∙ c.in_ok-ends.ensures) (c.deref-2.ensures.value ∙ c.in_ok-positions.ensures) in
    let placed : c.in_ok-text_edits.field-0 ≡ map (text_edit_of c.args.encoding c.args.doc.now.text) c.args.edit.now.replacements =
    c.in_ok-text_edits.ensures ∙ rw (← c.as_slice-replacements.ensures.all, ← c.as_str.ensures) edits in
    rw (placed, c.in_ok-copied.ensures) (search rules)
