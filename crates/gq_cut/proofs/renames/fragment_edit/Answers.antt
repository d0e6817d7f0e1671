use Rattle.std.proofs.Common.{◌∙◌}
use Rattle.gq_renamed.specs.Renamings.{fragment_called}
use Rattle.gq_cut.proofs.Propositions.{from_both, AreApart-prop, AreInOrder-prop}
use Rattle.gq_cut.proofs.RunLemmas.{cut_apart, cut_edits, cut_in_order}
use Rattle.gq_cut.proofs.FragmentCut.{fragment_changes}
use Rattle.gq_cut.proofs.renames.fragment_edit.Goals as goal

pub edits_at-requires : goal.edits_at-requires
edits_at-requires c =
    from_both c.requires.index c.requires.trees (AreApart-prop c.args.new_name.now 0 c.documents.result.now c.occurrences.result.now)
    (λ i t.
    cut_apart (λ n. fragment_called c.args.old_name.now) c.args.new_name.now c.documents.result.now c.args.project.now t.trees c.occurrences.result.now c.documents.ensures.all t.are_trees c.requires.is_name (λ n text e. c.requires.not_on)
    (c.occurrences.ensures i.definitions i.is_index ∙ fragment_changes c.args.old_name.now c.args.project.now i.definitions t.trees i.of_documents t.are_trees))

pub from_vec-requires : goal.from_vec-requires
from_vec-requires c =
    from_both c.requires.index c.requires.trees (AreInOrder-prop c.in_ok-edits.edits.items)
    (λ i t.
    rw c.in_ok-edits.ensures
    (cut_in_order (λ n. fragment_called c.args.old_name.now) c.args.new_name.now c.documents.result.now c.args.project.now t.trees c.occurrences.result.now c.documents.ensures.all c.documents.ensures.in_order t.are_trees c.requires.is_name (λ n text e. c.requires.not_on)
    (c.occurrences.ensures i.definitions i.is_index ∙ fragment_changes c.args.old_name.now c.args.project.now i.definitions t.trees i.of_documents t.are_trees)))

pub returns : goal.returns
returns c i trees are_trees =
    c.from_vec.ensures
    ∙ c.in_ok-edits.ensures
    ∙ cut_edits (λ n. fragment_called c.args.old_name.now) c.args.new_name.now c.documents.result.now c.args.project.now trees c.occurrences.result.now c.documents.ensures.all are_trees
    (c.occurrences.ensures i.definitions i.is_index ∙ fragment_changes c.args.old_name.now c.args.project.now i.definitions trees i.of_documents are_trees)
