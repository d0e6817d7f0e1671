use Rattle.std.proofs.Common.{◌∙◌}
use Rattle.gq_cut.specs.Cut.{variable_in}
use Rattle.gq_cut.proofs.Propositions.{from_both, AreApart-prop, AreInOrder-prop}
use Rattle.gq_cut.proofs.RunLemmas.{cut_apart, cut_edits, cut_in_order}
use Rattle.gq_cut.proofs.VariableCut.{group_changes, may_name}
use Rattle.gq_cut.proofs.renames.variable_edit.Goals as goal

pub edits_at-requires : goal.edits_at-requires
edits_at-requires c =
    from_both c.requires.index c.requires.trees (AreApart-prop c.args.new_name.now 0 c.documents.result.now c.deref.result.now)
    (λ i t.
    cut_apart (variable_in c.args.group.now c.args.old_name.now) c.args.new_name.now c.documents.result.now c.args.project.now t.trees c.deref.result.now c.documents.ensures.all t.are_trees c.requires.is_name (may_name c.args.group.now c.args.old_name.now c.args.new_name.now)
    (c.deref.ensures.value ∙ c.in_ok-places.ensures i.definitions i.is_index ∙ group_changes c.args.old_name.now c.args.group.now c.args.project.now i.definitions t.trees c.requires.ascending i.of_documents t.are_trees))

pub from_vec-requires : goal.from_vec-requires
from_vec-requires c =
    from_both c.requires.index c.requires.trees (AreInOrder-prop c.in_ok-edits.edits.items)
    (λ i t.
    rw c.in_ok-edits.ensures
    (cut_in_order (variable_in c.args.group.now c.args.old_name.now) c.args.new_name.now c.documents.result.now c.args.project.now t.trees c.deref.result.now c.documents.ensures.all c.documents.ensures.in_order t.are_trees c.requires.is_name (may_name c.args.group.now c.args.old_name.now c.args.new_name.now)
    (c.deref.ensures.value ∙ c.in_ok-places.ensures i.definitions i.is_index ∙ group_changes c.args.old_name.now c.args.group.now c.args.project.now i.definitions t.trees c.requires.ascending i.of_documents t.are_trees)))

pub returns : goal.returns
returns c i trees are_trees =
    c.from_vec.ensures
    ∙ c.in_ok-edits.ensures
    ∙ cut_edits (variable_in c.args.group.now c.args.old_name.now) c.args.new_name.now c.documents.result.now c.args.project.now trees c.deref.result.now c.documents.ensures.all are_trees
    (c.deref.ensures.value ∙ c.in_ok-places.ensures i.definitions i.is_index ∙ group_changes c.args.old_name.now c.args.group.now c.args.project.now i.definitions trees c.requires.ascending i.of_documents are_trees)
