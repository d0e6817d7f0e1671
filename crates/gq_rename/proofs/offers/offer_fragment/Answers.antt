use Rattle.std.proofs.Common.{List, Some, None, refl, subst}
use Rattle.std.proofs.Math.Logic.{∥∥₁_elim, ∥∥₁_map}
use Rattle.gq_project.specs.declared.document.Doc.{Doc}
use Rattle.gq_project.specs.Documents.{IsInOrder}
use Rattle.gq_index.specs.Occurrences.{executables}
use Rattle.gq_renamed.specs.Renamings.{fragment_called}
use Rattle.gq_mentions.specs.declared.target.TargetKind.TheVariants as kind
use Rattle.gq_rename.proofs.Offering.{refused, have_trees, fits, leaves_valid, made, made_fits, made_valid, kept, fragment_changes, refusal_of}
use Rattle.gq_rename.proofs.Passing.{fragment_stays}
use Rattle.gq_rename.proofs.Propositions.{FitDocuments-prop}
use Rattle.gq_rename.proofs.offers.offer_fragment.Goals as goal

pub returns-in-Some-clause-answer : goal.returns-in-Some-clause-answer
returns-in-Some-clause-answer c i =
    let t = c.args.target.now in
    let new = c.args.new_name.now in
    let old = c.as_str-old_name.result.now in
    refused c.documents_have_one_list.ensures c.project-project.result.now c.args.valid.now c.project-project.ensures.same c.args.index.now i c.project-project.ensures.valid t new c.in-Some.refusal
    (λ ds is inside.
    refusal_of ds t kind.Fragment old new (Some c.in-Some.refusal) c.requires.of c.as_str-old_name.ensures
    (c.in-Some.ensures.refusal ds t.definition is))

pub fragment_edit-requires-clause-trees : goal.fragment_edit-requires-clause-trees
fragment_edit-requires-clause-trees c =
    ∥∥₁_map c.requires.index
    (have_trees c.project-project.result.now c.args.valid.now c.args.index.now c.project-project.ensures.same c.valid_documents_are_trees.ensures c.project-project.ensures.valid)

pub measured-requires-clause-fit : goal.measured-requires-clause-fit
measured-requires-clause-fit c =
    let t = c.args.target.now in
    let new = c.args.new_name.now in
    let old = c.as_str-old_name.result.now in
    let named = c.in_default.ensures.named refl in
    ∥∥₁_elim c.requires.index (FitDocuments-prop c.project-project.result.now c.in_ok-edit.edit)
    (λ i.
    fits c.documents_have_one_list.ensures c.project-project.result.now c.args.valid.now c.project-project.ensures.same c.args.index.now i c.project-project.ensures.valid t new c.valid_documents_are_trees.ensures c.renames_are_sound.ensures
    c.documents_are_texts.ensures.in_order c.documents_are_texts.ensures.utf8 (λ n. fragment_called old) named.is_name (λ n text marked. named.not_on) c.in_ok-edit.edit c.in_ok-edit.ensures c.project-project.result.now c.project-project.ensures.same)

pub measured-requires-clause-valid : goal.measured-requires-clause-valid
measured-requires-clause-valid c =
    let t = c.args.target.now in
    let new = c.args.new_name.now in
    let old = c.as_str-old_name.result.now in
    let named = c.in_default.ensures.named refl in
    let in_order = subst (λ (ds : List Doc). IsInOrder ds) c.project-project.ensures.same c.documents_are_texts.ensures.in_order in
    ∥∥₁_map c.requires.index
    (λ i.
    leaves_valid c.documents_have_one_list.ensures c.project-project.result.now c.args.valid.now c.project-project.ensures.same c.args.index.now i c.project-project.ensures.valid t new c.valid_documents_are_trees.ensures c.renames_are_sound.ensures
    c.documents_are_texts.ensures.in_order c.documents_are_texts.ensures.utf8 (λ n. fragment_called old) named.is_name (λ n text marked. named.not_on) c.in_ok-edit.edit c.in_ok-edit.ensures c.project-project.result.now c.project-project.ensures.same
    i.of_documents.readings i.of_documents.are_readings
    (λ of.
    fragment_stays c.fragment_renames_stay_valid.ensures c.args.valid.now i.of_documents.readings old new in_order i.of_documents.are_readings c.project-project.ensures.valid named
    (c.in_default.ensures.refusal (executables i.of_documents.readings) t.definition of).2))

pub returns-clause-answer : goal.returns-clause-answer
returns-clause-answer c i =
    let t = c.args.target.now in
    let new = c.args.new_name.now in
    let old = c.as_str-old_name.result.now in
    let named = c.in_default.ensures.named refl in
    made c.documents_have_one_list.ensures c.project-project.result.now c.args.valid.now c.project-project.ensures.same c.args.index.now i c.project-project.ensures.valid t new c.valid_documents_are_trees.ensures c.renames_are_sound.ensures
    c.documents_are_texts.ensures.in_order c.documents_are_texts.ensures.utf8 (λ n. fragment_called old) named.is_name (λ n text marked. named.not_on) c.in_ok-edit.edit c.in_ok-edit.ensures c.project-project.result.now c.project-project.ensures.same
    (λ ds is inside. fragment_changes ds t old c.requires.of c.as_str-old_name.ensures) c.measured.result c.measured.ensures
    (λ ds is inside.
    refusal_of ds t kind.Fragment old new None c.requires.of c.as_str-old_name.ensures
    (c.in_default.ensures.refusal ds t.definition is))

pub returns-clause-fits : goal.returns-clause-fits
returns-clause-fits c =
    let t = c.args.target.now in
    let new = c.args.new_name.now in
    let old = c.as_str-old_name.result.now in
    let named = c.in_default.ensures.named refl in
    made_fits c.project-project.result.now c.args.valid.now c.project-project.ensures.same c.in_ok-edit.edit c.measured.result c.measured.ensures
    (∥∥₁_elim c.requires.index (FitDocuments-prop c.project-project.result.now c.in_ok-edit.edit)
    (λ i.
    fits c.documents_have_one_list.ensures c.project-project.result.now c.args.valid.now c.project-project.ensures.same c.args.index.now i c.project-project.ensures.valid t new c.valid_documents_are_trees.ensures c.renames_are_sound.ensures
    c.documents_are_texts.ensures.in_order c.documents_are_texts.ensures.utf8 (λ n. fragment_called old) named.is_name (λ n text marked. named.not_on) c.in_ok-edit.edit c.in_ok-edit.ensures c.project-project.result.now c.project-project.ensures.same))

pub returns-clause-kept : goal.returns-clause-kept
returns-clause-kept c i =
    let t = c.args.target.now in
    let new = c.args.new_name.now in
    let old = c.as_str-old_name.result.now in
    let named = c.in_default.ensures.named refl in
    kept c.documents_have_one_list.ensures c.project-project.result.now c.args.valid.now c.project-project.ensures.same c.args.index.now i c.project-project.ensures.valid t new c.valid_documents_are_trees.ensures c.renames_are_sound.ensures
    c.documents_are_texts.ensures.in_order c.documents_are_texts.ensures.utf8 (λ n. fragment_called old) named.is_name (λ n text marked. named.not_on) c.in_ok-edit.edit c.in_ok-edit.ensures c.project-project.result.now c.project-project.ensures.same
    (λ ds is inside. fragment_changes ds t old c.requires.of c.as_str-old_name.ensures) c.measured.result c.measured.ensures

pub returns-clause-valid : goal.returns-clause-valid
returns-clause-valid c = made_valid c.project-project.result.now c.args.valid.now c.project-project.ensures.same c.in_ok-edit.edit c.measured.result c.measured.ensures
