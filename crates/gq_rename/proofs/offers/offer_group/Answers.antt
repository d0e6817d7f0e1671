use Rattle.std.proofs.Common.{List, Some, None, refl, subst}
use mathlib.Core.Logic.{∥∥₁_elim, ∥∥₁_map, ∥∥₁_prop}
use Rattle.gq_project.specs.declared.document.Doc.{Doc}
use Rattle.gq_project.specs.Documents.{IsInOrder}
use Rattle.gq_index.specs.Occurrences.{executables}
use Rattle.gq_cut.specs.Cut.{variable_in}
use Rattle.gq_cut.proofs.VariableCut.{may_name}
use Rattle.gq_mentions.specs.declared.target.TargetKind.TheVariants as kind
use Rattle.gq_rename.proofs.Below.{target_below}
use Rattle.gq_rename.proofs.Offering.{refused, have_trees, fits, leaves_valid, made, made_fits, made_valid, kept, variable_changes, refusal_of, group_is, group_named}
use Rattle.gq_rename.proofs.Passing.{variable_stays}
use Rattle.gq_rename.proofs.Propositions.{FitDocuments-prop}
use Rattle.gq_rename.proofs.offers.offer_group.Goals as goal

pub returns-in-Some-clause-answer : goal.returns-in-Some-clause-answer
returns-in-Some-clause-answer c i =
    let t = c.args.target.now in
    let new = c.args.new_name.now in
    let old = c.as_str-old_name.result.now in
    let group = c.args.group.now in
    refused c.documents_have_one_list.ensures c.project-project.result.now c.args.valid.now c.project-project.ensures.same c.args.index.now i c.project-project.ensures.valid t new c.in-Some.refusal
    (λ ds is inside.
    refusal_of ds t kind.Variable old new (Some c.in-Some.refusal) c.requires.of c.as_str-old_name.ensures
    (c.in-Some.ensures.refusal ds t.definition is (group_named ds t old group c.as_str-old_name.ensures (group_is ds t group c.requires.ascending (c.requires.members ds is inside)))))

pub variable_edit-requires-clause-trees : goal.variable_edit-requires-clause-trees
variable_edit-requires-clause-trees c =
    ∥∥₁_map c.requires.index
    (have_trees c.project-project.result.now c.args.valid.now c.args.index.now c.project-project.ensures.same c.valid_documents_are_trees.ensures c.project-project.ensures.valid)

pub measured-requires-clause-fit : goal.measured-requires-clause-fit
measured-requires-clause-fit c =
    let t = c.args.target.now in
    let new = c.args.new_name.now in
    let old = c.as_str-old_name.result.now in
    let group = c.args.group.now in
    ∥∥₁_elim c.requires.index (FitDocuments-prop c.project-project.result.now c.in_ok-edit.edit)
    (λ i.
    fits c.documents_have_one_list.ensures c.project-project.result.now c.args.valid.now c.project-project.ensures.same c.args.index.now i c.project-project.ensures.valid t new c.valid_documents_are_trees.ensures c.renames_are_sound.ensures
    c.documents_are_texts.ensures.in_order c.documents_are_texts.ensures.utf8 (variable_in group old) (c.in_default.ensures.named refl) (may_name group old new) c.in_ok-edit.edit c.in_ok-edit.ensures c.project-project.result.now c.project-project.ensures.same)

pub measured-requires-clause-valid : goal.measured-requires-clause-valid
measured-requires-clause-valid c =
    let t = c.args.target.now in
    let new = c.args.new_name.now in
    let old = c.as_str-old_name.result.now in
    let group = c.args.group.now in
    let in_order = subst (λ (ds : List Doc). IsInOrder ds) c.project-project.ensures.same c.documents_are_texts.ensures.in_order in
    ∥∥₁_elim c.requires.there ∥∥₁_prop (λ w.
    ∥∥₁_map c.requires.index (λ i.
    let rs = w.2.readings in
    let are = w.2.are_readings in
    let inside = target_below c.args.valid.now rs w.0 w.1 t w.2.here in
    leaves_valid c.documents_have_one_list.ensures c.project-project.result.now c.args.valid.now c.project-project.ensures.same c.args.index.now i c.project-project.ensures.valid t new c.valid_documents_are_trees.ensures c.renames_are_sound.ensures
    c.documents_are_texts.ensures.in_order c.documents_are_texts.ensures.utf8 (variable_in group old) (c.in_default.ensures.named refl) (may_name group old new) c.in_ok-edit.edit c.in_ok-edit.ensures c.project-project.result.now c.project-project.ensures.same
    rs are
    (λ of.
    let g = group_named (executables rs) t old group c.as_str-old_name.ensures (group_is (executables rs) t group c.requires.ascending (c.requires.members (executables rs) of inside)) in
    variable_stays c.variable_renames_stay_valid.ensures c.args.valid.now rs old new t.definition group in_order are c.project-project.ensures.valid (c.in_default.ensures.named refl) g
    (c.in_default.ensures.refusal (executables rs) t.definition of g).2)))

pub returns-clause-answer : goal.returns-clause-answer
returns-clause-answer c i =
    let t = c.args.target.now in
    let new = c.args.new_name.now in
    let old = c.as_str-old_name.result.now in
    let group = c.args.group.now in
    made c.documents_have_one_list.ensures c.project-project.result.now c.args.valid.now c.project-project.ensures.same c.args.index.now i c.project-project.ensures.valid t new c.valid_documents_are_trees.ensures c.renames_are_sound.ensures
    c.documents_are_texts.ensures.in_order c.documents_are_texts.ensures.utf8 (variable_in group old) (c.in_default.ensures.named refl) (may_name group old new) c.in_ok-edit.edit c.in_ok-edit.ensures c.project-project.result.now c.project-project.ensures.same
    (λ ds is inside. variable_changes ds t old group c.requires.of c.as_str-old_name.ensures (group_is ds t group c.requires.ascending (c.requires.members ds is inside))) c.measured.result c.measured.ensures
    (λ ds is inside.
    refusal_of ds t kind.Variable old new None c.requires.of c.as_str-old_name.ensures
    (c.in_default.ensures.refusal ds t.definition is (group_named ds t old group c.as_str-old_name.ensures (group_is ds t group c.requires.ascending (c.requires.members ds is inside)))))

pub returns-clause-fits : goal.returns-clause-fits
returns-clause-fits c =
    let t = c.args.target.now in
    let new = c.args.new_name.now in
    let old = c.as_str-old_name.result.now in
    let group = c.args.group.now in
    made_fits c.project-project.result.now c.args.valid.now c.project-project.ensures.same c.in_ok-edit.edit c.measured.result c.measured.ensures
    (∥∥₁_elim c.requires.index (FitDocuments-prop c.project-project.result.now c.in_ok-edit.edit)
    (λ i.
    fits c.documents_have_one_list.ensures c.project-project.result.now c.args.valid.now c.project-project.ensures.same c.args.index.now i c.project-project.ensures.valid t new c.valid_documents_are_trees.ensures c.renames_are_sound.ensures
    c.documents_are_texts.ensures.in_order c.documents_are_texts.ensures.utf8 (variable_in group old) (c.in_default.ensures.named refl) (may_name group old new) c.in_ok-edit.edit c.in_ok-edit.ensures c.project-project.result.now c.project-project.ensures.same))

pub returns-clause-kept : goal.returns-clause-kept
returns-clause-kept c i =
    let t = c.args.target.now in
    let new = c.args.new_name.now in
    let old = c.as_str-old_name.result.now in
    let group = c.args.group.now in
    kept c.documents_have_one_list.ensures c.project-project.result.now c.args.valid.now c.project-project.ensures.same c.args.index.now i c.project-project.ensures.valid t new c.valid_documents_are_trees.ensures c.renames_are_sound.ensures
    c.documents_are_texts.ensures.in_order c.documents_are_texts.ensures.utf8 (variable_in group old) (c.in_default.ensures.named refl) (may_name group old new) c.in_ok-edit.edit c.in_ok-edit.ensures c.project-project.result.now c.project-project.ensures.same
    (λ ds is inside. variable_changes ds t old group c.requires.of c.as_str-old_name.ensures (group_is ds t group c.requires.ascending (c.requires.members ds is inside))) c.measured.result c.measured.ensures

pub returns-clause-valid : goal.returns-clause-valid
returns-clause-valid c = made_valid c.project-project.result.now c.args.valid.now c.project-project.ensures.same c.in_ok-edit.edit c.measured.result c.measured.ensures
