use Rattle.std.proofs.Common.{◌≡◌, List, None, subst, sym, find, ◌∙◌}
use Rattle.gq_project.specs.declared.document.Doc.{Doc}
use Rattle.gq_project.specs.Documents.{IsInOrder}
use Rattle.gq_edit.specs.declared.edit.DocumentEdit.{DocumentEdit}
use Rattle.gq_edit.specs.Edits.{FitDocuments, is_moved}
use Rattle.gq_reshape.specs.Helping.Fitting.{AllFit}
use Rattle.gq_reshape.proofs.PlacedLemmas.{edits_in_order, edits_fit, edits_there}
use Rattle.gq_reshape.proofs.placed.edit_of.Goals as goal

pub from_vec-requires : goal.from_vec-requires
from_vec-requires c = rw c.in_ok-made.ensures (edits_in_order c.args.placed.now c.documents.result.now (subst IsInOrder (sym c.documents.ensures.all) c.documents.ensures.in_order))

pub edits-requires : goal.edits-requires
edits-requires c = subst (λ (ds : List Doc). AllFit c.args.placed.now 0 ds) (sym c.documents.ensures.all) c.requires

pub returns-clause-fits : goal.returns-clause-fits
returns-clause-fits c =
    let fit = edits_fit c.args.placed.now c.documents.result.now (subst IsInOrder (sym c.documents.ensures.all) c.documents.ensures.in_order) (subst (λ (ds : List Doc). AllFit c.args.placed.now 0 ds) (sym c.documents.ensures.all) c.requires) in
    let F : List DocumentEdit → Type 0 = λ es. FitDocuments c.documents.result.now es in
    let G : List Doc → Type 0 = λ ds. FitDocuments ds c.from_vec.result in
    subst G c.documents.ensures.all (subst F (sym (c.from_vec.ensures ∙ c.in_ok-made.ensures)) fit)

pub returns-clause-there : goal.returns-clause-there
returns-clause-there c =
    let there = edits_there c.args.placed.now c.documents.result.now (subst IsInOrder (sym c.documents.ensures.all) c.documents.ensures.in_order) in
    let F : List DocumentEdit → Type 0 = λ es. find (is_moved c.documents.result.now) es ≡ None in
    let G : List Doc → Type 0 = λ ds. find (is_moved ds) c.from_vec.result ≡ None in
    subst G c.documents.ensures.all (subst F (sym (c.from_vec.ensures ∙ c.in_ok-made.ensures)) there)
