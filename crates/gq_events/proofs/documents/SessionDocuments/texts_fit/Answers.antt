-- The loop has seen that each text fits.
use Rattle.std.proofs.Common.{◌≡◌, ◌≤◌, ◌^◌, ◌+◌, List, [], ◌∷◌, ◌++◌, length, take, ap, sym, subst, ◌∙◌, arith}
use Rattle.std.specs.List.{AllByRecursion}
use Rattle.std.proofs.lemmas.List.{take_all, take_more}
use Rattle.gq_events.specs.declared.documents.SessionDocument.{SessionDocument}
use Rattle.gq_events.proofs.DocumentsKept.{docs_are_texts}
use Rattle.gq_events.proofs.Lists.{both}
use Rattle.gq_events.proofs.documents.SessionDocuments.texts_fit.Goals as goal

abbrev Fits : List SessionDocument → Type 0
Fits documents = AllByRecursion (λ document. length document.text ≤ 2 ^ 22) documents

pub loop-document-preserved : goal.loop-document-preserved
loop-document-preserved c =
    let documents : List SessionDocument = c.deref-document-items.result.now in
    let i = c.loop-document.document-index in
    let x : SessionDocument = c.document-item.result in
    let longer : take (i + 1) documents ≡ take i documents ++ x ∷ [] = take_more documents i x c.loop-document-test.true ∙ ap (λ (d : SessionDocument). take i documents ++ d ∷ []) (sym c.document-item.is) in
    subst Fits (sym longer) (both (λ document. length document.text ≤ 2 ^ 22) (take i documents) (x ∷ []) c.loop-document.invariant (c.fits.ensures, tt))

pub returns-clause-texts : goal.returns-clause-texts
returns-clause-texts c =
    let seen : Fits c.deref-document-items.result.now = subst Fits (take_all c.loop-document.document-index c.deref-document-items.result.now (omega (arith, c.loop-document-test.false))) c.loop-document.invariant in
    let view = c.self.view_is in
    let all : c.self.inside.documents.items ≡ c.args.self.now = cc in
    docs_are_texts c.args.self.now (subst Fits (c.deref-document-items.ensures.value ∙ all) seen)
