-- A key is put for each document that is not among the others.
use Rattle.std.proofs.Common.{◌≡◌, List, [], ◌∷◌, ◌++◌, ◌+◌, take, sym, subst, ap, ◌∙◌, arith}
use Rattle.std.proofs.lemmas.List.{take_all, take_more}
use Rattle.gq_project.specs.declared.document.Doc.{Doc}
use Rattle.gq_kept.specs.Helping.Gone.{AreGone}
use Rattle.gq_kept.proofs.Brought.{copied_some, gone_more, gone_not}
use Rattle.gq_kept.proofs.kept.gone.Goals as goal
use Rattle.gq_kept.proofs.kept.gone.Goals.{then-is_none+in_ok-copied+in_ok-push, else-is_none}

pub loop-doc-preserved : goal.loop-doc-preserved
loop-doc-preserved c =
    let docs : List Doc = c.args.documents.now in
    let i = c.loop-doc.doc-index in
    let doc : Doc = c.doc-item.result in
    let longer : take (i + 1) docs ≡ take i docs ++ doc ∷ [] = take_more docs i doc c.loop-doc-test.true ∙ ap (λ (d : Doc). take i docs ++ d ∷ []) (sym c.doc-item.is) in
    subst (λ (ds : List Doc). AreGone ds c.args.project.now c.if-is_none.keys.items) (sym longer)
    (elim c.if-is_none.branch [
      | then-is_none+in_ok-copied+in_ok-push w ↦ rw (w.keys-is, w.in_ok-push.ensures.items, w.in_ok-copied.ensures) (gone_more (take i docs) c.args.project.now c.loop-doc.keys.items doc c.loop-doc.invariant)
      | else-is_none w ↦ rw w.keys-is (gone_not (take i docs) c.args.project.now c.loop-doc.keys.items doc c.loop-doc.invariant (λ none. copied_some c.get.result w.if-is_none.ensures (c.get.ensures.found ∙ rw c.as_str.ensures none)))
    ])

pub returns : goal.returns
returns c = subst (λ (ds : List Doc). AreGone ds c.args.project.now c.loop-doc.keys.items) (take_all c.loop-doc.doc-index c.args.documents.now (omega (arith, c.loop-doc-test.false))) c.loop-doc.invariant
