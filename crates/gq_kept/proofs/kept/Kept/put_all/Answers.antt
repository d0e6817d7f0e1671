-- One more is put.
use Rattle.std.proofs.Common.{List, get_or, sym, subst}
use Rattle.std.proofs.lemmas.List.{take_more}
use Rattle.gq_project.specs.declared.document.Doc.{Doc}
use Rattle.gq_kept.specs.Helping.Gone.{IsPut, ArePut}
use Rattle.gq_kept.proofs.Brought.{put_more}
use Rattle.gq_kept.proofs.kept.Kept.put_all.Goals as goal

pub loop-doc-preserved : goal.loop-doc-preserved
loop-doc-preserved c =
    let docs : List Doc = c.args.documents.now in
    let i = c.loop-doc.doc-index in
    let doc : Doc = c.doc-item.result in
    let after : List Doc = c.put_copy.new.self.documents in
    let is : IsPut c.loop-doc.self.documents (get_or docs i doc) after = subst (λ (d : Doc). IsPut c.loop-doc.self.documents d after) c.doc-item.is c.in_ok-put_copy.ensures in
    subst (λ (ds : List Doc). ArePut c.args.self.now.documents ds after) (sym (take_more docs i doc c.loop-doc-test.true))
    (put_more c.args.self.now.documents c.loop-doc.self.documents after docs i doc c.requires c.loop-doc-test.true c.loop-doc.invariant is)
