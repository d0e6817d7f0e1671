-- A copy of the document is put.
use Rattle.std.proofs.Common.{List, subst, sym, ap, ◌∙◌}
use Rattle.gq_project.specs.declared.document.Doc.{Doc}
use Rattle.gq_project.specs.Documents.{with_doc}
use Rattle.gq_kept.specs.Helping.Gone.{IsPut}
use Rattle.gq_kept.proofs.Brought.{put}
use Rattle.gq_kept.proofs.kept.Kept.put_copy.Goals as goal

pub returns : goal.returns
returns c =
    let before : List Doc = c.args.self.now.documents in
    subst (λ (ds : List Doc). IsPut before c.args.doc.now ds) (sym (c.in_ok-put_read.ensures.ok ∙ ap (λ (d : Doc). with_doc before d) c.in_ok-copy.ensures)) (put before c.args.doc.now)
