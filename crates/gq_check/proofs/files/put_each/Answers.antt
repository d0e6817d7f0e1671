use Rattle.std.proofs.Common.{◌∙◌}
use Rattle.gq_check.proofs.FileLemmas.{fits-with_doc, files-more, first_fault-fine, documents_of_each-more}
use Rattle.gq_check.proofs.files.put_each.Goals as goal

pub loop-file-preserved : goal.loop-file-preserved
loop-file-preserved c =
    let more = files-more c.args.files.now c.loop-file.file-index c.file-item.result c.loop-file-test.true c.file-item.is in
    let put = c.in_ok-put.ensures.ok in
    record {
      accepted = first_fault-fine _ c.file-item.result.now _ more c.in_ok-read_document.ensures.accepted ∙ c.loop-file.invariant.accepted;
      documents = documents_of_each-more c.loop-file.project c.put.new.self c.in_ok-read_document.field-0 _ c.file-item.result.now _ more put c.in_ok-read_document.ensures.document ∙ c.loop-file.invariant.documents;
      texts = rw put (fits-with_doc c.loop-file.project c.in_ok-read_document.field-0 c.loop-file.invariant.texts c.in_ok-read_document.ensures.text);
    }
