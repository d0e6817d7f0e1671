-- The document that is put is found by its key, and one that is dropped is not; other keys find what they found.
use Rattle.std.proofs.Common.{◌∙◌, List, find, ap, sym}
use Rattle.std.proofs.lemmas.Result.{on_ok_weaker, on_err_weaker}
use Rattle.gq_project.specs.declared.document.Doc.{Doc}
use Rattle.gq_project.specs.Documents.{has_key, with_doc, without}
use Rattle.gq_kept.specs.KeptOf.{KeptOf}
use Rattle.gq_events.proofs.Now.{put_now, put_other, drop_now, drop_other, by_result}
use Rattle.gq_events.proofs.bringing.bring_one.Goals as goal

pub returns-in_ok-copy-in-Some-clause-now : goal.returns-in_ok-copy-in-Some-clause-now
returns-in_ok-copy-in-Some-clause-now c =
    on_ok_weaker c.replace_file.result
    (λ is. ap (λ (ds : List Doc). find (has_key c.args.key.now) ds) is ∙ put_now c.args.kept.now.documents c.args.documents.now c.args.key.now c.in-Some.document.now c.in_ok-copy-in-Some.copy (sym c.in-Some.ensures) c.in_ok-copy-in-Some.ensures.doc)
    c.replace_file.ensures.ok

pub returns-in_ok-copy-in-Some-clause-others : goal.returns-in_ok-copy-in-Some-clause-others
returns-in_ok-copy-in-Some-clause-others c = λ other differs.
    by_result c.replace_file.result c.args.kept.now.documents c.replace_file.new.self.documents (with_doc c.args.kept.now.documents c.in_ok-copy-in-Some.copy) other c.replace_file.ensures.ok
    (on_err_weaker c.replace_file.result (λ is. ap (λ (k : KeptOf). k.documents) is) c.replace_file.ensures.err)
    (put_other c.args.kept.now.documents c.args.documents.now c.args.key.now other c.in-Some.document.now c.in_ok-copy-in-Some.copy (sym c.in-Some.ensures) c.in_ok-copy-in-Some.ensures.doc differs)

pub returns-in-None-clause-now : goal.returns-in-None-clause-now
returns-in-None-clause-now c =
    on_ok_weaker c.drop_file.result
    (λ is. ap (λ (ds : List Doc). find (has_key c.args.key.now) ds) is ∙ drop_now c.args.kept.now.documents c.args.documents.now c.args.key.now (sym c.in-None.ensures)) c.drop_file.ensures.ok

pub returns-in-None-clause-others : goal.returns-in-None-clause-others
returns-in-None-clause-others c = λ other differs.
    by_result c.drop_file.result c.args.kept.now.documents c.drop_file.new.self.documents (without c.args.kept.now.documents c.args.key.now) other c.drop_file.ensures.ok
    (on_err_weaker c.drop_file.result (λ is. ap (λ (k : KeptOf). k.documents) is) c.drop_file.ensures.err) (drop_other c.args.kept.now.documents c.args.key.now other differs)
