use Rattle.gq_types.specs.Look.{text_of}
use Rattle.gq_table.specs.Views.{entries_view, rows_view}
use Rattle.gq_check.specs.Files.{content_of, documents_of}
use Rattle.gq_check.proofs.ExecLemmas.{exec_verdict, same_as}
use Rattle.gq_check.proofs.VerdictLemmas.{invalid_as}
use Rattle.gq_check.proofs.executing.answered.Goals as goal

pub returns-clause-ok : goal.returns-clause-ok
returns-clause-ok c =
    let files = c.args.files.now in
    let project = c.in_ok-project.project in
    let are = c.in_ok-project.ensures.documents in
    exec_verdict (text_of c.args.name) (content_of c.args.table.now) (content_of c.args.variables.now) files (rows_view c.in_ok-table.table) (entries_view c.in_ok-variables.variables.entries.items) c.in_ok-verdict.verdict c.in_ok-table.ensures.ok c.in_ok-variables.ensures.ok
    c.in_ok-project.ensures.accepted
    (c.in_ok-verdict.ensures.ok (documents_of files) (same_as c.new.result project (documents_of files) c.new.ensures.same are) (invalid_as project (documents_of files) are c.new.result c.new.ensures.handed_back c.new.ensures.why))
