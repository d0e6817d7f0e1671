use Rattle.std.proofs.Common.{[], sym, ◌∙◌}
use Rattle.gq_types.specs.Look.{text_of}
use Rattle.gq_check.specs.Helping.ExecVerdicts.{IsExecVerdict}
use Rattle.gq_check.specs.Files.{content_of}
use Rattle.gq_check.proofs.VerdictLemmas.{ends_as}
use Rattle.gq_check.proofs.executing.exec.Goals as goal

pub returns-in-Ok : goal.returns-in-Ok
returns-in-Ok g c =
    let is : IsExecVerdict (text_of c.args.name) (content_of c.args.table.now) (content_of c.args.variables.now) c.args.files.now c.in-Ok.verdict = c.in-Ok.ensures.ok in
    record {
      outcome = is.outcome;
      is_outcome = is.is_outcome;
      reason = [];
      is_reason = is.no_reason c.args.is_verbose c.args.table.now c.args.variables.now;
      ends = ends_as _ _ _ _ _ _ _ _ _ _ _ (c.deref.ensures.value ∙ is.text) (sym is.no_error) is.status c.print.ensures;
    }

pub returns-in-Err : goal.returns-in-Err
returns-in-Err g c = c.refuse_exec.ensures (text_of c.args.name) c.in-Err.ensures.err
