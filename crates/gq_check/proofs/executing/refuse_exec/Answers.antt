use Rattle.std.proofs.Common.{[], refl, ◌∙◌}
use Rattle.gq_check.specs.Execution.{refused}
use Rattle.gq_check.specs.declared.fault.CheckFault.TheVariants.{NoMemory}
use Rattle.gq_check.specs.declared.exec_fault.ExecFault.TheVariants.{Check}
use Rattle.gq_check.proofs.VerdictLemmas.{ends_as}
use Rattle.gq_check.proofs.ReasonLemmas.{quiet_exec, loud_exec, no_memory_exec}
use Rattle.gq_check.proofs.executing.refuse_exec.Goals as goal

pub returns-then-not-is_verbose : goal.returns-then-not-is_verbose
returns-then-not-is_verbose g c name stated = record {
  outcome = refused c.args.fault;
  is_outcome = stated;
  reason = [];
  is_reason = quiet_exec c.args.is_verbose c.args.table.now c.args.variables.now c.args.files.now c.args.fault (cc);
  ends = ends_as _ _ _ _ _ _ _ _ _ _ _ refl (c.as_bytes.ensures.value ∙ c.line.ensures) c.status.ensures c.print.ensures;
}

pub returns-in-Ok : goal.returns-in-Ok
returns-in-Ok g c name stated =
    let e = c.in-Ok.ensures in
    record {
      outcome = refused c.args.fault;
      is_outcome = stated;
      reason = e.reason;
      is_reason = loud_exec c.args.is_verbose c.args.table.now c.args.variables.now c.args.files.now c.args.fault e.reason (cc) e.is_reason;
      ends = ends_as _ _ _ _ _ _ _ _ _ _ _ refl (c.deref.ensures.value ∙ e.told) c.status-in-Ok.ensures c.print-in-Ok.ensures;
    }

pub returns-in-Err : goal.returns-in-Err
returns-in-Err g c name stated = record {
  outcome = refused (Check NoMemory);
  is_outcome = tt;
  reason = [];
  is_reason = no_memory_exec c.args.is_verbose c.args.table.now c.args.variables.now c.args.files.now;
  ends = ends_as _ _ _ _ _ _ _ _ _ _ _ refl (c.as_bytes-in-Err.ensures.value ∙ c.line-line.ensures) refl c.print-in-Err.ensures;
}
