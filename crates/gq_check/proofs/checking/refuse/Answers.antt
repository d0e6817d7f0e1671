use Rattle.std.proofs.Common.{refl, ◌∙◌}
use Rattle.gq_check.specs.declared.fault.CheckFault.TheVariants.{NoMemory}
use Rattle.gq_check.proofs.VerdictLemmas.{ends_as}
use Rattle.gq_check.proofs.ReasonLemmas.{quiet, loud, no_memory_told}
use Rattle.gq_check.proofs.checking.refuse.Goals as goal

pub returns-then-not-is_verbose : goal.returns-then-not-is_verbose
returns-then-not-is_verbose g c stated = record {
  fault = c.args.fault;
  is_fault = stated;
  ends = ends_as _ _ _ _ _ _ _ _ _ _ _ refl (c.as_bytes.ensures.value ∙ c.line.ensures ∙ quiet c.args.is_verbose c.args.files.now c.args.fault (cc)) refl c.print.ensures;
}

pub returns-in-Ok : goal.returns-in-Ok
returns-in-Ok g c stated = record {
  fault = c.args.fault;
  is_fault = stated;
  ends = ends_as _ _ _ _ _ _ _ _ _ _ _ refl (c.deref.ensures.value ∙ c.in-Ok.ensures ∙ loud c.args.is_verbose c.args.files.now c.args.fault (cc)) refl c.print-in-Ok.ensures;
}

pub returns-in-Err : goal.returns-in-Err
returns-in-Err g c stated = record {
  fault = NoMemory;
  is_fault = tt;
  ends = ends_as _ _ _ _ _ _ _ _ _ _ _ refl (c.as_bytes-in-Err.ensures.value ∙ c.line-line.ensures ∙ no_memory_told c.args.is_verbose c.args.files.now) refl c.print-in-Err.ensures;
}
