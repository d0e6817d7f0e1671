use Rattle.std.proofs.Common.{◌∙◌, List, ap, false, filter}
use Rattle.std.specs.Bool.{beq}
use Rattle.gq_fault.specs.declared.fault.Fault.{Fault}
use Rattle.gq_document.specs.Executable.{executable_view}
use Rattle.gq_by_file.specs.Closed.RestsOnNames.{rests_on_names}
use Rattle.gq_by_file.proofs.PartLemmas.{by_spreads}
use Rattle.gq_by_file.proofs.part.found_by_spreads.Goals as goal

pub returns : goal.returns
returns c = by_spreads (executable_view c.args.executable.now) c.in_ok-faults.faults.items c.in_ok-some.some.items c.in_ok-faults.ensures
    (c.in_ok-some.ensures ∙ ap (λ (fs : List Fault). filter (λ (z : Fault). beq (rests_on_names z.code) false) fs) c.deref.ensures.value)
