use Rattle.std.proofs.Common.{◌∙◌, List, ap, subst, false, filter}
use Rattle.std.specs.Bool.{beq}
use Rattle.gq_fault.specs.declared.fault.Fault.{Fault}
use Rattle.gq_document.specs.Executable.{executable_view}
use Rattle.gq_fault.specs.Adds.{AddsExactly}
use Rattle.gq_rules.specs.Helping.RuleGroups.{IsAcrossGroup}
use Rattle.gq_rules.specs.RestsOnFile.{rests_on_file}
use Rattle.gq_rules.proofs.ByFile.{of_all}
use Rattle.gq_rules.proofs.by_file.found_across.Goals as goal

pub returns : goal.returns
returns c =
    let x = executable_view c.args.executable.now in
    of_all x _ _ (subst (λ xs. AddsExactly (IsAcrossGroup x) xs c.add_across_groups.new.faults.items) c.new-faults.ensures.items c.in_ok-add_across_groups.ensures)
    (c.in_ok-across.ensures ∙ ap (λ (fs : List Fault). filter (λ (z : Fault). beq (rests_on_file z.code) false) fs) c.deref.ensures.value)
