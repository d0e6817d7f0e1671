-- What the code has is what is read.
use Rattle.std.proofs.Common.{◌∙◌, ◌++◌, ap, subst}
use Rattle.gq_tree.specs.Readings.{unshared_view}
use Rattle.gq_types.specs.BuiltIn.{built_in}
use Rattle.gq_document.specs.Definitions.{fragments_view, operations_view}
use Rattle.gq_document.specs.Executable.{ExecutableOf}
use Rattle.gq_rules.proofs.DemandLemmas.{executable_is}
use Rattle.gq_by_file.specs.Helping.Told.{PutsWrongOver}
use Rattle.gq_by_file.proofs.ToldLemmas.{over_files}
use Rattle.gq_by_file.proofs.by_threads.add_wrong.Goals as goal

pub returns : goal.returns
returns g c given =
    let rs = unshared_view c.args.readings.now in
    let same = executable_is rs _ _ _ (c.in_ok-types.ensures ∙ ap (λ es. built_in ++ es) given) (ap operations_view c.deref.ensures.value ∙ c.in_ok-definitions.ensures.operations)
    (ap fragments_view c.deref-2.ensures.value ∙ c.in_ok-definitions.ensures.fragments) in
    subst (λ (x : ExecutableOf). PutsWrongOver x c.args.faults.now.items c.add_wrong_over.new.faults.items) same (c.in_ok-add_wrong_over.ensures (over_files _ rs same))
