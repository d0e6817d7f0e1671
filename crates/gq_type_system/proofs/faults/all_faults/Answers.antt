use Rattle.std.proofs.Common.{◌++◌, List, ap, ◌∙◌}
use Rattle.gq_fault.specs.declared.fault.Fault.{Fault}
use Rattle.gq_types.specs.Look.{types_view}
use Rattle.gq_type_system.specs.Helping.EachEntry.{names_told, parts_told}
use Rattle.gq_type_system.specs.Helping.SchemaFaultsPlaces.{name_faults}
use Rattle.gq_type_system.proofs.EachEntryLemmas.{names_are, parts_are}
use Rattle.gq_type_system.proofs.SchemaFaultLemmas.{faults_are}
use Rattle.gq_type_system.proofs.faults.all_faults.Goals as goal

pub returns : goal.returns
returns c =
    let es = types_view c.args.types.now in
    let are = c.in_ok-told.ensures in
    let kept = c.in_ok-add_name_faults.ensures in
    let names = kept.faults ∙ ap (λ (xs : List Fault). xs ++ names_told c.in_ok-told.told.entries) c.new-faults.ensures.items ∙ names_are es c.in_ok-told.told are in
    let lists =
    c.in_ok-add_part_faults.ensures ∙ ap (λ (xs : List Fault). xs ++ parts_told es c.add_name_faults.new.told c.in_ok-told.told.groups) names
    ∙ ap (λ (xs : List Fault). name_faults es ++ xs) (parts_are es c.in_ok-told.told c.add_name_faults.new.told are kept.empty kept.arguments kept.inner) in
    faults_are es c.add_part_faults.new.faults.items c.add_endless_inputs.new.faults.items lists c.in_ok-add_endless_inputs.ensures
