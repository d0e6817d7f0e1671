-- What rests on spreads, in documents of other numbers: what is told of the ones by a rule is told of the others.
use Rattle.std.proofs.Common.{ap, ◌∙◌}
use Rattle.gq_fault.specs.declared.code.Code.{Code}
use Rattle.gq_rules.specs.RestsOnFile.{rests_on_file}
use Rattle.gq_by_file.specs.Closed.RestsOnNames.{rests_on_names, IsFaultBySpreads}
use Rattle.gq_by_file.proofs.Closed.Renumbered.{TellsOfRenumbered, made}
use Rattle.gq_by_file.proofs.Closed.RenumberedMerging.{merging_renumbered}
use Rattle.gq_by_file.proofs.Closed.RenumberedSpreads.{unknown_renumbered, cycle_renumbered, impossible_renumbered}
use Rattle.gq_by_file.proofs.Closed.RenumberedVariables.{variable_renumbered}
use Rattle.gq_by_file.proofs.Closed.Rules.{IsSpreading, unknown, cycle, impossible, variable, merging, of_rule, from_spreading}

by_rules : TellsOfRenumbered IsSpreading
by_rules es Is os ps gs hs are f (unknown h) = let t = unknown_renumbered es Is os ps gs hs are f h in (t.0, t.1, unknown t.2)
by_rules es Is os ps gs hs are f (cycle h) = let t = cycle_renumbered es Is os ps gs hs are f h in (t.0, t.1, cycle t.2)
by_rules es Is os ps gs hs are f (impossible h) = let t = impossible_renumbered es Is os ps gs hs are f h in (t.0, t.1, impossible t.2)
by_rules es Is os ps gs hs are f (variable h) = let t = variable_renumbered es Is os ps gs hs are f h in (t.0, t.1, variable t.2)
by_rules es Is os ps gs hs are f (merging h) = let t = merging_renumbered es Is os ps gs hs are f h in (t.0, t.1, merging t.2)

pub spreading_renumbered : TellsOfRenumbered IsFaultBySpreads
spreading_renumbered es Is os ps gs hs are f h =
    let t = by_rules es Is os ps gs hs are f (of_rule (made es os gs) f h.0 h.1 h.2) in (
      t.0,
      t.1,
      (
        ap (λ (c : Code). rests_on_file c) t.1 ∙ h.0,
        ap (λ (c : Code). rests_on_names c) t.1 ∙ h.1,
        from_spreading (made es ps hs) t.0 t.2,
      ),
    )
