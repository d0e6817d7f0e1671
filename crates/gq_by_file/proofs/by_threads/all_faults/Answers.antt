-- What is lent is what is given back.
use Rattle.std.proofs.Common.{◌↔◌, Contains, List, subst}
use Rattle.gq_tree.specs.declared.parsed.Parsed.{Parsed}
use Rattle.gq_tree.specs.Readings.{unshared_view}
use Rattle.gq_rules.specs.Faults.{IsFaultOf}
use Rattle.gq_by_file.proofs.by_threads.all_faults.Goals as goal

pub returns : goal.returns
returns g c f = subst (λ (rs : List Parsed). Contains c.in_ok-faults.faults.items f ↔ IsFaultOf (unshared_view rs) f) c.deref.ensures.value (c.in_ok-faults.ensures f)
