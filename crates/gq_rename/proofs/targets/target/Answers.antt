use Rattle.std.proofs.Common.{◌≡◌, List, subst}
use Rattle.gq_tree.specs.Readings.{SharedParsed, readings_view}
use Rattle.gq_parse.specs.Parsed.{AreParsed}
use Rattle.gq_rename.proofs.Targeting.{is_target_listed}
use Rattle.gq_rename.proofs.targets.target.Goals as goal

pub returns : goal.returns
returns c =
    let same : c.in_ok-readings.readings.items ≡ c.deref.result.now = cc in
    let are = subst (λ (all : List SharedParsed). AreParsed c.documents.result.now (readings_view all)) same c.in_ok-readings.ensures in
    is_target_listed c.offsets_mean_one_target.ensures c.documents.result.now c.project-project.result.now c.args.valid.now c.args.key.now c.args.offset c.in_ok-found.found (readings_view c.deref.result.now)
    c.documents.ensures.all c.project-project.ensures.same are c.in_ok-found.ensures
