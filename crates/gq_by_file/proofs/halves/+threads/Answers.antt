-- What is told of the two halves is told of both.
use Rattle.std.proofs.Common.{subst, IfOk}
use denote.Param.Send.{sendable}
use Rattle.std.proofs.Crossing.{sync}
use Rattle.std.proofs.lemmas.Result.{IfOk-weaker}
use Rattle.gq_tree.specs.Readings.{unshared_view}
use Rattle.gq_document.specs.Executable.{executable_view}
use Rattle.gq_by_file.specs.Links.{AreLinks}
use Rattle.gq_by_file.specs.Helping.Told.{AreToldOf}
use Rattle.gq_by_file.proofs.Crossing.{Files-sync}
use Rattle.gq_by_file.proofs.ToldLemmas.{told_of_both}
use Rattle.gq_by_file.proofs.CoverLemmas.{both_halves}
use Rattle.gq_by_file.proofs.HeldLemmas.{holds_itself}
use Rattle.gq_by_file.proofs.halves.+threads.Goals as goal

pub join-front-requires-send-F : goal.join-front-requires-send-F
join-front-requires-send-F g t c κs within = search (sendable, sync, Files-sync) depth 12

pub returns : goal.returns
returns g t c links =
    let x = executable_view c.args.files.executable.now in
    let rs = unshared_view c.args.files.readings.now in
    let rows = c.args.files.rows.now in
    let front = c.split_at.result.0.now in
    let back = c.split_at.result.1.now in
    told_of_both x rs front back c.args.rest.now (both_halves _ c.args.rest.now front back c.split_at.ensures.front c.split_at.ensures.back)
    c.in_ok-faults.faults.items c.in_ok-back.field-0.items c.append.new.self.items c.in_ok-append.ensures.items
    (subst (λ r. IfOk r (λ faults. AreLinks x rows → AreToldOf x rs front faults.items)) c.in_ok-faults.was c.join-front.ensures.first links)
    (subst (λ r. IfOk r (λ faults. AreLinks x rows → AreToldOf x rs back faults.items)) c.in_ok-back.was c.join-front.ensures.second links)

pub returns-then-halvings-eq0 : goal.returns-then-halvings-eq0
returns-then-halvings-eq0 g t c =
    let x = executable_view c.args.files.executable.now in
    IfOk-weaker c.found_by_halves.result _ _ (λ faults told links. told (holds_itself x c.args.files.rows.now c.args.rest.now) links) c.found_by_halves.ensures
