-- Names and all files come to all that the rules tell.
use Rattle.std.proofs.Common.{◌↔◌, Contains, IfOk, subst}
use denote.Param.Send.{sendable}
use Rattle.std.proofs.Crossing.{crosses}
use Rattle.gq_tree.specs.Readings.{unshared_view}
use Rattle.gq_fault.specs.declared.fault.Fault.{Fault}
use Rattle.gq_document.specs.Executable.{executable_view}
use Rattle.gq_document.proofs.Crossing.{Executable-sync}
use Rattle.gq_by_file.specs.Closed.RestsOnNames.{IsFaultByNames}
use Rattle.gq_by_file.specs.Links.{AreLinks}
use Rattle.gq_by_file.specs.Helping.ByNames.{AreSpreadsOf, all_spreads}
use Rattle.gq_by_file.specs.Helping.Told.{AreToldOf}
use Rattle.gq_by_file.proofs.names.FileNames.TheSendSync as FileNames
use Rattle.gq_by_file.proofs.ToldLemmas.{rules_told, their_links, their_names}
use Rattle.gq_by_file.proofs.apart.found_apart.Goals as goal

pub join-named-requires-send-F : goal.join-named-requires-send-F
join-named-requires-send-F g c κs within = search (sendable, crosses, Executable-sync, FileNames.the_sync) depth 12

pub returns : goal.returns
returns g c is are linked every =
    let x = executable_view c.args.executable.now in
    let rs = unshared_view c.args.readings.now in
    let names = c.args.names.now in
    let rows = c.args.rows.now in
    let parted = c.faults_across_are_by_names_or_spreads.ensures in
    let caused = c.faults_are_of_closed_sets.ensures in
    let local = c.local_faults_are_of_their_file.ensures in
    let named = c.in_ok-faults.faults.items in
    let found = c.in_ok-found.field-0.items in
    let by_names = their_names parted caused local x rs is names are rows linked named
    (subst (λ r. IfOk r (λ faults. AreSpreadsOf x (all_spreads names) → (f : Fault) → Contains faults.items f ↔ IsFaultByNames x f)) c.in_ok-faults.was c.join-named.ensures.first) in
    let links = their_links parted caused local x rs is names are rows linked in
    let told = subst (λ r. IfOk r (λ faults. AreLinks x rows → AreToldOf x rs c.args.all.now faults.items)) c.in_ok-found.was c.join-named.ensures.second links in
    rules_told parted caused local x rs is names are rows linked c.args.all.now every named found c.append.new.self.items by_names told c.in_ok-append.ensures.items
