-- Names and links are known, or learned.
use Rattle.std.proofs.Common.{List, sym, subst}
use Rattle.std.specs.declared.vec.Vec.{Vec}
use Rattle.std.specs.declared.alloc.Global.{Global}
use Rattle.std.proofs.lemmas.Result.{IfOk-weaker}
use Rattle.gq_tree.specs.Readings.{ParsedOf, readings_view}
use Rattle.gq_types.specs.Entries.{EntryOf}
use Rattle.gq_types.specs.Look.{types_view}
use Rattle.gq_by_file.specs.declared.names.FileNames.{FileNames}
use Rattle.gq_by_file.specs.Names.{AreNames}
use Rattle.gq_by_file.proofs.across.Across.found.Goals as goal

pub returns-in_err-learn_names-clause-kept : goal.returns-in_err-learn_names-clause-kept
returns-in_err-learn_names-clause-kept c are = c.in_err-learn_names.ensures.kept (types_view c.args.types.now) are

pub returns-in_err-learn_links-clause-kept : goal.returns-in_err-learn_links-clause-kept
returns-in_err-learn_links-clause-kept c are =
    c.in_err-learn_links.ensures.kept (types_view c.args.types.now) (readings_view c.args.readings.now) (c.in_ok-learn_names.ensures.kept (types_view c.args.types.now) are)

pub returns-clause-kept : goal.returns-clause-kept
returns-clause-kept c are =
    let es : List EntryOf = types_view c.args.types.now in
    let rs : List ParsedOf = readings_view c.args.readings.now in
    let first = c.in_ok-learn_names.ensures.kept es are in
    let second = c.in_ok-learn_links.ensures.kept es rs first in
    let names : AreNames rs c.learn_links.new.self.names.items =
    subst (λ (v : Vec FileNames Global). AreNames rs v.items) (sym c.in_ok-learn_links.ensures.names) (c.in_ok-learn_names.ensures.names es are) in
    c.found_in_readings.ensures.kept (record { kept = second; names = names; links = c.in_ok-learn_links.ensures.links es rs first })

pub returns-clause-faults : goal.returns-clause-faults
returns-clause-faults c =
    IfOk-weaker c.found_in_readings.result _ _
    (λ faults told are.
    let es : List EntryOf = types_view c.args.types.now in
    let rs : List ParsedOf = readings_view c.args.readings.now in
    let first = c.in_ok-learn_names.ensures.kept es are in
    let second = c.in_ok-learn_links.ensures.kept es rs first in
    let names : AreNames rs c.learn_links.new.self.names.items =
    subst (λ (v : Vec FileNames Global). AreNames rs v.items) (sym c.in_ok-learn_links.ensures.names) (c.in_ok-learn_names.ensures.names es are) in
    told (record { kept = second; names = names; links = c.in_ok-learn_links.ensures.links es rs first }))
    c.found_in_readings.ensures.faults
