use Rattle.std.proofs.Common.{◌++◌, ap, sym, ◌∙◌, append-nil, List}
use Rattle.std.proofs.lemmas.Result.{on_ok_weaker}
use Rattle.gq_rpc.specs.declared.messages.Location.{Location}
use Rattle.gq_replies.proofs.Rows.{locations-row, locations-none}
use Rattle.gq_replies.proofs.locations.put_row.Goals as goal

pub returns-in-Some : goal.returns-in-Some
returns-in-Some c =
    let here = c.in-Some.ensures.lookup in
    let row = locations-row c.args.encoding c.args.documents.now c.args.file c.in-Some.document.now c.args.row.now here.3.0 here.1 c.requires.row in
    on_ok_weaker c.put_in_document.result (λ e. e ∙ ap (λ (ls : List Location). c.args.locations.now ++ ls) row) c.put_in_document.ensures

pub returns-in-None : goal.returns-in-None
returns-in-None c =
    let none = locations-none c.args.encoding c.args.documents.now c.args.file c.args.row.now c.in-None.ensures.lookup.3 c.requires.row in
    sym (ap (λ (ls : List Location). c.args.locations.now ++ ls) none ∙ append-nil c.args.locations.now)
