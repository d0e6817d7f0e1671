-- None is made where the document defines no types, and all that is defined stands before it. Where it defines none, what the rules tell stays.
use Rattle.std.proofs.Common.{◌≡◌, ◌++◌, ◌∙◌, false, true, List, ap, rules}
use Rattle.std.specs.List.{insert}
use Rattle.gq_tree.specs.Readings.{ParsedOf, readings_view, shared_view}
use Rattle.gq_types.specs.BuiltIn.{built_in}
use Rattle.gq_document.specs.Definitions.{entries_of}
use Rattle.gq_kept.proofs.TypesLemmas.{system_inserted, types_stay, types_told}
use Rattle.gq_kept.proofs.typed.typed_more.Goals as goal

pub returns-then-stand_before : goal.returns-then-stand_before
returns-then-stand_before c =
    let none : c.has_types-is_more.result ≡ false = search rules in
    let before : c.stand_before.result ≡ true = search rules in
    types_stay (readings_view c.args.readings.now) c.args.at (shared_view c.args.reading.now) c.args.typed.now (c.has_types-is_more.ensures none) (c.stand_before.ensures before)

pub returns : goal.returns
returns c are =
    let rs : List ParsedOf = readings_view c.args.readings.now in
    let at = c.args.at in
    let r : ParsedOf = shared_view c.args.reading.now in
    let all : readings_view c.deref-2.result.now ≡ insert rs at r = ap readings_view c.deref-2.ensures.value ∙ c.in_ok-all.ensures in
    types_told c.documents_of_types_do_not_matter_to_types.ensures rs (insert rs at r) (system_inserted rs at r (c.has_types-is_more.ensures c.if-is_more.false)) c.args.typed.now c.in_ok-made.made
    (c.in_ok-made.ensures.types ∙ ap (λ (ps : List ParsedOf). built_in ++ entries_of ps) all) c.in_ok-made.ensures.flag are
