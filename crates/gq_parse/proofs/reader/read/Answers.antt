use Rattle.std.proofs.Common.{◌≡◌, ◌∙◌, ◌+◌, List, [], take, take-suc, add-one, subst, sym, ap, ◌++◌, ◌∷◌}
use Rattle.std.proofs.lemmas.List.{map-append}
use Rattle.gq_tree.specs.Readings.{ParsedOf, parsed_view, unshared_view}
use Rattle.gq_parse.specs.Parsed.{IsParsed, AreParsed, none}
use Rattle.gq_parse.proofs.ReadingLemmas.{one_more}
use Rattle.gq_parse.proofs.reader.read.Goals as goal

pub loop-document-init : goal.loop-document-init
loop-document-init c = subst (λ readings. AreParsed [] (unshared_view readings)) (sym c.new-readings.ensures.items) none

pub loop-document-preserved : goal.loop-document-preserved
loop-document-preserved c =
    let longer : take (c.loop-document.document-index + 1) c.args.documents.now ≡ take c.loop-document.document-index c.args.documents.now ++ c.document-item.result ∷ [] =
    ap (λ k. take k c.args.documents.now) (add-one c.loop-document.document-index) ∙ take-suc c.args.documents.now c.loop-document.document-index _ c.loop-document-test.true
    ∙ ap (λ d. take c.loop-document.document-index c.args.documents.now ++ d ∷ []) (sym c.document-item.is) in
    let so_far = c.loop-document.readings.items in
    let one = c.in_ok-read_text.field-0 in
    subst (λ (rs : List ParsedOf). AreParsed (take (c.loop-document.document-index + 1) c.args.documents.now) rs)
    (sym (ap unshared_view c.in_ok-push.ensures.items ∙ map-append parsed_view so_far (one ∷ [])))
    (one_more c.args.documents.now (unshared_view so_far) c.loop-document.document-index c.document-item.result (parsed_view one) longer
    c.loop-document.invariant (subst (λ text. IsParsed text (parsed_view one)) c.as_str.ensures c.in_ok-read_text.ensures))
