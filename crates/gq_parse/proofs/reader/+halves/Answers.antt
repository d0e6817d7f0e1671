use Rattle.std.proofs.Common.{◌≡◌, ◌∙◌, ◌++◌, List, subst, sym, ap, drop, IfOk}
use Rattle.std.proofs.lemmas.List.{map-append, take-append-drop}
use Rattle.gq_tree.specs.Readings.{ParsedOf, parsed_view, unshared_view}
use Rattle.gq_parse.specs.Parsed.{AreParsed}
use Rattle.gq_parse.proofs.ReadingLemmas.{both_read}
use denote.Param.Send.{sendable}
use Rattle.std.proofs.Crossing.{crosses}
use Rattle.gq_tree.proofs.Crossing.{Parsed-send}
use Rattle.gq_parse.proofs.reader.+halves.Goals as goal

pub join-front-requires-send-A : goal.join-front-requires-send-A
join-front-requires-send-A g t c κs within = search (sendable, crosses, Parsed-send) depth 12

pub returns : goal.returns
returns g t c =
    let front = c.split_at.result.0.now in
    let back = c.split_at.result.1.now in
    let cut : c.args.documents.now ≡ front ++ back = sym (take-append-drop c.middle_of.result c.args.documents.now)
    ∙ ap (λ xs. xs ++ drop c.middle_of.result c.args.documents.now) (sym c.split_at.ensures.front) ∙ ap (λ xs. front ++ xs) (sym c.split_at.ensures.back) in
    let first = c.in_ok-readings.readings.items in
    let second = c.in_ok-back.field-0.items in
    subst (λ (xs : List ParsedOf). AreParsed c.args.documents.now xs) (sym (ap unshared_view c.in_ok-append.ensures.items ∙ map-append parsed_view first second))
    (both_read c.args.documents.now front back (unshared_view first) (unshared_view second) cut
    (subst (λ r. IfOk r (λ readings. AreParsed front (unshared_view readings.items))) c.in_ok-readings.was c.join-front.ensures.first)
    (subst (λ r. IfOk r (λ readings. AreParsed back (unshared_view readings.items))) c.in_ok-back.was c.join-front.ensures.second))
