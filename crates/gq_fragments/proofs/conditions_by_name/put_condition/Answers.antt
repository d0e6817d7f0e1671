use Rattle.std.proofs.Common.{◌≡◌, true, List, ◌++◌, sym, ◌∙◌, ap}
use Rattle.std.specs.List.{list_any}
use Rattle.std.specs.Str.{bytes_eq}
use Rattle.std.specs.Borrow.{Bor}
use Rattle.std.proofs.lemmas.Result.{on_ok_weaker}
use Rattle.gq_names.specs.UnderNames.{items_under, one_if}
use Rattle.gq_types.specs.Entries.{Text}
use Rattle.gq_types.specs.LookUps.{texts_of}
use Rattle.gq_document.specs.Definitions.{fragment_view}
use Rattle.gq_fragments.proofs.ConditionLemmas.{takes_new, takes_known}
use Rattle.gq_fragments.proofs.conditions_by_name.put_condition.Goals as goal

pub returns-then-is_among : goal.returns-then-is_among
returns-then-is_among c =
    let f = fragment_view c.args.fragment.now in
    let under = c.args.conditions.now in
    let name : c.as_str-name.result.now ≡ f.name.text = c.as_str-name.ensures in
    let condition : c.as_str-condition.result.now ≡ f.on.text = c.as_str-condition.ensures in
    let known : list_any (bytes_eq f.on.text) (texts_of (items_under under f.name.text)) ≡ true =
    sym (ap (λ (t : Text). list_any (bytes_eq t) (texts_of (items_under under f.name.text))) condition)
    ∙ sym (ap (λ (items : List (Bor Text)). list_any (bytes_eq c.as_str-condition.result.now) (texts_of items)) (c.get.ensures ∙ ap (items_under under) name))
    ∙ sym c.is_among.ensures ∙ c.if-is_among.true in
    takes_known f under known

pub returns : goal.returns
returns c =
    let f = fragment_view c.args.fragment.now in
    let name : c.as_str-name.result.now ≡ f.name.text = c.as_str-name.ensures in
    let condition : c.as_str-condition.result.now ≡ f.on.text = c.as_str-condition.ensures in
    on_ok_weaker c.put.result
    (λ put. takes_new f c.args.conditions.now c.put.new.self c.as_str-condition.result condition
    (λ text. put text ∙ ap (λ (t : Text). items_under c.args.conditions.now text ++ one_if (bytes_eq text t) c.as_str-condition.result) name))
    c.put.ensures.ok
