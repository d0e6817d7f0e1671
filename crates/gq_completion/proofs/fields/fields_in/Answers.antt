use Rattle.std.proofs.Common.{ap, sym, ◌∙◌}
use Rattle.std.specs.Option.{option_map}
use Rattle.std.proofs.lemmas.Result.{IfOk-weaker}
use Rattle.gq_tree.specs.Views.{document_view}
use Rattle.gq_types.specs.Look.{types_view}
use Rattle.gq_document.specs.SetViews.{set_view}
use Rattle.gq_completion.proofs.FieldLemmas.{of_set}
use Rattle.gq_completion.proofs.fields.fields_in.Goals as goal

pub returns : goal.returns
returns c =
    let stands_in = sym c.in_ok-set.ensures ∙ ap (option_map set_view) c.in-Some.is in
    IfOk-weaker c.field_names.result _ _
    (λ names are. of_set (types_view c.args.types.now) (document_view c.args.document.now) c.args.place c.args.offset (set_view c.in-Some.set) stands_in (sym c.is_within_one.ensures ∙ c.if-is_within_one.false) names.items are)
    c.field_names.ensures
