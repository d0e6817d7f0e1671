use Rattle.std.proofs.Common.{◌+◌, ap, subst, ◌∙◌, map}
use Rattle.std.proofs.lemmas.List.{length_push}
use Rattle.gq_tree.specs.Views.{input_view}
use Rattle.gq_types.specs.Helping.RequiredNames.{AreNamesOf}
use Rattle.gq_types.proofs.ArgumentNameLemmas.{field_pushed}
use Rattle.gq_types.proofs.argument_names.names_of_fields.Goals as goal

pub loop-field-preserved : goal.loop-field-preserved
loop-field-preserved c =
    let all = c.loop-field.all.items in
    let names = c.in_ok-names.names in
    let pushed = c.in_ok-push.ensures.items in
    let here = subst (λ xs. AreNamesOf (map input_view xs) names) c.deref.ensures.value c.in_ok-names.ensures in
    rw pushed (
      length_push all names ∙ ap (λ n. n + 1) c.loop-field.invariant.0,
      field_pushed c.args.fields.now c.field-item.result c.loop-field.field-index all names c.loop-field-test.true c.field-item.is c.loop-field.invariant.0 c.loop-field.invariant.1 here,
    )
