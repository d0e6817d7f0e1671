use Rattle.std.proofs.Common.{◌++◌, ◌∷◌, [], ap, subst, sym, ◌∙◌}
use Rattle.std.specs.List.{list_any}
use Rattle.std.specs.Str.{bytes_eq}
use Rattle.gq_kept.specs.Helping.Selected.{Grows}
use Rattle.gq_kept.proofs.FieldNamesLemmas.{on_ok, put_grows, put_has}
use Rattle.gq_kept.proofs.field_names.put.Goals as goal

pub returns-clause-grows : goal.returns-clause-grows
returns-clause-grows c = on_ok c.add.result (λ is. subst (Grows c.args.names.now) (sym is) (put_grows c.args.names.now c.as_str-2.result.now)) c.add.ensures.ok

pub returns-clause-has : goal.returns-clause-has
returns-clause-has c =
    let names = c.args.names.now in
    let name = c.args.name.now.text in
    on_ok c.add.result (λ is. ap (list_any (bytes_eq name)) (is ∙ ap (λ t. names ++ t ∷ []) c.as_str-2.ensures) ∙ put_has names name) c.add.ensures.ok
