use Rattle.std.proofs.Common.{ap, sym, ◌∙◌, map}
use Rattle.std.specs.List.{list_any}
use Rattle.gq_tree.specs.Views.{def_view}
use Rattle.gq_laws.specs.Placing.OtherFields.{has_selected}
use Rattle.gq_kept.proofs.FieldNamesLemmas.{reached, selects_in_definitions, selects_within}
use Rattle.gq_kept.proofs.field_names.names_selected.Goals as goal

pub returns : goal.returns
returns c texts h =
    let items = c.deref-definition-items.result.now in
    ap (λ ds. list_any (has_selected texts) (map def_view ds)) (sym c.deref-definition-items.ensures.value)
    ∙ selects_in_definitions texts items
    ∙ reached selects_within items c.loop-definition.definition-index c.loop-definition.names c.loop-definition-test.false c.loop-definition.invariant texts h
