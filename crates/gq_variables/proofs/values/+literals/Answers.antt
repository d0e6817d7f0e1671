use Rattle.std.proofs.lemmas.Result.{on_ok_weaker}
use Rattle.gq_types.specs.Look.{types_view}
use Rattle.gq_variables.specs.Helping.Views.{place_view, uses_view}
use Rattle.gq_variables.proofs.LiteralUseLemmas.{list_done, object_done}
use Rattle.gq_variables.proofs.values.+literals.Goals as goal

pub put_uses_of_value-returns-in-List : goal.put_uses_of_value-returns-in-List
put_uses_of_value-returns-in-List t c = on_ok_weaker c.put_uses_of_items.result
    (λ below. list_done (types_view c.args.types.now) c.args.file (place_view c.args.place) (place_view c.items_place.result) c.args.value.now c.in-List.items c.in-List.span c.deref.result.now
    (uses_view c.args.uses.now.items) (uses_view c.put_uses_of_items.new.uses.items) c.in-List.is c.items_place.ensures c.deref.ensures.value below)
    c.put_uses_of_items.ensures

pub put_uses_of_value-returns-in-Object : goal.put_uses_of_value-returns-in-Object
put_uses_of_value-returns-in-Object t c = on_ok_weaker c.put_uses_of_fields.result
    (λ below. object_done (types_view c.args.types.now) c.args.file (place_view c.args.place) c.args.value.now c.in-Object.fields c.in-Object.span c.deref-in-Object.result.now
    (uses_view c.args.uses.now.items) (uses_view c.put_uses_of_fields.new.uses.items) c.in-Object.is c.deref-in-Object.ensures.value below)
    c.put_uses_of_fields.ensures
