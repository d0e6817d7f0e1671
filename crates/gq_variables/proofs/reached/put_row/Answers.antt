use Rattle.std.proofs.Common.{List, ◌++◌, Option, ap, sym, ◌∙◌, append-nil, [], Vec, Global}
use Rattle.std.specs.Option.{option_map, option_map_or}
use Rattle.std.proofs.lemmas.Option.{slice_get-map, slice_get_past}
use Rattle.gq_variables.specs.Uses.{UseOf}
use Rattle.gq_variables.specs.Helping.Views.{uses_view}
use Rattle.gq_variables.specs.declared.uses.Use.{Use}
use Rattle.gq_variables.proofs.reached.put_row.Goals as goal

pub returns-in-None : goal.returns-in-None
returns-in-None c =
    let past = slice_get_past c.args.rows.now c.args.number c.in-None.ensures.lookup.3 in
    let none = slice_get-map (λ (r : Vec Use Global). uses_view r.items) c.args.rows.now c.args.number ∙ ap (option_map (λ (r : Vec Use Global). uses_view r.items)) past in
    let row = ap (λ (o : Option (List UseOf)). option_map_or (λ (r : List UseOf). r) o []) none in
    sym (append-nil (uses_view c.args.uses.now.items)) ∙ ap (λ (r : List UseOf). uses_view c.args.uses.now.items ++ r) (sym row)
