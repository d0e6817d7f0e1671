use Rattle.std.proofs.Common.{Some, map, ap, sym, ◌∙◌}
use Rattle.std.specs.Option.{option_map}
use Rattle.gq_tree.specs.Views.{variable_view}
use Rattle.gq_types.specs.Look.{types_view}
use Rattle.gq_table.specs.Views.{entries_view}
use Rattle.gq_coerce.proofs.CoercionLemmas.{variables_done}
use Rattle.gq_coerce.proofs.coercion.Coercion.variables.Goals as goal

pub returns-in_ok-of-in-Some : goal.returns-in_ok-of-in-Some
returns-in_ok-of-in-Some c =
    ap (λ es. Some (entries_view es)) c.in_ok-of-in-Some.ensures ∙ ap (λ o. option_map (λ es. entries_view es.items) o) (sym c.in-Some.is)
    ∙ variables_done (types_view c.args.self.types.now) c.args.self.limit (map variable_view c.args.definitions.now) (entries_view c.args.raw.now) c.in_ok-entries.field-0 c.args.self.limit_is c.in_ok-entries.ensures

pub returns-in-None : goal.returns-in-None
returns-in-None c =
    ap (λ o. option_map (λ es. entries_view es.items) o) (sym c.in-None.is)
    ∙ variables_done (types_view c.args.self.types.now) c.args.self.limit (map variable_view c.args.definitions.now) (entries_view c.args.raw.now) c.in_ok-entries.field-0 c.args.self.limit_is c.in_ok-entries.ensures
