use Rattle.std.proofs.Common.{map, ap, ◌∙◌}
use Rattle.gq_tree.specs.Plain.{erase_values}
use Rattle.gq_tree.specs.Views.{input_view, argument_view}
use Rattle.gq_types.specs.Look.{types_view}
use Rattle.gq_table.specs.Views.{entries_view}
use Rattle.gq_coerce.specs.Helping.Views.{inputs_view, part_view}
use Rattle.gq_coerce.proofs.CoercionLemmas.{arguments_done}
use Rattle.gq_coerce.proofs.coercion.Coercion.arguments.Goals as goal

pub returns : goal.returns
returns c =
    arguments_done (types_view c.args.self.types.now) (entries_view c.args.variables.now) c.args.self.limit (map input_view c.args.definitions.now) (inputs_view c.deref.result.now) (erase_values (map argument_view c.args.arguments.now)) (map part_view c.deref-2.result.now)
    c.in_ok-entries.entries c.args.self.limit_is (ap inputs_view c.deref.ensures.value ∙ c.in_ok-definitions.ensures) (ap (map part_view) c.deref-2.ensures.value ∙ c.in_ok-parts.ensures) c.in_ok-entries.ensures
