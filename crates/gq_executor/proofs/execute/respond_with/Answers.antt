use Rattle.std.proofs.Common.{◌≡◌, ap, sym, map, subst}
use Rattle.gq_types.specs.Look.{types_view}
use Rattle.gq_meaning.specs.Acyclic.{Rankable}
use Rattle.gq_meaning.specs.Selected.{set_of}
use Rattle.gq_document.specs.Definitions.{operation_view, fragments_view}
use Rattle.gq_table.specs.Views.{entries_view, rows_view}
use Rattle.gq_collect.specs.Fragments.{definition_of}
use Rattle.gq_response.specs.Views.{response_view}
use Rattle.gq_executor.proofs.Roots.{answered_same}
use Rattle.gq_executor.proofs.execute.respond_with.Goals as goal

pub respond_in-requires : goal.respond_in-requires
respond_in-requires c = subst (λ fs. Rankable (map definition_of (fragments_view fs)) (set_of (operation_view c.args.operation.now).set)) (sym c.in_ok-fragments.ensures) c.requires.ranked

pub returns : goal.returns
returns c =
    answered_same (types_view c.args.coercion.types.now) (types_view c.args.x.types.now) (rows_view c.args.table.now) (entries_view c.args.variables.now) (map definition_of (fragments_view c.in_ok-fragments.fragments.all.now)) (map definition_of (fragments_view c.args.x.fragments.now))
    c.args.operation.now.definition.now.kind (set_of (operation_view c.args.operation.now).set) (response_view c.in_ok-response.response) c.requires.types (ap (λ fs. map definition_of (fragments_view fs)) c.in_ok-fragments.ensures) c.in_ok-response.ensures
