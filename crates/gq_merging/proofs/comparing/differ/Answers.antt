use Rattle.std.proofs.Common.{IsTrue, ◌↔◌, sym, subst}
use Rattle.gq_types.specs.Look.{types_view}
use Rattle.gq_merging.specs.FieldsMerge.{Differ}
use Rattle.gq_merging.specs.Helping.Views.{field_at}
use Rattle.gq_merging.proofs.CompareLemmas.{shapes_apart}
use Rattle.gq_merging.proofs.comparing.differ.Goals as goal

pub returns-in-Shapes : goal.returns-in-Shapes
returns-in-Shapes c =
    subst (λ p. IsTrue c.shapes_differ.result ↔ Differ (types_view c.args.types.now) p (field_at c.args.left.now) (field_at c.args.right.now)) (sym c.in-Shapes.is)
    (subst (λ b. IsTrue b ↔ Differ (types_view c.args.types.now) _ (field_at c.args.left.now) (field_at c.args.right.now)) (sym c.shapes_differ.ensures)
    (shapes_apart (types_view c.args.types.now) (field_at c.args.left.now) (field_at c.args.right.now)))
