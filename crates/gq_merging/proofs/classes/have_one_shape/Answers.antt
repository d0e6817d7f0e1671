use Rattle.std.proofs.Common.{sym}
use Rattle.gq_tree.specs.Views.{type_view}
use Rattle.gq_types.specs.Look.{types_view}
use Rattle.gq_merging.specs.Helping.Views.{field_at}
use Rattle.gq_merging.proofs.ClassLemmas.{known_shapes}
use Rattle.gq_merging.proofs.classes.have_one_shape.Goals as goal

pub returns-in-Some-known_type : goal.returns-in-Some-known_type
returns-in-Some-known_type c =
    known_shapes (types_view c.args.tables.types.now) (field_at c.args.left.now) (field_at c.args.right.now) (type_view c.in-Some.left.now) (type_view c.in-Some-known_type.right.now)
    c.have_same_shape.result (sym c.in-Some.ensures) (sym c.in-Some-known_type.ensures) c.have_same_shape.ensures
