-- What the code's readings stand for.
use Rattle.gq_tree.specs.Views.{type_view}
use Rattle.gq_values.specs.declared.expected_type.ExpectedType.{ExpectedType}
use Rattle.gq_values.specs.declared.expected_type.ExpectedType.TheVariants as read
use Rattle.gq_values.specs.Literals.{Expected, at_type, at_any}

abbrev pub expected_view : ExpectedType → Expected
expected_view (read.AtType t) = at_type (type_view t.now)
expected_view read.AtAny = at_any
