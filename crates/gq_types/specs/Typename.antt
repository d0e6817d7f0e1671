-- The field `__typename`, which every composite type has.
use Rattle.std.specs.Prelude.{codes}
use Rattle.gq_text.specs.declared.place.Span.{Span}
use Rattle.gq_tree.specs.Plain.{TypeOf, named, non_null}
use Rattle.gq_types.specs.BuiltIn.{name}

-- `__typename` is of the type `String!` (section 4.4)
abbrev pub typename_type : TypeOf Span
typename_type = non_null (named (name (codes "String")))
