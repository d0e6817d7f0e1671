-- A value that is no list at a type: at the name that ends the type, and wrapped once for each list above it.
use Rattle.gq_text.specs.declared.place.Span.{Span}
use Rattle.gq_tree.specs.Plain.{TypeOf, named, list_of, non_null}
use Rattle.gq_coerce.specs.Coerced.{Coerced, wrapped}

abbrev pub wrapped_to : TypeOf Span → Coerced → Coerced
wrapped_to (named name) c = c
wrapped_to (list_of item) c = wrapped (wrapped_to item c)
wrapped_to (non_null inner) c = wrapped_to inner c
