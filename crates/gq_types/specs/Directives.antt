-- The locations at which directives may stand (section 3.13).
use Rattle.std.specs.Prelude.{Bool, false, List, []}
use Rattle.std.specs.Option.{option_map_or}
use Rattle.std.specs.List.{list_any}
use Rattle.gq_text.specs.declared.place.Span.{Span}
use Rattle.gq_tree.specs.declared.type_system.DirectiveLocation.{DirectiveLocation}
use Rattle.gq_tree.specs.Plain.{TypeSystemOf, schema, type_definition, directive_definition}
use Rattle.gq_tree.specs.Same.{same_locations}
use Rattle.gq_types.specs.Entries.{Text, EntryOf}
use Rattle.gq_types.specs.Names.{directive_named}

-- the locations in the definition of a directive
abbrev pub locations_in : TypeSystemOf Span → List DirectiveLocation
locations_in (schema extends description directives roots place) = []
locations_in (type_definition extends description name directives body place) = []
locations_in (directive_definition description name arguments repeatable locations place) = locations

-- whether the directive of that name may stand at the location
abbrev pub stands_at_location : List EntryOf → Text → DirectiveLocation → Bool
stands_at_location es text location = option_map_or (λ d. list_any (same_locations location) (locations_in d)) (directive_named es text) false
