-- What is told of the directives at one place, computed.
use Rattle.std.specs.Prelude.{List, []}
use Rattle.gq_fault.specs.declared.fault.Fault.{Fault}
use Rattle.gq_types.specs.Entries.{EntryOf}
use Rattle.gq_values.specs.DirectivePlaces.{directive_faults}
use Rattle.gq_fields.specs.Directives.{Site}

abbrev pub wrong_directives_at : List EntryOf → Site → List Fault
wrong_directives_at es site = directive_faults es site.file site.location [] site.directives
