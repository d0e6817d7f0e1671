-- What is answered where no schema is.
use Rattle.std.specs.Prelude.{List}
use Rattle.gq_project.specs.declared.document.Doc.{Doc}
use Rattle.gq_schema.specs.declared.schema.SchemaFault.{SchemaFault}
use Rattle.gq_schema.specs.declared.schema.SchemaFault.TheVariants as fault
use Rattle.gq_schema.specs.SchemaOf.{IsFaulty}

abbrev pub IsFaultOf : List Doc → SchemaFault → Type 0
IsFaultOf documents (fault.Faults found) = IsFaulty documents found.items
IsFaultOf documents fault.NoMemory = Unit {0}
