-- A schema has a root type for queries (section 3.3.1).
use Rattle.std.specs.Prelude.{◌≡◌, ◌≢◌, List, None, Contains}
use Rattle.gq_text.specs.declared.place.Span.{Span}
use Rattle.gq_fault.specs.declared.code.Code.TheVariants.{NoQueryRoot}
use Rattle.gq_fault.specs.declared.fault.Fault.{Fault}
use Rattle.gq_tree.specs.declared.tree.OperationKind.TheVariants.{Query}
use Rattle.gq_tree.specs.Plain.{RootOf}
use Rattle.gq_types.specs.Entries.{EntryOf}
use Rattle.gq_types.specs.Joined.{In, schema_number}
use Rattle.gq_types.specs.Roots.{roots_of, default_root}

-- it is told at the beginning of the first document
abbrev pub no_query_root_fault : Fault
no_query_root_fault = record { file = 0; start = 0; code = NoQueryRoot; end = 0 }

-- neither a default root nor an entry of the schema or of its extensions is for queries
pub record HasNoQueryRoot (es : List EntryOf) (fault : Fault) : Type 0 where
  pub no_default : default_root es Query ≡ None
  pub no_entry : (root : In (RootOf Span)) → Contains (roots_of es (schema_number es)) root → root.it.kind ≢ Query
  pub is : fault ≡ no_query_root_fault
