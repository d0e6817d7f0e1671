-- What the rule of fields that merge promises to execution (sections 5.3.2 and 6.3.2): the fields that are asked of one object
-- under one response key have one name.
use Rattle.std.specs.Prelude.{List, Contains}
use Rattle.gq_project.specs.declared.document.Doc.{Doc}
use Rattle.gq_tree.specs.Readings.{ParsedOf}
use Rattle.gq_parse.specs.Parsed.{AreParsed}
use Rattle.gq_document.specs.Definitions.{OperationOf}
use Rattle.gq_document.specs.Executable.{ExecutableOf}
use Rattle.gq_rules.specs.Project.{executable_of}
use Rattle.gq_rules.specs.Validity.{IsValid}
use Rattle.gq_table.specs.Rows.{RowOf}
use Rattle.gq_meaning.specs.Values.{Values}
use Rattle.gq_meaning.specs.Selected.{set_of}
use Rattle.gq_meaning.specs.Response.{root}
pub use Rattle.gq_meaning.specs.Rewritten.{HasSubtypes, NamesAgree}
pub use Rattle.gq_laws.specs.Rewriting.Statics.{static_of}
use Rattle.gq_collect.specs.Given.{given_in}
use Rattle.gq_executor.specs.Operations.{fragments_in, root_name}

-- Over any table and values, the fields that an operation asks for under one key of an object have one name, if the fields of each
-- object have subtypes of what they have in the types for which it is possible.
abbrev pub OperationAgrees : ExecutableOf → OperationOf → List RowOf → Values → Type 0
OperationAgrees x o rows values =
    HasSubtypes (static_of x.entries) (given_in x.entries rows values) → NamesAgree (given_in x.entries rows values) (fragments_in x) (root (root_name x o) (set_of o.set))

-- So it is for each operation of a valid project.
abbrev pub NamesAgreeInValid : Type 0
NamesAgreeInValid = (documents : List Doc) → ∥ IsValid documents ∥₁ → (readings : List ParsedOf) → AreParsed documents readings →
    (o : OperationOf) → Contains (executable_of readings).operations o → (rows : List RowOf) (values : Values) → OperationAgrees (executable_of readings) o rows values
