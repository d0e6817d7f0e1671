-- What is true of all that is kept.
use Rattle.std.specs.Prelude.{List, Option, IfSome}
use Rattle.gq_project.specs.declared.document.Doc.{Doc}
use Rattle.gq_tree.specs.Readings.{SharedParsed, readings_view}
use Rattle.gq_types.specs.Look.{types_view}
use Rattle.gq_index.specs.declared.index.Index.{Index}
use Rattle.gq_index.specs.Indexed.{IsIndexOfProject}
use Rattle.gq_known.specs.Known.{AreKnown}
use Rattle.gq_kept.specs.declared.by_document.ByDocument.{ByDocument}
use Rattle.gq_kept.specs.declared.typed.Typed.{Typed}
use Rattle.gq_kept.specs.Helping.ByDocument.{AreByDocument}

pub record AreKept (documents : List Doc) (readings : List SharedParsed) (typed : Typed) (found : ByDocument) (index : Option Index) : Type 0 where
  pub known : ∥ AreKnown documents readings (types_view typed.types) typed.has_schema ∥₁
  pub owned : ∥ AreByDocument (types_view typed.types) (readings_view readings) found ∥₁
  pub indexed : ∥ IfSome index (IsIndexOfProject documents) ∥₁
