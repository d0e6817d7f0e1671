-- What contracts see of what is kept of a project.
use Rattle.std.specs.Prelude.{Bool, List}
use Rattle.gq_project.specs.declared.document.Doc.{Doc}

-- the documents, whether they are indexed, and whether it is known if they are valid
pub record KeptOf : Type 0 where
  pub documents : List Doc
  pub is_indexed : Bool
  pub is_judged : Bool

-- the documents, and whether it is known if they are valid
pub record JudgedOf : Type 0 where
  pub documents : List Doc
  pub is_judged : Bool
