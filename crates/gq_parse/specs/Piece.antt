-- What contracts see of a piece of a document: whose text it is, and the text.
use Rattle.std.specs.Prelude.{ℕ, List}

pub record PieceOf : Type 0 where
  pub key : List ℕ
  pub text : List ℕ
