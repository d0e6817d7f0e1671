-- A response (section 7.1).
use Rattle.std.specs.Prelude.{List}
use Rattle.gq_meaning.specs.Results.{Path}
use Rattle.gq_meaning.specs.Shown.{Data}

-- data with errors, or a request error
pub data ResponseOf : Type 0 where
  request_error : ResponseOf
  answered : (data_of : Data) → (errors : List Path) → ResponseOf
