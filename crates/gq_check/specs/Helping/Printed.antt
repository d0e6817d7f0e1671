-- What is printed on standard error, and the status. Only contracts of private functions speak of it.
use Rattle.std.specs.Prelude.{◌≡◌, ℕ, List, Option}
use Rattle.gq_check.specs.Checks.{SinkAfter, Wrote, WroteInPart}

-- all of it, or a front of it, with the status 3
pub data PrintsError (error : List ℕ) (wanted : ℕ) (held : Option (List ℕ)) (sink : SinkAfter) (status : ℕ) : Type 0 where
  in_full : Wrote held sink error → status ≡ wanted → PrintsError error wanted held sink status
  in_part : WroteInPart held sink error → status ≡ 3 → PrintsError error wanted held sink status
