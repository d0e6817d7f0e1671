-- How a Name is spelled, as a test. Only a private function's contract speaks of it.
use Rattle.std.specs.Prelude.{ℕ, Bool, false, List, [], ◌∷◌, ◌&&◌}
use Rattle.std.specs.List.{list_all}
use Rattle.gq_lex.specs.Bytes.{is_name_start, is_name_continue}

abbrev pub is_name_spelled : List ℕ → Bool
is_name_spelled [] = false
is_name_spelled (b ∷ bs) = is_name_start b && list_all is_name_continue bs
