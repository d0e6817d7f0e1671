-- What only helps to compare the readings before and after an edit.
use Rattle.std.specs.Prelude.{ℕ, Bool, false, ◌||◌, nat_eq}
use Rattle.std.specs.Option.{option_map_or}
use Rattle.gq_rewritten.specs.Rewrites.{Rewrite}

-- whether something may change in the document of that number
abbrev pub is_edited : Rewrite → ℕ → Bool
is_edited r file = nat_eq r.file file || option_map_or (λ d. nat_eq d.file file) r.dropped false
