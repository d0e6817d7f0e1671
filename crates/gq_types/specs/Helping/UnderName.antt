-- What stands under a name.
use Rattle.std.specs.Prelude.{List, Option, position, slice_get, option_and_then}
use Rattle.std.specs.Str.{bytes_eq}
use Rattle.gq_types.specs.Entries.{Text}

-- of a list of names and a list of what stands under each
abbrev pub under_name : {A : Type 0} → List Text → List A → Text → Option A
under_name names values text = option_and_then (λ i. slice_get values i) (position (bytes_eq text) names)
