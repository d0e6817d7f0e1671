-- The bytes of a text that may be kept in its value. Only the view of `SmallText` speaks of it.
use Rattle.std.specs.Prelude.{ℕ, List, string_bytes}
use Rattle.gq_text.specs.declared.small.Kept.{Kept}
use Rattle.gq_text.specs.declared.small.Kept.TheVariants.{Here, Apart}

abbrev pub kept_bytes : Kept → List ℕ
kept_bytes (Here text) = text.bytes
kept_bytes (Apart text) = string_bytes text
