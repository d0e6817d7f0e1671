-- The bytes of a text, wherever it lies.
use Rattle.std.specs.Prelude.{ℕ, List}
use Rattle.gq_events.specs.declared.texts.Held.{Held}
use Rattle.gq_events.specs.declared.texts.Held.TheVariants as held

abbrev pub held_bytes : Held → List ℕ
held_bytes (held.Whole text) = text
held_bytes (held.Edited text) = text
