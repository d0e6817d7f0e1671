-- Which of the names an offset means.
use Rattle.std.specs.Prelude.{ℕ, ◌==◌, ◌&&◌, nat_lt, nat_le, Bool, List, Option, find}
use Rattle.std.specs.Option.{option_or}
use Rattle.gq_mentions.specs.Mentions.{MentionOf}

-- its place holds the offset, or ends there
abbrev pub holds : ℕ → MentionOf → Bool
holds offset m = nat_le m.place.start offset && nat_lt offset m.place.end

abbrev pub ends_at : ℕ → MentionOf → Bool
ends_at offset m = m.place.end == offset

-- what an offset means: the first whose place holds it, else the first whose place ends there
abbrev pub meant : ℕ → List MentionOf → Option MentionOf
meant offset ms = option_or (find (holds offset) ms) (find (ends_at offset) ms)
