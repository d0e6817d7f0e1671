-- What an offset means to a rename.
use Rattle.std.specs.Prelude.{ℕ, List, Option, option_and_then}
use Rattle.std.specs.Option.{option_map}
use Rattle.gq_text.specs.declared.place.Span.{Span}
use Rattle.gq_tree.specs.declared.tree.Name.{Name}
use Rattle.gq_tree.specs.Plain.{NameOf}
use Rattle.gq_mentions.specs.declared.target.Target.{Target}
use Rattle.gq_mentions.specs.Mentions.{MentionOf}
use Rattle.gq_mentions.specs.Meant.{meant}
use Rattle.gq_mentions.specs.Renameables.{target_kind}

abbrev pub token_of : NameOf Span → Name
token_of name = record { text = name.text; span = name.place }

-- the target that a name is, where it can be renamed
abbrev pub as_target : MentionOf → Option Target
as_target m = option_map (λ kind. record { kind = kind; span = m.place; name = token_of m.name; definition = m.definition }) (target_kind m.kind)

-- the target of an offset: of what can be renamed, what the offset means
abbrev pub target : ℕ → List MentionOf → Option Target
target offset ms = option_and_then as_target (meant offset ms)
