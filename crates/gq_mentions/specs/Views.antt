-- What the code's names stand for.
use Rattle.std.specs.Prelude.{List, map}
use Rattle.gq_tree.specs.Views.{name_of}
use Rattle.gq_mentions.specs.declared.mention.Mention.{Mention}
use Rattle.gq_mentions.specs.Mentions.{MentionOf}

abbrev pub mention_view : Mention → MentionOf
mention_view m = record { kind = m.kind; place = m.span; name = name_of m.name.now; definition = m.definition }

abbrev pub mentions_view : List Mention → List MentionOf
mentions_view ms = map mention_view ms
