-- Which places of a name are gathered.
use Rattle.std.specs.Prelude.{Bool, List, IsTrue, ◌⊎◌}
use Rattle.gq_index.specs.declared.occurrence.Occurrence.{Occurrence}
use Rattle.gq_index.specs.Occurrences.{DefinitionOf}
use Rattle.gq_mentions.specs.Mentions.{MentionOf}
use Rattle.gq_query.specs.References.{IsUse, IsDeclaration}

abbrev pub IsWanted : List DefinitionOf → Bool → Bool → MentionOf → Occurrence → Type 0
IsWanted ds uses declarations m o = (IsTrue uses × IsUse ds m.kind m.name.text m.definition o) ⊎ (IsTrue declarations × IsDeclaration ds m.kind m.name.text m.definition o)
