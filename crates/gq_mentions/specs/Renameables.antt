-- What can be renamed in a document: the names of fragments, at their definitions (section 2.8) and spreads (section
-- 2.8.1), and variables, at their definitions (section 2.10) and uses (section 5.8).
use Rattle.std.specs.Prelude.{ℕ, Bool, List, Option, Some, None, is_some, filter}
use Rattle.gq_text.specs.declared.place.Span.{Span}
use Rattle.gq_tree.specs.Plain.{Def}
use Rattle.gq_mentions.specs.declared.mention.MentionKind.{MentionKind}
use Rattle.gq_mentions.specs.declared.mention.MentionKind.TheVariants as mention
use Rattle.gq_mentions.specs.declared.target.TargetKind.{TargetKind}
use Rattle.gq_mentions.specs.declared.target.TargetKind.TheVariants as target
use Rattle.gq_mentions.specs.Mentions.{MentionOf, mentions}

-- the kinds of names that a rename can change
abbrev pub target_kind : MentionKind → Option TargetKind
target_kind mention.Fragment = Some target.Fragment
target_kind mention.Variable = Some target.Variable
target_kind mention.Field = None
target_kind mention.Condition = None

abbrev pub can_be_renamed : MentionOf → Bool
can_be_renamed m = is_some (target_kind m.kind)

-- in a document, whose first executable definition has that number
abbrev pub renameables : ℕ → List (Def Span) → List MentionOf
renameables n ds = filter can_be_renamed (mentions n ds)
