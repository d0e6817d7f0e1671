-- What an offset in a document of a project means to a query.
use Rattle.std.specs.Prelude.{◌≡◌, ℕ, ◌+◌, List, [], ◌∷◌, ◌++◌, Option, Some, nat_eq, position, option_and_then, if◌then◌else◌}
use Rattle.gq_project.specs.declared.document.Doc.{Doc}
use Rattle.gq_project.specs.Documents.{has_key}
use Rattle.gq_index.specs.Occurrences.{DefinitionOf}
use Rattle.gq_mentions.specs.Mentions.{MentionOf, mentions_in}
use Rattle.gq_mentions.specs.Meant.{meant}

-- what is named in the executable definitions of the document of that number; the definitions are numbered from n on
abbrev pub mentions_of : ℕ → ℕ → List DefinitionOf → List MentionOf
mentions_of file n [] = []
mentions_of file n (d ∷ ds) = (if nat_eq d.file file then mentions_in n d.definition else []) ++ mentions_of file (n + 1) ds

-- What the offset means in the document of that key; nothing where the documents have no such key. A document without a
-- tree has no definitions, so nothing is named there.
abbrev pub asked : List Doc → List DefinitionOf → List ℕ → ℕ → Option MentionOf
asked documents ds key offset = option_and_then (λ file. meant offset (mentions_of file 0 ds)) (position (has_key key) documents)

-- what the offset means, of which something holds
pub record AtMention (documents : List Doc) (ds : List DefinitionOf) (key : List ℕ) (offset : ℕ) (Holds : MentionOf → Type 0) : Type 0 where
  pub mention : MentionOf
  pub here : asked documents ds key offset ≡ Some mention
  pub holds : Holds mention
