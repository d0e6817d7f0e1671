-- A text in which names are replaced reads as the tree with those names changed.
use Rattle.std.specs.Prelude.{◌≡◌, ℕ, List, []}
use Rattle.std.specs.Str.{IsUtf8}
use Rattle.gq_text.specs.declared.place.Span.{Span}
use Rattle.gq_text.specs.declared.replacement.Replacement.{Replacement}
use Rattle.gq_text.specs.Replaced.{replaced}
use Rattle.gq_lex.specs.declared.token.Kind.TheVariants as kind
use Rattle.gq_lex.specs.Tokens.{IsToken}
use Rattle.gq_tree.specs.Plain.{Def, erase_document}
use Rattle.gq_parse.specs.Derives.{Derives}
use Rattle.gq_edit.specs.Replacements.{AreDisjoint, FitText}
use Rattle.gq_renamed.specs.Renamings.{Renaming, MayName}
use Rattle.gq_renamed.specs.Renamed.{rename_document}
use Rattle.gq_renamed.specs.Changed.{changed_in_document, replacements_of}

-- the replacements that a rename makes in the text of a document
abbrev pub rename_replacements : (ℕ → Renaming) → ℕ → List ℕ → List (Def Span) → List Replacement
rename_replacements rule k new document = replacements_of new (changed_in_document rule k document)

-- What is true of them: they are in order and overlap nowhere, they cut no character, and the edited text has a tree, which is that of the text
-- before, places forgotten, with the names changed.
pub record Rewrites (rule : ℕ → Renaming) (k : ℕ) (new text : List ℕ) (document : List (Def Span)) : Type 0 where
  pub disjoint : AreDisjoint (rename_replacements rule k new document)
  pub fit : IsUtf8 text → FitText text (rename_replacements rule k new document)
  pub tree : List (Def Span)
  pub derives : Derives (replaced (rename_replacements rule k new document) text) tree
  pub renamed : erase_document tree ≡ rename_document rule k new (erase_document document)

-- For every text with a tree and every rule, where the new text is a Name (section 2.1.9) that may stand at each name that it replaces.
abbrev pub RenamedTextsRead : Type 0
RenamedTextsRead =
    (rule : ℕ → Renaming) (k : ℕ) (new text : List ℕ) (document : List (Def Span)) → Derives text document → IsToken kind.Name new [] → ((n : ℕ) → MayName (rule n) new) →
    Rewrites rule k new text document
