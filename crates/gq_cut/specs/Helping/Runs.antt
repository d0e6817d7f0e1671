-- The edits of documents from places in the order of documents, computed.
use Rattle.std.specs.Prelude.{ℕ, ◌+◌, ◌==◌, Bool, List, [], ◌∷◌, ◌++◌, map, take, drop, slice_get}
use Rattle.std.specs.List.{prefix_len, flat_map}
use Rattle.std.specs.Option.{option_map_or}
use Rattle.gq_text.specs.declared.place.Span.{Span}
use Rattle.gq_text.specs.declared.replacement.Replacement.{Replacement}
use Rattle.gq_tree.specs.Plain.{NameOf, Def}
use Rattle.gq_project.specs.declared.document.Doc.{Doc}
use Rattle.gq_edit.specs.declared.edit.DocumentEdit.{DocumentEdit}
use Rattle.gq_edit.specs.Replacements.{AreDisjoint}
use Rattle.gq_types.specs.Entries.{Text}
use Rattle.gq_index.specs.declared.occurrence.Occurrence.{Occurrence}
use Rattle.gq_index.specs.Occurrences.{DefinitionOf, occurrences_in_file, definitions_in, uses_in}
use Rattle.gq_renamed.specs.Renamings.{Renaming}
use Rattle.gq_renamed.specs.Changed.{changed_in_document}
use Rattle.gq_renamed.specs.Projects.{edit_if_any, number_behind}

abbrev pub stands_in : ℕ → Occurrence → Bool
stands_in file o = o.file == file

-- the first places that stand in that document, and those behind them
abbrev pub run : ℕ → List Occurrence → List Occurrence
run file os = take (prefix_len (stands_in file) os) os

abbrev pub behind : ℕ → List Occurrence → List Occurrence
behind file os = drop (prefix_len (stands_in file) os) os

abbrev pub replacements_at : List ℕ → List Occurrence → List Replacement
replacements_at new os = map (λ o. record { span = o.span; text = new }) os

-- the edits of these documents, the first of which has the given number
abbrev pub edits_at : List ℕ → ℕ → List Doc → List Occurrence → List DocumentEdit
edits_at new file [] os = []
edits_at new file (document ∷ documents) os = edit_if_any document (replacements_at new (run file os)) ++ edits_at new (file + 1) documents (behind file os)

-- the places in one document do not overlap
abbrev pub AreApart : List ℕ → ℕ → List Doc → List Occurrence → Type 0
AreApart new file [] os = Unit {0}
AreApart new file (document ∷ documents) os = AreDisjoint (replacements_at new (run file os)) × AreApart new (file + 1) documents (behind file os)

-- the places of the names that a rename changes in these trees, the first of which has the given number
abbrev pub occurrences_at : ℕ → List (NameOf Span) → List Occurrence
occurrences_at file names = map (λ n. record { file = file; span = n.place }) names

abbrev pub changed_occurrences : (ℕ → Renaming) → ℕ → ℕ → List (List (Def Span)) → List Occurrence
changed_occurrences rule k file [] = []
changed_occurrences rule k file (tree ∷ trees) = occurrences_at file (changed_in_document rule k tree) ++ changed_occurrences rule (number_behind tree k) (file + 1) trees

-- where the variable of that name stands in a definition, at its definitions and uses
abbrev pub variable_occurrences : DefinitionOf → Text → List Occurrence
variable_occurrences d text = occurrences_in_file d.file (definitions_in d.definition text ++ uses_in d.definition text)

-- in the definitions of these numbers
abbrev pub group_occurrences : List DefinitionOf → List ℕ → Text → List Occurrence
group_occurrences ds group text = flat_map (λ n. option_map_or (λ d. variable_occurrences d text) (slice_get ds n) []) group
