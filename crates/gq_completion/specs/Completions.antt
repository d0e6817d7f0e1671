-- What completes a text at an offset in bytes (LSP 3.17, "Completion Request").
use Rattle.std.specs.Prelude.{◌≡◌, ◌↔◌, ℕ, ◌≤◌, ◌^◌, false, List, Some, length, find, Contains}
use Rattle.std.specs.Cmp.Lexicographic.{slice_cmp}
use Rattle.std.specs.List.Sorted.{IsStrictlySortedBy}
use Rattle.std.specs.Ordering.{nat_cmp}
use Rattle.gq_text.specs.declared.place.Span.{Span}
use Rattle.gq_lex.specs.Tokens.{Lexeme, Reads}
use Rattle.gq_tree.specs.Plain.{NameOf, DirectiveOf, Sels, Def, fragment}
use Rattle.gq_project.specs.declared.document.Doc.{Doc}
use Rattle.gq_project.specs.Documents.{has_key}
use Rattle.gq_parse.specs.Derives.{Derives}
use Rattle.gq_types.specs.Entries.{Text, EntryOf}
use Rattle.gq_schema.specs.SchemaOf.{IsTypeSystemOf, HasNoFault}
use Rattle.gq_document.specs.Selections.{FieldOf, selected_field}
use Rattle.gq_completion.specs.declared.completion.Completion.{Completion}
use Rattle.gq_completion.specs.declared.completion.CompletionKind.{CompletionKind}
use Rattle.gq_completion.specs.declared.completion.CompletionKind.TheVariants.{Field, Variable, Fragment}
use Rattle.gq_completion.specs.Tokens.{typed_from, kind_at, IsOtherVariable}
use Rattle.gq_document.specs.Sets.{SetOf}
use Rattle.gq_completion.specs.Sets.{innermost, is_within_one}

-- the definition defines a fragment of that name (section 2.8)
pub data DefinesFragment (label : Text) : Def Span → Type 0 where
  defines : {name on : NameOf Span} {directives : List (DirectiveOf Span)} {set : Sels Span} {braces place : Span} →
      label ≡ name.text → DefinesFragment label (fragment name on directives set braces place)

-- the text has a tree, which defines a fragment of that name
pub record HasFragment (text label : Text) : Type 0 where
  pub tree : List (Def Span)
  pub derives : Derives text tree
  pub definition : Def Span
  pub among : Contains tree definition
  pub defines : DefinesFragment label definition

-- a document has a fragment of that name
pub record IsFragmentName (documents : List Doc) (label : Text) : Type 0 where
  pub document : Doc
  pub stands : Contains documents document
  pub has : HasFragment document.text label

-- A field of that name can be selected at the offset where p is typed from (section 5.3.1): p is not within a selection
-- of the innermost set, and its parent's type has the field.
pub record IsFieldIn (es : List EntryOf) (tree : List (Def Span)) (p i : ℕ) (label : Text) : Type 0 where
  pub set : SetOf
  pub stands_in : innermost es i tree ≡ Some set
  pub apart : is_within_one p set.selections ≡ false
  pub field : FieldOf
  pub has : selected_field es set.parent label ≡ Some field

-- the same of a document's tree in a project, by its type system, with which nothing is wrong
pub record IsFieldBy (documents : List Doc) (tree : List (Def Span)) (p i : ℕ) (label : Text) : Type 0 where
  pub entries : List EntryOf
  pub of_documents : IsTypeSystemOf documents entries
  pub no_fault : HasNoFault entries
  pub is : IsFieldIn entries tree p i label

-- the same in a text, which has a tree
pub record IsFieldName (documents : List Doc) (text : Text) (p i : ℕ) (label : Text) : Type 0 where
  pub tree : List (Def Span)
  pub derives : Derives text tree
  pub is : IsFieldBy documents tree p i label

abbrev pub IsName : List Doc → Text → List Lexeme → ℕ → CompletionKind → Text → Type 0
IsName documents text tokens i Fragment label = IsFragmentName documents label
IsName documents text tokens i Variable label = IsOtherVariable tokens i label
IsName documents text tokens i Field label = IsFieldName documents text (typed_from tokens i) i label

-- the text reads as tokens, and it is a name of what is typed at the offset
pub record Completes (documents : List Doc) (text : Text) (i : ℕ) (item : Completion) : Type 0 where
  pub tokens : List Lexeme
  pub reads : Reads text tokens
  pub few : length tokens ≤ 2 ^ 20
  pub kind : item.kind ≡ kind_at tokens i
  pub name : IsName documents text tokens i item.kind item.label

-- it completes the text of the document of that key
pub record CompletesAt (documents : List Doc) (key : List ℕ) (i : ℕ) (item : Completion) : Type 0 where
  pub document : Doc
  pub found : find (has_key key) documents ≡ Some document
  pub completes : Completes documents document.text i item

-- all that completes a document at an offset, in the order of the labels' bytes, each label once
pub record AreCompletions (documents : List Doc) (key : List ℕ) (i : ℕ) (items : List Completion) : Type 0 where
  pub sorted : IsStrictlySortedBy (λ a b. slice_cmp nat_cmp a.label b.label) items
  pub exact : (item : Completion) → Contains items item ↔ CompletesAt documents key i item
