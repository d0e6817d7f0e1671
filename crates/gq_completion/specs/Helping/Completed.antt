-- What completes one text, computed.
use Rattle.std.specs.Prelude.{◌↔◌, ℕ, List, Contains}
use Rattle.std.specs.Cmp.Lexicographic.{slice_cmp}
use Rattle.std.specs.List.Sorted.{IsStrictlySortedBy}
use Rattle.std.specs.Ordering.{nat_cmp}
use Rattle.gq_lex.specs.Tokens.{Lexeme}
use Rattle.gq_project.specs.declared.document.Doc.{Doc}
use Rattle.gq_types.specs.Entries.{Text}
use Rattle.gq_completion.specs.declared.completion.Completion.{Completion}
use Rattle.gq_completion.specs.declared.completion.CompletionKind.{CompletionKind}
use Rattle.gq_completion.specs.Completions.{IsName, Completes}

-- these are the names of a kind that can stand at the offset of a text
abbrev pub AreNames : List Doc → Text → List Lexeme → ℕ → CompletionKind → List Text → Type 0
AreNames documents text tokens i kind names = (label : Text) → Contains names label ↔ IsName documents text tokens i kind label

pub record AreCompleted (documents : List Doc) (text : Text) (i : ℕ) (items : List Completion) : Type 0 where
  pub sorted : IsStrictlySortedBy (λ a b. slice_cmp nat_cmp a.label b.label) items
  pub exact : (item : Completion) → Contains items item ↔ Completes documents text i item
