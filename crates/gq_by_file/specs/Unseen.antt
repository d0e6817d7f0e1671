-- A type system that becomes another one in what some operations and fragments do not see.
use Rattle.std.specs.Prelude.{◌≡◌, ◌↔◌, ℕ, Bool, false, List, [], ◌∷◌, Contains, Some, flat_map, slice_get, slice_index_or}
use Rattle.gq_text.specs.declared.place.Span.{Span}
use Rattle.gq_tree.specs.Plain.{Sels, Def, operation, fragment, type_system}
use Rattle.gq_tree.specs.Readings.{ParsedOf, definitions_read}
use Rattle.gq_fault.specs.declared.fault.Fault.{Fault}
use Rattle.gq_types.specs.Entries.{EntryOf}
use Rattle.gq_document.specs.Definitions.{OperationOf, FragmentOf}
use Rattle.gq_rules.specs.RuleFaults.{IsRuleFault}

-- No rule of operations and fragments tells the one type system from the other, where none of these sees what changed.
abbrev pub AreAlikeUnseen : (Sels Span → Bool) → (es us : List EntryOf) → Type 0
AreAlikeUnseen sees es us = (os : List OperationOf) (gs : List FragmentOf) → ((o : OperationOf) → Contains os o → sees o.set ≡ false) → ((g : FragmentOf) → Contains gs g → sees g.set ≡ false) →
    (f : Fault) → IsRuleFault (record { entries = es; operations = os; fragments = gs }) f ↔ IsRuleFault (record { entries = us; operations = os; fragments = gs }) f

-- the selections of an operation or a fragment (section 2.4)
abbrev pub sets_in : Def Span → List (Sels Span)
sets_in (operation kind name variables directives set braces place) = set ∷ []
sets_in (fragment name on directives set braces place) = set ∷ []
sets_in (type_system definition) = []

-- no operation and no fragment of a document sees it
abbrev pub SeesNothing : (Sels Span → Bool) → ParsedOf → Type 0
SeesNothing sees r = (set : Sels Span) → Contains (flat_map sets_in (definitions_read r)) set → sees set ≡ false

-- so of each document without a mark
abbrev pub SeeNothing : (Sels Span → Bool) → List ParsedOf → List Bool → Type 0
SeeNothing sees rs marks = (n : ℕ) (r : ParsedOf) → slice_get rs n ≡ Some r → slice_index_or marks n false ≡ false → SeesNothing sees r
