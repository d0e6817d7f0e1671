-- Selections stand below a field exactly where it has braces, and never below a spread (sections 2.4, 2.5 and 2.8).
use Rattle.std.proofs.Common.{◌≡◌, ℕ, ◌+◌, inl, inr, true, List, [], ◌∷◌, Option, refl, sym, subst, is_some, Contains}
use Rattle.std.specs.Prelude.{flat_map}
use Rattle.std.specs.List.{AllByRecursion, enumerate_from}
use Rattle.std.proofs.lemmas.List.Elements.{Contains-append_cases}
use Rattle.gq_text.specs.declared.place.Span.{Span}
use Rattle.gq_tree.specs.Forest.{none, more}
use Rattle.gq_tree.specs.Plain.{Head, Sel, Sels, Def, operation, fragment, type_system}
use Rattle.gq_parse.specs.Grammar as grammar
use Rattle.gq_parse.specs.Grammar.{Tokens, IsSelection, a_field, a_spread, an_inline, IsOptionalSet, no_set, a_set, IsSelectionSet, IsSelections, set_closed, selection, IsOperationDefinition, bare, typed, IsFragmentDefinition, fragment_on}
use Rattle.gq_parse.specs.Documents.{IsDefinition, an_operation, a_fragment, a_type_system_definition, IsDocument, at_end, definition}
use Rattle.gq_project.specs.declared.document.Doc.{Doc}
use Rattle.gq_tree.specs.Readings as reading
use Rattle.gq_parse.specs.Parsed as readings
use Rattle.gq_parse.specs.Parsed.{IsParsed, AreParsed}
use Rattle.gq_types.proofs.Gathered.{nothing_in, only, from_flat, cases_cons}
use Rattle.gq_types.specs.Entries.{Text, EntryOf}
use Rattle.gq_tree.specs.Readings.{ParsedOf, definitions_read, in_document}
use Rattle.gq_document.specs.Definitions.{OperationOf, FragmentOf, operation_in, fragment_in, operations_of, fragments_of}
use Rattle.gq_document.specs.Selections.{SelectedOf, IsSelectionWithin, here, within, after, IsSelected, of_operation, of_fragment}
use Rattle.gq_laws.specs.Rewriting.Braces.{holds_any, IsBraced}

abbrev pub AreBraced : Sels Span → Type 0
AreBraced none = Unit {0}
AreBraced (more head below rest) = IsBraced head below × AreBraced below × AreBraced rest

mutual
  selection_braced : {head : Head Span} {below : Sels Span} {tokens rest : Tokens} → IsSelection head below tokens rest → IsBraced head below × AreBraced below
  selection_braced (a_field a b c named arguments directives set) = optional_braced set
  selection_braced (a_spread a b mark named directives) = (refl, tt)
  selection_braced (an_inline a b c mark condition directives set) = set_braced set

  optional_braced : {place : Option Span} {ss : Sels Span} {tokens rest : Tokens} → IsOptionalSet place ss tokens rest → (is_some place ≡ holds_any ss) × AreBraced ss
  optional_braced (no_set free) = (refl, tt)
  optional_braced (a_set set) = let r = set_braced set in (sym r.0, r.1)

  set_braced : {ss : Sels Span} {tokens rest : Tokens} → IsSelectionSet ss tokens rest → (holds_any ss ≡ true) × AreBraced ss
  set_braced (grammar.braces a mark items) = (refl, selections_braced items)

  selections_braced : {ss : Sels Span} {tokens rest : Tokens} → IsSelections ss tokens rest → AreBraced ss
  selections_braced (set_closed mark) = tt
  selections_braced (selection a one others) = let r = selection_braced one in (r.0, r.1, selections_braced others)

-- the selections of a definition
abbrev IsBracedIn : Def Span → Type 0
IsBracedIn (operation kind name variables directives set braces place) = AreBraced set
IsBracedIn (fragment name on directives set braces place) = AreBraced set
IsBracedIn (type_system one) = Unit {0}

operation_braced : {d : Def Span} {tokens rest : Tokens} → IsOperationDefinition d tokens rest → IsBracedIn d
operation_braced (bare set) = (set_braced set).1
operation_braced (typed a b c d word named variables directives set) = (set_braced set).1

fragment_braced : {d : Def Span} {tokens rest : Tokens} → IsFragmentDefinition d tokens rest → IsBracedIn d
fragment_braced (fragment_on a b c d place word named condition directives set) = (set_braced set).1

definition_braced : {d : Def Span} {tokens rest : Tokens} → IsDefinition d tokens rest → IsBracedIn d
definition_braced (an_operation h) = operation_braced h
definition_braced (a_fragment h) = fragment_braced h
definition_braced (a_type_system_definition h) = tt

document_braced : {ds : List (Def Span)} {tokens : Tokens} → IsDocument ds tokens → AllByRecursion IsBracedIn ds
document_braced at_end = tt
document_braced (definition a one others) = (definition_braced one, document_braced others)

reading_braced : (text : List ℕ) (r : ParsedOf) → IsParsed text r → AllByRecursion IsBracedIn (definitions_read r)
reading_braced text (reading.tree document) derives = document_braced derives.derived
reading_braced text (reading.syntax place) fault = tt
reading_braced text (reading.limit place) fault = tt

readings_braced : {documents : List Doc} {rs : List ParsedOf} → AreParsed documents rs → AllByRecursion (λ r. AllByRecursion IsBracedIn (definitions_read r)) rs
readings_braced readings.none = tt
readings_braced (readings.more {document = document} {one = one} is are) = (reading_braced document.text one is, readings_braced are)

-- what holds of each of these holds of one of them
each_one : {A : Type 0} (P : A → Type 0) (xs : List A) (x : A) → AllByRecursion P xs → Contains xs x → P x
each_one P [] x h c = nothing_in x c
each_one P (y ∷ ys) x h c = elim (cases_cons y x ys c) [
  | inl e ↦ subst P e h.0
  | inr d ↦ each_one P ys x h.1 d
]

-- a definition of a kind stands in one of the documents
stands_in : {A : Type 0} (what : ℕ → Def Span → List A) (P : ParsedOf → Type 0) (k : ℕ) (rs : List ParsedOf) (x : A) → AllByRecursion P rs → Contains (flat_map (λ r. in_document what r.0 r.1) (enumerate_from k rs)) x →
    (file : ℕ) × (r : ParsedOf) × P r × Contains (in_document what file r) x
stands_in what P k [] x h c = nothing_in x c
stands_in what P k (r ∷ rs) x h c = elim (Contains-append_cases (in_document what k r) (flat_map (λ r. in_document what r.0 r.1) (enumerate_from (k + 1) rs)) x c) [
  | inl a ↦ (k, r, h.0, a)
  | inr b ↦ stands_in what P (k + 1) rs x h.1 b
]

operation_of_definition : (file : ℕ) (d : Def Span) (o : OperationOf) → IsBracedIn d → Contains (operation_in file d) o → AreBraced o.set
operation_of_definition file (operation kind name variables directives set braces place) o h c =
    let same = only (record { file = file; kind = kind; name = name; variables = variables; directives = directives; set = set; braces = braces; place = place }) o c in
    subst (λ (p : OperationOf). AreBraced p.set) (sym same) h
operation_of_definition file (fragment name on directives set braces place) o h c = nothing_in o c
operation_of_definition file (type_system one) o h c = nothing_in o c

fragment_of_definition : (file : ℕ) (d : Def Span) (f : FragmentOf) → IsBracedIn d → Contains (fragment_in file d) f → AreBraced f.set
fragment_of_definition file (operation kind name variables directives set braces place) f h c = nothing_in f c
fragment_of_definition file (fragment name on directives set braces place) f h c =
    let same = only (record { file = file; name = name; on = on; directives = directives; set = set; braces = braces; place = place }) f c in
    subst (λ (p : FragmentOf). AreBraced p.set) (sym same) h
fragment_of_definition file (type_system one) f h c = nothing_in f c

pub operations_braced : {documents : List Doc} {rs : List ParsedOf} → AreParsed documents rs → (o : OperationOf) → Contains (operations_of rs) o → AreBraced o.set
operations_braced {rs = rs} are o c =
    let r = stands_in operation_in (λ r. AllByRecursion IsBracedIn (definitions_read r)) 0 rs o (readings_braced are) c in
    let d = from_flat (operation_in r.0) (definitions_read r.1) o r.3 in
    operation_of_definition r.0 d.0 o (each_one IsBracedIn (definitions_read r.1) d.0 r.2 d.1) d.2

pub fragments_braced : {documents : List Doc} {rs : List ParsedOf} → AreParsed documents rs → (f : FragmentOf) → Contains (fragments_of rs) f → AreBraced f.set
fragments_braced {rs = rs} are f c =
    let r = stands_in fragment_in (λ r. AllByRecursion IsBracedIn (definitions_read r)) 0 rs f (readings_braced are) c in
    let d = from_flat (fragment_in r.0) (definitions_read r.1) f r.3 in
    fragment_of_definition r.0 d.0 f (each_one IsBracedIn (definitions_read r.1) d.0 r.2 d.1) d.2

-- each selection that stands among these
braced_within : {es : List EntryOf} {parent inner : Option Text} {ss : Sels Span} {s : Sel Span} → IsSelectionWithin es parent ss inner s → AreBraced ss → IsBraced s.label s.below
braced_within here braced = braced.0
braced_within (within s) braced = braced_within s braced.1
braced_within (after s) braced = braced_within s braced.2

pub selected_braced : {documents : List Doc} {rs : List ParsedOf} → AreParsed documents rs → (es : List EntryOf) (s : SelectedOf) → IsSelected es (operations_of rs) (fragments_of rs) s → IsBraced s.selection.label s.selection.below
selected_braced are es s (of_operation {o = o} there is) = braced_within is.1 (operations_braced are o there)
selected_braced are es s (of_fragment {f = f} there is) = braced_within is.1 (fragments_braced are f there)
