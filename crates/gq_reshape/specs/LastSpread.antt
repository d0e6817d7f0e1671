-- When a fragment goes with a spread of it that is inlined, said of all spreads of the project (section 2.8).
use Rattle.std.specs.Prelude.{◌≡◌, ◌↔◌, List, [], ◌∷◌, Some}
use Rattle.gq_text.specs.declared.place.Span.{Span}
use Rattle.gq_tree.specs.Plain.{NameOf, DirectiveOf, spread}
use Rattle.gq_tree.specs.Readings.{ParsedOf}
use Rattle.gq_project.specs.declared.document.Doc.{Doc}
use Rattle.gq_types.specs.Entries.{EntryOf}
use Rattle.gq_document.specs.Definitions.{operations_of, fragments_of}
use Rattle.gq_document.specs.Selections.{SelectedOf, IsSelected}
use Rattle.gq_index.specs.Occurrences.{executables, fragment_spreads}
use Rattle.gq_reshape.specs.Asks.{RangeAsk}
use Rattle.gq_reshape.specs.Inline.{Inlining, inline_cut}

-- the definition goes with the spread
abbrev pub Goes : {documents : List Doc} {es : List EntryOf} {readings : List ParsedOf} {ask : RangeAsk} → Inlining documents es readings ask → Type 0
Goes i = (inline_cut i).rewrite.dropped ≡ Some (record { file = i.definition.file; place = i.definition.place })

-- of all spreads of that name in the project there is this one alone
abbrev pub IsAlone : {documents : List Doc} {es : List EntryOf} {readings : List ParsedOf} {ask : RangeAsk} → Inlining documents es readings ask → Type 0
IsAlone {readings = readings} i = fragment_spreads (executables readings) i.name.text ≡ record { file = i.file; span = i.name.place } ∷ []

-- no selection of the project that stands elsewhere is a spread of that name
abbrev pub NoOtherSpreads : {documents : List Doc} {es : List EntryOf} {readings : List ParsedOf} {ask : RangeAsk} → Inlining documents es readings ask → Type 0
NoOtherSpreads {es = es} {readings = readings} i = (s : SelectedOf) → IsSelected es (operations_of readings) (fragments_of readings) s →
    (name : NameOf Span) (directives : List (DirectiveOf Span)) (place : Span) → s.selection.label ≡ spread name directives place →
    name.text ≡ i.name.text → (s.file ≡ i.file) × (place ≡ i.place)

abbrev pub GoesExactlyAlone : Type 0
GoesExactlyAlone = (documents : List Doc) (es : List EntryOf) (readings : List ParsedOf) (ask : RangeAsk) (i : Inlining documents es readings ask) → Goes i ↔ IsAlone i

abbrev pub GoesWithTheLast : Type 0
GoesWithTheLast = (documents : List Doc) (es : List EntryOf) (readings : List ParsedOf) (ask : RangeAsk) (i : Inlining documents es readings ask) → Goes i → NoOtherSpreads i
