-- A fragment goes with a spread that is the only one of it in the project.
use Rattle.std.proofs.Common.{◌≡◌, ℕ, Bool, true, false, List, [], ◌∷◌, length, Option, Some, None, Contains, refl, sym, ap, subst, arith, nat_eq}
use Rattle.std.specs.Prelude.{if◌then◌else◌}
use Rattle.std.specs.Str.{bytes_eq}
use Rattle.std.proofs.lemmas.Bool.Decides.{nat_tests}
use Rattle.gq_text.specs.declared.place.Span.{Span}
use Rattle.gq_tree.specs.Forest.{labels}
use Rattle.gq_tree.specs.Names.{spread_name, spread_names}
use Rattle.gq_tree.specs.Plain as tree
use Rattle.gq_tree.specs.Plain.{NameOf, DirectiveOf, Def, Sels, operation, fragment, type_system}
use Rattle.gq_tree.specs.Readings.{ParsedOf}
use Rattle.gq_project.specs.declared.document.Doc.{Doc}
use Rattle.gq_types.specs.Entries.{Text, EntryOf}
use Rattle.gq_types.proofs.Gathered.{nothing_in, only, first, from_flat, to_flat, to_map, to_filter}
use Rattle.gq_document.specs.Definitions.{OperationOf, FragmentOf, operation_in, fragment_in, operations_of, fragments_of}
use Rattle.gq_document.specs.Selections.{SelectedOf, IsSelected, IsSelectionWithin, of_operation, of_fragment}
use Rattle.gq_index.specs.declared.occurrence.Occurrence.{Occurrence}
use Rattle.gq_index.specs.Occurrences.{DefinitionOf, executables, spreads_in, called, occurrences_of, fragment_spreads}
use Rattle.gq_meaning.proofs.TextLemmas.{text_itself}
use Rattle.gq_rewritten.specs.Rewrites.{DefinitionPlace}
use Rattle.gq_laws.proofs.Renaming.ExecutableLemmas.{fragments_same, operations_same}
use Rattle.gq_select.specs.Meant.{is_spread, document_sets}
use Rattle.gq_reshape.specs.Asks.{RangeAsk, tree_at}
use Rattle.gq_reshape.specs.Inline.{Inlining}
use Rattle.gq_reshape.specs.LastSpread.{Goes, IsAlone, NoOtherSpreads, GoesExactlyAlone, GoesWithTheLast}
use Rattle.gq_reshape.proofs.Promised.{label_in}
use Rattle.gq_reshape.proofs.Spreads.{one_spread}
use Rattle.gq_reshape.proofs.Standing.{meant_stands, selected_asked}

-- where a name stands
abbrev at : ℕ → NameOf Span → Occurrence
at file name = record { file = file; span = name.place }

-- a list of one item, which is in it
one_listed : (all : List Occurrence) (o : Occurrence) → length all ≡ 1 → Contains all o → all ≡ o ∷ []
one_listed [] o e c = nothing_in o c
one_listed (x ∷ []) o e c = ap (λ (z : Occurrence). z ∷ []) (sym (only x o c))
one_listed (x ∷ y ∷ all) o e c = absurd (omega (arith, e))

module _ (rs : List ParsedOf) (es : List EntryOf) (text : Text) where
  in_definition : (d : DefinitionOf) → Contains (executables rs) d → (name : NameOf Span) → Contains (spreads_in d.definition) name → bytes_eq text name.text ≡ true → Contains (fragment_spreads (executables rs) text) (at d.file name)
  in_definition d there name c e =
      to_flat (λ (x : DefinitionOf). occurrences_of x.file text (spreads_in x.definition)) (executables rs) d (at d.file name) there
      (to_map (at d.file) (called text (spreads_in d.definition)) name (to_filter (λ (n : NameOf Span). bytes_eq text n.text) (spreads_in d.definition) name c e))

  of_file : (file k : ℕ) (name : NameOf Span) → file ≡ k → Contains (fragment_spreads (executables rs) text) (at k name) → Contains (fragment_spreads (executables rs) text) (at file name)
  of_file file k name e c = subst (λ (n : ℕ). Contains (fragment_spreads (executables rs) text) (at n name)) (sym e) c

  in_operation : (o : OperationOf) → Contains (operations_of rs) o → (name : NameOf Span) → Contains (spread_names o.set) name → bytes_eq text name.text ≡ true → Contains (fragment_spreads (executables rs) text) (at o.file name)
  in_operation o c name there e =
      let w = from_flat (λ (d : DefinitionOf). operation_in d.file d.definition) (executables rs) o (subst (λ (l : List OperationOf). Contains l o) (sym (operations_same rs)) c) in
      by w.0 w.0.definition refl w.1 w.2
    where
      by : (d : DefinitionOf) (x : Def Span) → d.definition ≡ x → Contains (executables rs) d → Contains (operation_in d.file x) o → Contains (fragment_spreads (executables rs) text) (at o.file name)
      by d (operation kind own variables directives set braces place) q m i =
          let it : OperationOf = record { file = d.file; kind = kind; name = own; variables = variables; directives = directives; set = set; braces = braces; place = place } in
          let same : o ≡ it = only it o i in
          let inside : Contains (spread_names set) name = subst (λ (p : OperationOf). Contains (spread_names p.set) name) same there in
          of_file o.file d.file name (ap (λ (p : OperationOf). p.file) same) (in_definition d m name (subst (λ (x : Def Span). Contains (spreads_in x) name) (sym q) inside) e)
      by d (fragment own on directives set braces place) q m i = nothing_in o i
      by d (type_system definition) q m i = nothing_in o i

  in_fragment : (f : FragmentOf) → Contains (fragments_of rs) f → (name : NameOf Span) → Contains (spread_names f.set) name → bytes_eq text name.text ≡ true → Contains (fragment_spreads (executables rs) text) (at f.file name)
  in_fragment f c name there e =
      let w = from_flat (λ (d : DefinitionOf). fragment_in d.file d.definition) (executables rs) f (subst (λ (l : List FragmentOf). Contains l f) (sym (fragments_same rs)) c) in
      by w.0 w.0.definition refl w.1 w.2
    where
      by : (d : DefinitionOf) (x : Def Span) → d.definition ≡ x → Contains (executables rs) d → Contains (fragment_in d.file x) f → Contains (fragment_spreads (executables rs) text) (at f.file name)
      by d (fragment own on directives set braces place) q m i =
          let it : FragmentOf = record { file = d.file; name = own; on = on; directives = directives; set = set; braces = braces; place = place } in
          let same : f ≡ it = only it f i in
          let inside : Contains (spread_names set) name = subst (λ (p : FragmentOf). Contains (spread_names p.set) name) same there in
          of_file f.file d.file name (ap (λ (p : FragmentOf). p.file) same) (in_definition d m name (subst (λ (x : Def Span). Contains (spreads_in x) name) (sym q) inside) e)
      by d (operation kind own variables directives set braces place) q m i = nothing_in f i
      by d (type_system definition) q m i = nothing_in f i

  -- the name of a spread, and names at any depth
  own_name : (s : SelectedOf) (name : NameOf Span) (directives : List (DirectiveOf Span)) (place : Span) → s.selection.label ≡ tree.spread name directives place → Contains (spread_name s.selection.label) name
  own_name s name directives place e = subst (λ (h : tree.Head Span). Contains (spread_name h) name) (sym e) (first name name [] refl)

  name_below : {parent inner : Option Text} {sels : Sels Span} {x : tree.Sel Span} → IsSelectionWithin es parent sels inner x → (name : NameOf Span) → Contains (spread_name x.label) name → Contains (spread_names sels) name
  name_below {sels = sels} {x = x} w name c = to_flat spread_name (labels sels) x.label name (label_in w) c

  pub spread_there : (s : SelectedOf) → IsSelected es (operations_of rs) (fragments_of rs) s → (name : NameOf Span) (directives : List (DirectiveOf Span)) (place : Span) → s.selection.label ≡ tree.spread name directives place → bytes_eq text name.text ≡ true →
      Contains (fragment_spreads (executables rs) text) (at s.file name)
  spread_there s (of_operation {o = o} c w) name directives place e t = of_file s.file o.file name w.0 (in_operation o c name (name_below w.1 name (own_name s name directives place e)) t)
  spread_there s (of_fragment {f = f} c w) name directives place e t = of_file s.file f.file name w.0 (in_fragment f c name (name_below w.1 name (own_name s name directives place e)) t)

-- whether it goes
goes : (place : DefinitionPlace) (b : Bool) → (if b then Some place else None) ≡ Some place → b ≡ true
goes place true e = refl
goes place false e = cc

module _ (documents : List Doc) (es : List EntryOf) (rs : List ParsedOf) (ask : RangeAsk) (i : Inlining documents es rs ask) where
  abbrev asked : SelectedOf
  asked = record { file = i.file; parent = i.selected.parent; selection = i.selected.selection }

  selects : IsSelected es (operations_of rs) (fragments_of rs) asked
  selects = selected_asked es rs i.file i.selected (meant_stands is_spread ask.range (document_sets es (tree_at rs i.file)) i.selected i.is_meant)

  abbrev count : ℕ
  count = length (fragment_spreads (executables rs) i.name.text)

  one : Goes i → count ≡ 1
  one e =
      let t : nat_eq count 1 ≡ true = goes (record { file = i.definition.file; place = i.definition.place }) (nat_eq count 1) e in
      same count 1 t
    where
      same : (a b : ℕ) → nat_eq a b ≡ true → a ≡ b
      same a b t = grind (arith, nat_tests, t)

  alone : Goes i → IsAlone i
  alone e = one_listed (fragment_spreads (executables rs) i.name.text) (at i.file i.name) (one e) (spread_there rs es i.name.text asked selects i.name i.directives i.place i.is_spread (text_itself i.name.text))

  gone : IsAlone i → Goes i
  gone e =
      let t : nat_eq count 1 ≡ true = ap (λ (all : List Occurrence). nat_eq (length all) 1) e in
      let place : DefinitionPlace = record { file = i.definition.file; place = i.definition.place } in
      ap (λ (b : Bool). if b then Some place else None) t

  no_other : Goes i → NoOtherSpreads i
  no_other e s c name directives place label named =
      let both = one_spread rs es i.name.text (one e) s asked c selects name i.name directives i.directives place i.place label i.is_spread named refl in
      both

pub goes_exactly_alone : GoesExactlyAlone
goes_exactly_alone documents es rs ask i = (alone documents es rs ask i, gone documents es rs ask i)

pub goes_with_the_last : GoesWithTheLast
goes_with_the_last documents es rs ask i = no_other documents es rs ask i
