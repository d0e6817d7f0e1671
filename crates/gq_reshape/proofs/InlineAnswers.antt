-- What inline finds, and its answers.
use Rattle.std.proofs.Common.{◌≡◌, ℕ, zero, suc, ◌<◌, Bool, true, ◌||◌, List, [], ◌∷◌, length, Some, None, Result, Err, Contains, slice_get, find, map, sym, subst, arith}
use Rattle.std.specs.List.{list_any}
use Rattle.std.specs.Str.{bytes_eq}
use Rattle.std.proofs.lemmas.List.{length-map}
use Rattle.gq_text.specs.declared.place.Span.{Span}
use Rattle.gq_tree.specs.declared.tree.Spread.{Spread}
use Rattle.gq_tree.specs.Plain.{DirectiveOf}
use Rattle.gq_tree.specs.Readings.{ParsedOf, definitions_read, readings_view}
use Rattle.gq_tree.specs.Views.{directive_view, name_of}
use Rattle.gq_project.specs.declared.document.Doc.{Doc}
use Rattle.gq_edit.specs.declared.edit.DocumentEdit.{DocumentEdit}
use Rattle.gq_types.specs.Entries.{EntryOf}
use Rattle.gq_types.specs.Look.{types_view}
use Rattle.gq_known.specs.Known.{IsKnown}
use Rattle.gq_types.proofs.Gathered.{found}
use Rattle.gq_document.specs.Definitions.{FragmentOf, fragments_of}
use Rattle.gq_document.specs.Selections.{SelectedOf}
use Rattle.gq_meaning.proofs.TextLemmas.{same_text}
use Rattle.gq_schema.specs.SchemaOf.{IsTypeSystemOf}
use Rattle.gq_laws.specs.Rewriting.Parts.{IsPartOf, DirectivesFit, HeadFits}
use Rattle.gq_laws.proofs.Rewriting.Executables.{Selected, fragment_def, fragment_stands}
use Rattle.gq_laws.proofs.Rewriting.ValidityLemmas.{NoneIsBoth}
use Rattle.gq_select.specs.Meant.{StandingOf, is_spread, meant}
use Rattle.gq_rename.specs.Asks.{trees_of}
use Rattle.gq_rename.specs.Rename.{IsTooLarge}
use Rattle.gq_rename.specs.declared.refusal.Refusal.{Refusal}
use Rattle.gq_rename.specs.declared.refusal.Refusal.TheVariants.{NothingHere, DirectiveInWay}
use Rattle.gq_reshape.specs.declared.asked.Asked.{Asked}
use Rattle.gq_reshape.specs.declared.reshaping.Reshaping.TheVariants.{Inline}
use Rattle.gq_reshape.specs.Asks.{tree_at}
use Rattle.gq_reshape.specs.Cuts.{edits_of, PassesCheck}
use Rattle.gq_reshape.specs.Inline.{has_directive, inline_at, is_in_way, is_only_spread}
use Rattle.gq_reshape.specs.Passing.{InlinesPass}
use Rattle.gq_reshape.specs.Helping.About.{IsAbout, IsDirectiveFree, IsSpreadOf, ask_of, sets_of_asked, spread_head}
use Rattle.gq_reshape.specs.Helping.Judged.{IsJudged}
use Rattle.gq_reshape.specs.Helping.Making.{CanBeMade, SomeExecutable}
use Rattle.gq_reshape.specs.Helping.Steps.{IsOffered}
use Rattle.gq_reshape.proofs.Asking.{at_place}
use Rattle.gq_reshape.proofs.Indexing.{are_readings}
use Rattle.gq_reshape.proofs.InlineOffers as offers
use Rattle.gq_reshape.proofs.LimitLemmas.{as_many}
use Rattle.gq_reshape.proofs.Making.{inline_made}
use Rattle.gq_reshape.proofs.Promised.{promised}
use Rattle.gq_reshape.proofs.Ready.{meant_executable, tree_is}
use Rattle.gq_reshape.proofs.Standing.{meant_stands, selected_asked}
use Rattle.gq_reshape.proofs.TextParts.{fragment_fits, fragment_some, selection_fits, spread_apart}

inside : {X : Type 0} (xs : List X) (i : ℕ) (x : X) → slice_get xs i ≡ Some x → i < length xs
inside [] i x e = absurd (cc)
inside (y ∷ xs) zero x e = omega arith
inside (y ∷ xs) (suc i) x e = let low = inside xs i x e in omega (arith, low)

module _ (asked : Asked) (about : IsAbout asked) where
  abbrev pub Documents : List Doc
  Documents = asked.valid.now

  abbrev pub Types : List EntryOf
  Types = types_view asked.known.types.now

  abbrev pub Readings : List ParsedOf
  Readings = (readings_view asked.known.readings.now)

  pub none_meant : meant is_spread asked.range (sets_of_asked asked) ≡ None → IsOffered Inline asked (Err NothingHere)
  none_meant = offers.none_meant Documents Types Readings (ask_of asked) about.valid asked.file asked.document.now about.is_document

  module _ (s : Spread) where
    abbrev pub Directives : List (DirectiveOf Span)
    Directives = map directive_view s.directives.items

    pub no_fragment : (selected : StandingOf) → meant is_spread asked.range (sets_of_asked asked) ≡ Some selected → selected.selection.label ≡ spread_head s → find (λ f. bytes_eq f.name.text (name_of s.name).text) (fragments_of Readings) ≡ None → IsOffered Inline asked (Err NothingHere)
    no_fragment selected is_meant is =
        offers.no_fragment Documents Types Readings (ask_of asked) about.valid asked.file asked.document.now about.is_document selected is_meant (name_of s.name) Directives s.span is

    module _ (f : FragmentOf) (of : IsSpreadOf asked s f) where
      stands : Contains (fragments_of Readings) f × (bytes_eq f.name.text (name_of s.name).text ≡ true)
      stands = found (λ (f : FragmentOf). bytes_eq f.name.text (name_of s.name).text) (fragments_of Readings) f of.is_definition

      named : f.name.text ≡ (name_of s.name).text
      named = same_text f.name.text (name_of s.name).text stands.1

      abbrev chosen : SelectedOf
      chosen = record { file = asked.file; parent = of.selected.parent; selection = of.selected.selection }

      selects : Selected Readings Types chosen
      selects = selected_asked Types Readings asked.file of.selected (meant_stands is_spread asked.range (sets_of_asked asked) of.selected of.is_meant)

      home_executable : SomeExecutable (tree_at Readings f.file)
      home_executable =
          let t = fragment_stands Readings f stands.0 in
          let some : SomeExecutable t.tree = record { definition = fragment_def f; stands = t.stands; is = tt } in
          subst SomeExecutable (sym (tree_is Readings f.file t.tree t.is_tree)) some

      module _ (known : IsKnown asked.known) where
        pub home_inside : f.file < length Documents
        home_inside =
            let t = fragment_stands Readings f stands.0 in
            let low = inside (trees_of Readings) f.file t.tree t.is_tree in
            let a = length-map Readings definitions_read in
            let b = as_many (are_readings asked about known) in
            omega (arith, low, a, b)

        abbrev pub Home : (home : Doc) × (slice_get Documents f.file ≡ Some home)
        Home = at_place Documents f.file home_inside

        head_fits : HeadFits asked.document.now.text (spread_head s)
        head_fits = subst (HeadFits asked.document.now.text) of.is_spread (selection_fits Documents Readings (are_readings asked about known) about.utf8 Types chosen selects asked.document.now about.is_document.stands)

        pub directives_fit : DirectivesFit asked.document.now.text 0 Directives
        directives_fit = head_fits.1

        pub braces_part : (home : Doc) → slice_get Documents f.file ≡ Some home → IsPartOf home.text f.braces
        braces_part home at = (fragment_fits Documents Readings (are_readings asked about known) about.utf8 f stands.0 home at).1

        pub spread_made : NoneIsBoth → (home : Doc) → slice_get Documents f.file ≡ Some home → (goes : Bool) → CanBeMade Documents Readings (inline_at asked.file asked.document.now.text Directives s.span f home.text goes)
        spread_made apart home at goes =
            let ranked = (promised apart Documents about.valid Readings (are_readings asked about known)).ranked in
            inline_made Documents Readings asked.file asked.document.now about.is_document.stands (meant_executable Types (tree_at Readings asked.file) is_spread asked.range of.selected of.is_meant) f home at home_executable Directives s.span head_fits.0
            (fragment_fits Documents Readings (are_readings asked about known) about.utf8 f stands.0 home at).0 (fragment_some Documents Readings (are_readings asked about known) ranked.0 ranked.1 f stands.0)
            (λ same. spread_apart Documents Readings (are_readings asked about known) ranked.0 ranked.1 f stands.0 Types chosen selects (name_of s.name) Directives s.span of.is_spread named same) goes

        pub in_way : (list_any is_in_way Directives || has_directive f.directives) ≡ true → IsOffered Inline asked (Err DirectiveInWay)
        in_way =
            offers.in_way Documents Types Readings (ask_of asked) about.valid asked.file asked.document.now about.is_document of.selected of.is_meant (name_of s.name) Directives s.span of.is_spread f of.is_definition Home.0 Home.1

        -- where no limit is passed, it can become an inline fragment
        pub passes : InlinesPass → IsDirectiveFree Directives f → (home : Doc) → slice_get Documents f.file ≡ Some home →
            (IsTooLarge Documents (edits_of (inline_at asked.file asked.document.now.text Directives s.span f home.text (is_only_spread Readings (name_of s.name).text)) Documents) → ⊥) →
            PassesCheck Documents (trees_of Readings) (inline_at asked.file asked.document.now.text Directives s.span f home.text (is_only_spread Readings (name_of s.name).text))
        passes pass free home at =
            let types : IsTypeSystemOf Documents Types = record { readings = Readings; are_readings = are_readings asked about known; is = known.is_type_system } in
            pass Documents about.in_order about.valid Readings (are_readings asked about known) (ask_of asked) Types types
            (offers.own Documents Types Readings (ask_of asked) about.valid asked.file asked.document.now about.is_document of.selected of.is_meant (name_of s.name) Directives s.span of.is_spread f of.is_definition home at)
            (offers.own_not Documents Types Readings (ask_of asked) about.valid asked.file asked.document.now about.is_document of.selected of.is_meant (name_of s.name) Directives s.span of.is_spread f of.is_definition home at free)

      pub spread_inlined : IsDirectiveFree Directives f → (home : Doc) → slice_get Documents f.file ≡ Some home → (result : Result (List DocumentEdit) Refusal) →
          IsJudged Documents Readings (inline_at asked.file asked.document.now.text Directives s.span f home.text (is_only_spread Readings (name_of s.name).text)) result → IsOffered Inline asked result
      spread_inlined free home at =
          offers.made Documents Types Readings (ask_of asked) about.valid asked.file asked.document.now about.is_document of.selected of.is_meant (name_of s.name) Directives s.span of.is_spread f of.is_definition home at free
