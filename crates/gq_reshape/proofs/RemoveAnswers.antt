-- What remove finds, and its answers.
use Rattle.std.proofs.Common.{◌≡◌, false, List, Option, Some, None, Result, Err, map, subst}
use Rattle.std.specs.Option.{option_map}
use Rattle.gq_text.specs.declared.place.Span.{Span}
use Rattle.gq_tree.specs.declared.tree.InlineFragment.{InlineFragment}
use Rattle.gq_tree.specs.Plain.{DirectiveOf, NameOf}
use Rattle.gq_tree.specs.Views.{directive_view, name_of}
use Rattle.gq_project.specs.declared.document.Doc.{Doc}
use Rattle.gq_edit.specs.declared.edit.DocumentEdit.{DocumentEdit}
use Rattle.gq_tree.specs.Readings.{ParsedOf, readings_view}
use Rattle.gq_types.specs.Entries.{EntryOf}
use Rattle.gq_types.specs.Look.{types_view}
use Rattle.gq_known.specs.Known.{IsKnown}
use Rattle.gq_document.specs.Selections.{SelectedOf}
use Rattle.gq_laws.specs.Rewriting.Parts.{IsPartOf, HeadFits, between}
use Rattle.gq_laws.proofs.Rewriting.Executables.{Selected}
use Rattle.gq_select.specs.Meant.{StandingOf, is_inline, meant}
use Rattle.gq_rename.specs.declared.refusal.Refusal.{Refusal}
use Rattle.gq_rename.specs.declared.refusal.Refusal.TheVariants.{NothingHere, NotRedundant}
use Rattle.gq_reshape.specs.declared.asked.Asked.{Asked}
use Rattle.gq_reshape.specs.declared.reshaping.Reshaping.TheVariants.{Remove}
use Rattle.gq_schema.specs.SchemaOf.{IsTypeSystemOf}
use Rattle.gq_rename.specs.Asks.{trees_of}
use Rattle.gq_reshape.specs.Asks.{tree_at}
use Rattle.gq_reshape.specs.Cuts.{PassesCheck}
use Rattle.gq_reshape.specs.Passing.{RemovalsPass}
use Rattle.gq_reshape.specs.Remove.{remove_at, says_nothing}
use Rattle.gq_reshape.specs.Helping.About.{IsAbout, IsInlineAsked, ask_of, inline_head, sets_of_asked}
use Rattle.gq_reshape.specs.Helping.Judged.{IsJudged}
use Rattle.gq_reshape.specs.Helping.Making.{CanBeMade}
use Rattle.gq_reshape.specs.Helping.Steps.{IsOffered}
use Rattle.gq_reshape.proofs.Indexing.{are_readings}
use Rattle.gq_reshape.proofs.Making.{remove_made}
use Rattle.gq_reshape.proofs.Ready.{meant_executable}
use Rattle.gq_reshape.proofs.RemoveOffers as offers
use Rattle.gq_reshape.proofs.Standing.{meant_stands, selected_asked}
use Rattle.gq_reshape.proofs.TextParts.{selection_fits}

module _ (asked : Asked) (about : IsAbout asked) where
  abbrev pub Documents : List Doc
  Documents = asked.valid.now

  abbrev pub Types : List EntryOf
  Types = types_view asked.known.types.now

  abbrev pub Readings : List ParsedOf
  Readings = (readings_view asked.known.readings.now)

  pub none_meant : meant is_inline asked.range (sets_of_asked asked) ≡ None → IsOffered Remove asked (Err NothingHere)
  none_meant = offers.none_meant Documents Types Readings (ask_of asked) about.valid asked.file asked.document.now about.is_document

  module _ (i : InlineFragment) where
    abbrev pub On : Option (NameOf Span)
    On = option_map name_of i.on

    abbrev pub Directives : List (DirectiveOf Span)
    Directives = map directive_view i.directives.items

    pub says_something : (selected : StandingOf) → meant is_inline asked.range (sets_of_asked asked) ≡ Some selected → selected.selection.label ≡ inline_head i → says_nothing On Directives selected.parent ≡ false → IsOffered Remove asked (Err NotRedundant)
    says_something selected is_meant is =
        offers.says_something Documents Types Readings (ask_of asked) about.valid asked.file asked.document.now about.is_document selected is_meant On Directives i.set.span i.span is

    module _ (of : IsInlineAsked asked i) where
      abbrev chosen : SelectedOf
      chosen = record { file = asked.file; parent = of.selected.parent; selection = of.selected.selection }

      selects : Selected Readings Types chosen
      selects = selected_asked Types Readings asked.file of.selected (meant_stands is_inline asked.range (sets_of_asked asked) of.selected of.is_meant)

      module _ (known : IsKnown asked.known) where
        head_fits : HeadFits asked.document.now.text (inline_head i)
        head_fits = subst (HeadFits asked.document.now.text) of.is_inline (selection_fits Documents Readings (are_readings asked about known) about.utf8 Types chosen selects asked.document.now about.is_document.stands)

        pub braces_part : IsPartOf asked.document.now.text (between i.set.span)
        braces_part = head_fits.1

        pub inline_opened : CanBeMade Documents Readings (remove_at asked.file asked.document.now.text i.span i.set.span)
        inline_opened =
            remove_made Documents Readings asked.file asked.document.now about.is_document.stands (meant_executable Types (tree_at Readings asked.file) is_inline asked.range of.selected of.is_meant) i.span i.set.span head_fits.0

        -- what is opened can go
        pub passes : RemovalsPass → PassesCheck Documents (trees_of Readings) (remove_at asked.file asked.document.now.text i.span i.set.span)
        passes pass =
            let types : IsTypeSystemOf Documents Types = record { readings = Readings; are_readings = are_readings asked about known; is = known.is_type_system } in
            pass Documents about.in_order about.valid Readings (are_readings asked about known) (ask_of asked) Types types
            (offers.own Documents Types Readings (ask_of asked) about.valid asked.file asked.document.now about.is_document of.selected of.is_meant On Directives i.set.span i.span of.is_inline)
            (offers.own_not Documents Types Readings (ask_of asked) about.valid asked.file asked.document.now about.is_document of.selected of.is_meant On Directives i.set.span i.span of.is_inline of.says)

      pub removed : (result : Result (List DocumentEdit) Refusal) → IsJudged Documents Readings (remove_at asked.file asked.document.now.text i.span i.set.span) result → IsOffered Remove asked result
      removed =
          offers.made Documents Types Readings (ask_of asked) about.valid asked.file asked.document.now about.is_document of.selected of.is_meant On Directives i.set.span i.span of.is_inline of.says
