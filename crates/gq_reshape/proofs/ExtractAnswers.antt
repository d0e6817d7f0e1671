-- What extract finds, and its answers.
use Rattle.std.proofs.Common.{◌≡◌, ℕ, List, Option, Some, None, Result, Err, sym, ap, ◌∙◌, subst}
use Rattle.gq_text.specs.declared.place.Span.{Span}
use Rattle.gq_tree.specs.Plain.{Sels}
use Rattle.gq_project.specs.declared.document.Doc.{Doc}
use Rattle.gq_edit.specs.declared.edit.DocumentEdit.{DocumentEdit}
use Rattle.gq_tree.specs.Readings.{ParsedOf, readings_view}
use Rattle.gq_types.specs.Entries.{Text, EntryOf}
use Rattle.gq_types.specs.Look.{types_view}
use Rattle.gq_known.specs.Known.{IsKnown}
use Rattle.gq_index.specs.Occurrences.{executables}
use Rattle.gq_document.specs.Sets.{SetOf}
use Rattle.gq_laws.specs.Rewriting.Parts.{IsPartOf}
use Rattle.gq_select.specs.Runs.{RunOf}
use Rattle.gq_select.specs.Touched.{Touches}
use Rattle.gq_select.specs.TouchedPlace.{IsTouchedPlace}
use Rattle.gq_schema.specs.SchemaOf.{IsTypeSystemOf}
use Rattle.gq_rename.specs.Asks.{trees_of}
use Rattle.gq_rename.specs.declared.refusal.Refusal.{Refusal}
use Rattle.gq_rename.specs.declared.refusal.Refusal.TheVariants.{NothingHere, NoPossibleType}
use Rattle.gq_reshape.specs.declared.asked.Asked.{Asked}
use Rattle.gq_reshape.specs.declared.reshaping.Reshaping.TheVariants.{Extract}
use Rattle.gq_reshape.specs.Asks.{tree_at}
use Rattle.gq_reshape.specs.Cuts.{PassesCheck}
use Rattle.gq_reshape.specs.Extract.{HasNoObject, extract_at, innermost_at, run_at}
use Rattle.gq_reshape.specs.Naming.{IsLeastFree, extracted_name}
use Rattle.gq_reshape.specs.Passing.{ExtractsPass}
use Rattle.gq_reshape.specs.Reshape.{PassesLimits}
use Rattle.gq_reshape.specs.Helping.About.{IsAbout, IsRunOn, ask_of, sets_of_asked}
use Rattle.gq_reshape.specs.Helping.Judged.{IsJudged}
use Rattle.gq_reshape.specs.Helping.Making.{CanBeMade}
use Rattle.gq_reshape.specs.Helping.Steps.{IsNoRun, IsOffered, IsPossibleParent}
use Rattle.gq_reshape.proofs.ExtractOffers.{OneReading, no_token, no_run, run_without_type, made}
use Rattle.gq_reshape.proofs.Indexing.{are_readings}
use Rattle.gq_reshape.proofs.Making.{extract_made}
use Rattle.gq_reshape.proofs.Ready.{at_each, run_executable}
use Rattle.gq_reshape.proofs.TouchedPlaces.{touched_part}

module _ (asked : Asked) (about : IsAbout asked) where
  abbrev pub Documents : List Doc
  Documents = asked.valid.now

  abbrev pub Types : List EntryOf
  Types = types_view asked.known.types.now

  abbrev pub Readings : List ParsedOf
  Readings = (readings_view asked.known.readings.now)

  -- the run that is touched
  pub is_run : (place : Span) (parent : Option Text) (run : Sels Span) (on : Text) → Touches asked.document.now.text asked.range place → run_at place (sets_of_asked asked) ≡ Some (record { parent = parent; run = run }) → IsPossibleParent Types parent (Some on) →
      IsRunOn asked place on run
  is_run place parent run on touches e h = record {
    touches = touches;
    is_run = e ∙ ap (λ (p : Option Text). let r : RunOf = record { parent = p; run = run } in Some r) h.0;
    has_object = λ none. h.1 (subst (HasNoObject Types) (sym h.0) none);
  }

  pub run_part : (place : Span) (on : Text) (run : Sels Span) → IsRunOn asked place on run → IsPartOf asked.document.now.text place
  run_part place on run r = touched_part asked.document.now.text asked.range place (at_each (λ (d : Doc). Rattle.std.specs.Str.IsUtf8 d.text) Documents about.utf8 asked.file asked.document.now about.is_document.stands) r.touches

  pub run_made : (place : Span) (on : Text) (run : Sels Span) → IsRunOn asked place on run → (name : Text) → CanBeMade Documents Readings (extract_at asked.file asked.document.now.text place name on run)
  run_made place on run r name =
      extract_made Documents Readings asked.file asked.document.now about.is_document.stands
      (run_executable Types (tree_at Readings asked.file) place (record { parent = Some on; run = run }) r.is_run) place name on run (run_part place on run r)

  -- the run can go, where no edited text passes a limit
  pub passes : (place : Span) (on : Text) (run : Sels Span) → IsRunOn asked place on run → (number : ℕ) → IsLeastFree (executables Readings) number → IsKnown asked.known → ExtractsPass →
      (PassesLimits Documents (extract_at asked.file asked.document.now.text place (extracted_name number) on run) → ⊥) →
      PassesCheck Documents (trees_of Readings) (extract_at asked.file asked.document.now.text place (extracted_name number) on run)
  passes place on run r number least known pass small =
      let types : IsTypeSystemOf Documents Types = record { readings = Readings; are_readings = are_readings asked about known; is = known.is_type_system } in
      pass Documents about.in_order about.valid Readings (are_readings asked about known) (ask_of asked) Types types
      (record {
        touched = record { file = asked.file; document = asked.document.now; asked_of = about.is_document; place = place; touches = r.touches };
        parent = on;
        run = run;
        is_run = r.is_run;
        number = number;
        is_least = least;
      }) r.has_object small

  module _ (one_reading : OneReading) where
    pub untouched : (text : List ℕ) → text ≡ asked.document.now.text → IsTouchedPlace text asked.range None → IsOffered Extract asked (Err NothingHere)
    untouched text same none =
        no_token Documents Types Readings (ask_of asked) about.valid one_reading asked.file asked.document.now about.is_document
        (let T : List ℕ → Type 0 = λ t. (place : Span) → Touches t asked.range place → ⊥ in subst T same none)

    module _ (place : Span) (touches : Touches asked.document.now.text asked.range place) where
      pub without_run : (set : Option SetOf) (why : Refusal) → run_at place (sets_of_asked asked) ≡ None → innermost_at place (sets_of_asked asked) ≡ set → IsNoRun Types set why → IsOffered Extract asked (Err why)
      without_run = no_run Documents Types Readings (ask_of asked) about.valid one_reading asked.file asked.document.now about.is_document place touches

      pub without_type : (parent : Option Text) (run : Sels Span) → run_at place (sets_of_asked asked) ≡ Some (record { parent = parent; run = run }) → IsPossibleParent Types parent None → IsOffered Extract asked (Err NoPossibleType)
      without_type = run_without_type Documents Types Readings (ask_of asked) about.valid one_reading asked.file asked.document.now about.is_document place touches

    pub run_extracted : (place : Span) (on : Text) (run : Sels Span) → IsRunOn asked place on run → (number : ℕ) → IsLeastFree (executables Readings) number → (result : Result (List DocumentEdit) Refusal) →
        IsJudged Documents Readings (extract_at asked.file asked.document.now.text place (extracted_name number) on run) result → IsOffered Extract asked result
    run_extracted place on run r =
        made Documents Types Readings (ask_of asked) about.valid one_reading asked.file asked.document.now about.is_document place r.touches on run r.is_run r.has_object
