-- Documents that are read cannot be without an answer to an ask.
use Rattle.std.proofs.Common.{◌≡◌, ◌<◌, ◌^◌, ◌++◌, List, Option, Some, None, Result, length, refl, ap, ◌∙◌}
use Rattle.std.specs.Option.{option_map, option_or}
use Rattle.gq_text.specs.declared.place.Span.{Span}
use Rattle.gq_tree.specs.Plain.{Sels}
use Rattle.gq_tree.specs.Readings.{ParsedOf}
use Rattle.gq_project.specs.declared.document.Doc.{Doc}
use Rattle.gq_parse.specs.Parsed.{AreParsed}
use Rattle.gq_edit.specs.declared.edit.DocumentEdit.{DocumentEdit}
use Rattle.gq_types.specs.BuiltIn.{built_in}
use Rattle.gq_types.specs.Entries.{Text, EntryOf}
use Rattle.gq_document.specs.Definitions.{entries_of}
use Rattle.gq_document.specs.Sets.{SetOf}
use Rattle.gq_index.specs.Occurrences.{executables}
use Rattle.gq_select.specs.Runs.{RunOf}
use Rattle.gq_rename.specs.declared.refusal.Refusal.{Refusal}
use Rattle.gq_rename.specs.declared.refusal.Refusal.TheVariants.{NothingHere, NoPossibleType, NotSiblings, SelfCheck}
use Rattle.gq_rename.specs.Determined.{RenamesAreThere}
use Rattle.gq_rename.proofs.SomeOffer.{some_offer}
use Rattle.gq_reshape.specs.declared.offering.Ask.TheVariants.{Rename, Extract, Inline, Remove}
use Rattle.gq_reshape.specs.Asks.{RangeAsk}
use Rattle.gq_reshape.specs.Cuts.{edits_of}
use Rattle.gq_reshape.specs.Determined.{OffersAreThere}
use Rattle.gq_reshape.specs.Extract.{Touched, run_at, innermost_at, parent_in_question, sets_asked, Extraction, extract_cut}
use Rattle.gq_reshape.specs.Inline.{inline_cut}
use Rattle.gq_reshape.specs.Remove.{remove_cut}
use Rattle.gq_reshape.specs.Reshape.{RefusesExtract, RefusesInline, RefusesRemove, IsExtractEdit, IsInlineEdit, IsRemoveEdit, IsAnswerBy, IsExtractAnswer, IsInlineAnswer, IsRemoveAnswer}
use Rattle.gq_reshape.proofs.SomeNumber.{some_number}

module _ (documents : List Doc) (rs : List ParsedOf) (are : AreParsed documents rs) (ask : RangeAsk) where
  types : List EntryOf
  types = built_in ++ entries_of rs

  -- an answer over these is one
  some_answer : (Refuses : List Doc → List EntryOf → List ParsedOf → RangeAsk → Refusal → Type 0) (IsEditOf : List Doc → List EntryOf → List ParsedOf → RangeAsk → List DocumentEdit → Type 0) →
      (((why : Refusal) → Refuses documents types rs ask why → ⊥) → ((edits : List DocumentEdit) → IsEditOf documents types rs ask edits → ⊥) → ⊥) →
      ((answer : Result (List DocumentEdit) Refusal) → IsAnswerBy Refuses IsEditOf documents ask answer → ⊥) → ⊥
  unfolding types
  some_answer Refuses IsEditOf made none =
      some_offer (Refuses documents types rs ask) (IsEditOf documents types rs ask) made
      (λ answer offer. none answer (record { readings = rs; are_readings = are; types = types; is_type_system = record { readings = rs; are_readings = are; is = refl }; offer = offer }))

  pub some_inline : ((answer : Result (List DocumentEdit) Refusal) → IsInlineAnswer documents ask answer → ⊥) → ⊥
  some_inline =
      some_answer RefusesInline IsInlineEdit
      (λ refused unmade. refused NothingHere (λ i. refused SelfCheck (i, (λ passes. unmade (edits_of (inline_cut i) documents) (i, (refl, passes))))))

  pub some_remove : ((answer : Result (List DocumentEdit) Refusal) → IsRemoveAnswer documents ask answer → ⊥) → ⊥
  some_remove =
      some_answer RefusesRemove IsRemoveEdit
      (λ refused unmade. refused NothingHere (λ r. refused SelfCheck (r, (λ passes. unmade (edits_of (remove_cut r) documents) (r, (refl, passes))))))

  module _ (small : length (executables rs) < 2 ^ 63) (refused : (why : Refusal) → RefusesExtract documents types rs ask why → ⊥) (unmade : (edits : List DocumentEdit) → IsExtractEdit documents types rs ask edits → ⊥) (t : Touched documents ask) where
    abbrev Sets : List SetOf
    Sets = sets_asked types rs t

    in_question : (r : Option RunOf) (s : Option SetOf) → run_at t.place Sets ≡ r → innermost_at t.place Sets ≡ s → parent_in_question t.place Sets ≡ option_or (option_map (λ r. r.parent) r) (option_map (λ s. s.parent) s)
    in_question r s e f =
        ap (λ (o : Option RunOf). option_or (option_map (λ r. r.parent) o) (option_map (λ s. s.parent) (innermost_at t.place Sets))) e
        ∙ ap (λ (o : Option SetOf). option_or (option_map (λ r. r.parent) r) (option_map (λ s. s.parent) o)) f

    -- a run would be extracted
    no_run : (parent : Option Text) (run : Sels Span) → run_at t.place Sets ≡ Some (record { parent = parent; run = run }) → ⊥
    no_run None run e = refused NoPossibleType (record { touched = t; parent = None; in_question = in_question (Some (record { parent = None; run = run })) (innermost_at t.place Sets) e refl; no_object = tt })
    no_run (Some on) run e = some_number (executables rs) small (λ n least.
        let x : Extraction documents types rs ask = record { touched = t; parent = on; run = run; is_run = e; number = n; is_least = least } in
        refused SelfCheck (x, (λ passes. unmade (edits_of (extract_cut x) documents) (x, (refl, passes)))))

    no_set : (r : Option RunOf) (s : Option SetOf) → run_at t.place Sets ≡ r → innermost_at t.place Sets ≡ s → parent_in_question t.place Sets ≡ None
    no_set None None e f = in_question None None e f
    no_set None (Some set) e f = absurd (refused NotSiblings (record { touched = t; no_run = e; set = set; between = f }))
    no_set (Some r) s e f = absurd (no_run r.parent r.run e)

  pub some_extract : length (executables rs) < 2 ^ 63 → ((answer : Result (List DocumentEdit) Refusal) → IsExtractAnswer documents ask answer → ⊥) → ⊥
  some_extract small =
      some_answer RefusesExtract IsExtractEdit
      (λ refused unmade. refused NothingHere (λ t. no_set small refused unmade t (run_at t.place (sets_asked types rs t)) (innermost_at t.place (sets_asked types rs t)) refl refl))

pub offers_are_there : RenamesAreThere → OffersAreThere
offers_are_there renames documents rs are small (Rename key offset new_name) = renames documents rs are key.now offset new_name.now
offers_are_there renames documents rs are small (Extract key range) = some_extract documents rs are (record { key = key.now; range = range }) small
offers_are_there renames documents rs are small (Inline key range) = some_inline documents rs are (record { key = key.now; range = range })
offers_are_there renames documents rs are small (Remove key range) = some_remove documents rs are (record { key = key.now; range = range })
