-- An extract reads as the rewritten trees and leaves a valid project.
use Rattle.std.proofs.Common.{◌≡◌, ◌⊎◌, inl, inr, ℕ, ◌+◌, Bool, true, false, List, [], ◌∷◌, ◌++◌, Option, Some, None, Result, Err, refl, sym, ap, ◌∙◌, subst, nat_eq, append_assoc, arith}
use Rattle.std.specs.Prelude.{if◌then◌else◌, slice_get, slice_range, length, drop, map}
use Rattle.std.specs.List.{filter}
use Rattle.std.specs.Option.{option_map, option_or}
use Rattle.std.proofs.lemmas.Bool.Decides.{nat_tests}
use Rattle.std.proofs.lemmas.Grind.{not_there}
use Rattle.gq_text.specs.declared.place.Span.{Span}
use Rattle.gq_text.specs.declared.replacement.Replacement.{Replacement}
use Rattle.gq_text.specs.Replaced.{replaced}
use Rattle.gq_tree.specs.Forest.{row}
use Rattle.gq_tree.specs.Plain.{Sel, Sels, Def, fragment, no_place, place_def, erase_all, erase_document}
use Rattle.gq_tree.specs.declared.tree.OperationKind.{OperationKind}
use Rattle.gq_tree.specs.Readings.{ParsedOf, definitions_read}
use Rattle.gq_project.specs.declared.document.Doc.{Doc}
use Rattle.gq_project.specs.Documents.{IsInOrder}
use Rattle.gq_edit.specs.declared.edit.DocumentEdit.{DocumentEdit}
use Rattle.gq_parse.specs.Derives.{Derives}
use Rattle.gq_parse.specs.Limits.{PassesLimitAt}
use Rattle.gq_parse.specs.Parsed.{AreParsed}
use Rattle.gq_parse.proofs.OneReading.{OneTree}
use Rattle.gq_types.specs.Entries.{Text, EntryOf}
use Rattle.gq_types.specs.Possible.{IsPossible}
use Rattle.gq_document.specs.Definitions.{entries_of}
use Rattle.gq_document.specs.Sets.{SetOf}
use Rattle.gq_schema.specs.SchemaOf.{IsTypeSystemOf}
use Rattle.gq_meaning.specs.Rewritten.{Static}
use Rattle.gq_meaning.specs.Thin.{IsIn}
use Rattle.gq_renamed.specs.Names.{IsNameText}
use Rattle.gq_renamed.specs.Projects.{AreTrees}
use Rattle.gq_renamed.specs.Helping.Spelling.{is_name_spelled}
use Rattle.gq_renamed.proofs.Spellings.{spelled_as_name}
use Rattle.gq_rules.specs.Project.{type_system_of, executable_of}
use Rattle.gq_rules.specs.RuleFaults.{IsRuleFault}
use Rattle.gq_rules.specs.Validity.{IsValid}
use Rattle.gq_rewritten.specs.Rewrites.{Rewrite, bare_name, is_kept, rewritten_document, rewritten_from, with_extracted, with_set}
use Rattle.gq_laws.specs.Cutting.Extracted.{extracted, ReadsWithFragment, ExtractedTextsRead}
use Rattle.gq_laws.specs.Cutting.Standing.{EndsWithin, all_of_it, in_braces, behind_it, HasRun}
use Rattle.gq_laws.specs.Cutting.Texts.{spread_text, fragment_text}
use Rattle.gq_laws.specs.Placing.Types.{IsFaultless}
use Rattle.gq_laws.proofs.Renaming.Promises.{nothing_demanded}
use Rattle.gq_laws.proofs.Renaming.ValidityLemmas.{no_rule}
use Rattle.gq_laws.proofs.RenamedValid.Reading.{HaveTrees, trees_read as trees_are}
use Rattle.gq_laws.specs.Rewriting.KnownBefore.{EndsSet, ends_here, ends_within, ends_after}
use Rattle.gq_laws.specs.Rewriting.Documents.{EndsSetIn}
use Rattle.gq_laws.specs.Rewriting.Edits.{HasDocument, RunAt, extraction, CanExtract}
use Rattle.gq_laws.specs.Rewriting.Statics.{static_of, roots_in}
use Rattle.gq_laws.specs.Rewriting.Unchanged.{RestatedProjectsKeepResponses}
use Rattle.gq_laws.specs.RewrittenValid.Extracted.{ExtractsKeepAllRules}
use Rattle.gq_laws.proofs.Rewriting.Executables.{contains}
use Rattle.gq_laws.proofs.Rewriting.Named.{name_free}
use Rattle.gq_laws.proofs.Rewriting.Projects.{project_in_place, sound}
use Rattle.gq_laws.proofs.Rewriting.Selected.{row_in}
use Rattle.gq_laws.proofs.Rewriting.ValidityLemmas.{NoneIsBoth}
use Rattle.gq_rename.specs.declared.refusal.Refusal.{Refusal}
use Rattle.gq_rename.specs.declared.refusal.Refusal.TheVariants.{NoPossibleType, TooLarge, SelfCheck, NoMemory}
use Rattle.gq_select.specs.Meant.{document_sets}
use Rattle.gq_select.specs.Runs.{RunOf}
use Rattle.gq_reshape.specs.Asks.{RangeAsk, tree_at}
use Rattle.gq_reshape.specs.Cuts.{Cut, PassesCheck}
use Rattle.gq_reshape.specs.Extract.{Extraction, extract_cut, HasNoObject, innermost_at, parent_in_question, sets_asked}
use Rattle.gq_reshape.specs.Naming.{extracted_name}
use Rattle.gq_reshape.specs.Passing.{AnswersPass, ExtractsPass}
use Rattle.gq_reshape.specs.Placed.{replacements_in}
use Rattle.gq_reshape.specs.Reshape.{PassesLimits, IsExtractAnswer}
use Rattle.gq_reshape.specs.declared.placed.PlacedReplacement.{PlacedReplacement}
use Rattle.gq_reshape.specs.Helping.Rereading.{is_edited}
use Rattle.gq_reshape.proofs.Changed.{types_are}
use Rattle.gq_reshape.proofs.Extracted.{extracted_keeping, tree_there}
use Rattle.gq_reshape.proofs.ExtractedNames.{extracted_is_name}
use Rattle.gq_reshape.proofs.LimitLemmas.{text_too_large}
use Rattle.gq_reshape.proofs.Making.{kept}
use Rattle.gq_reshape.proofs.NameFree.{none_has}
use Rattle.gq_reshape.proofs.Leaves.{ReadsAt, reads_as_before, each_reads, cut_reads, leaves_valid}
use Rattle.gq_reshape.proofs.Promised.{Promised, promised}
use Rattle.gq_reshape.proofs.Removed.{edited_there}
use Rattle.gq_reshape.proofs.RemovePasses.{set_is, all_kept}
use Rattle.gq_reshape.proofs.RunStands.{run_there, run_found}
use Rattle.gq_reshape.proofs.SameEntries.{trees_read}
use Rattle.gq_reshape.proofs.Standing.{document_at, set_there}

-- the name of a type for which an object type is possible is a Name
abbrev pub TypeNames : Type 0
TypeNames = (documents : List Doc) (rs : List ParsedOf) → AreParsed documents rs → (on object : Text) → IsPossible (type_system_of rs) on object → IsNameText on

-- what ends a set, without the types of parents
within : {static : Static} {t u : Text} {set last : Sels Span} → EndsSet static t set u last → EndsWithin set last
within ends_here = all_of_it
within (ends_within k ends) = in_braces (within ends)
within (ends_after ends) = behind_it (within ends)

-- a run that can be extracted stands in its document
run_stands : {static : Static} {roots : OperationKind → Text} {trees : List (List (Def Span))} {e : RunAt} (can : CanExtract static roots trees e) → HasRun can.document.tree e.start e.end e.run
run_stands {e = e} can =
    let s = can.ends in
    record {
      definition = s.definition;
      stands = contains s.definition can.document.tree s.stands;
      others = can.others;
      ends = subst (λ (set : Sels Span). EndsWithin set (row (e.run ++ can.others))) (sym (set_is s.is_set)) (within s.ends);
      first = can.first;
      last = can.last;
    }

-- the document in which a run was put out, with the new fragment
extracted_document : (e : RunAt) (k : ℕ) (ds : List (Def Span)) → nat_eq e.file k ≡ true →
    rewritten_document (extraction e) k ds ≡ map (with_set (with_extracted e.start e.end e.name)) ds ++ (extraction e).added
extracted_document e k ds here =
    let change : List (Def Span) → List (Def (Unit {0})) = λ xs. map (with_set (with_extracted e.start e.end e.name)) xs ++ (extraction e).added in
    ap (λ (b : Bool). if b then change (filter (is_kept None k) ds) else map (place_def no_place) (filter (is_kept None k) ds)) here
    ∙ ap change (all_kept k ds)

-- a text that is a Name unless that cannot be
name_stable : (text : Text) → ((IsNameText text → ⊥) → ⊥) → IsNameText text
name_stable text some = by (is_name_spelled text) refl
  where
    by : (b : Bool) → is_name_spelled text ≡ b → IsNameText text
    by true e = (spelled_as_name text).0 e
    by false e = absurd (some (λ is. let t : is_name_spelled text ≡ true = (spelled_as_name text).1 is in let f : true ≡ false = sym t ∙ e in cc))

module _ (one_tree : OneTree) (apart : NoneIsBoth) (stay : RestatedProjectsKeepResponses) (have_trees : (documents : List Doc) → IsValid documents → HaveTrees documents) (texts : ExtractedTextsRead)
    (rules : ExtractsKeepAllRules) (type_names : TypeNames) where
  module _ (documents : List Doc) (in_order : IsInOrder documents) (valid : ∥ IsValid documents ∥₁) (rs : List ParsedOf) (are : AreParsed documents rs) (ask : RangeAsk) where
    trees_stand : AreTrees documents (trees_read rs)
    trees_stand = trees_are are (λ without. not_there valid (λ v. without (have_trees documents v)))

    abbrev es : List EntryOf
    es = type_system_of rs

    module _ (promise : Promised es rs) (e : Extraction documents es rs ask) where
      abbrev cut : Cut
      cut = extract_cut e

      abbrev name : Text
      name = extracted_name e.number

      abbrev text : List ℕ
      text = e.touched.document.text

      -- what becomes of the trees with these selections as the run
      abbrev rewrite_with : Sels Span → Rewrite
      rewrite_with sels = record {
        file = e.touched.file;
        change = with_extracted e.touched.place.start e.touched.place.end name;
        added = fragment (bare_name name) (bare_name e.parent) [] (erase_all sels) tt tt ∷ [];
        dropped = None;
      }

      -- the run as a list
      abbrev run_of : List (Sel Span) → RunAt
      run_of list = record { file = e.touched.file; start = e.touched.place.start; end = e.touched.place.end; run = list; on = e.parent; name = name }

      record RunKept : Type 0 where
        list : List (Sel Span)
        is_run : row list ≡ e.run
        can : CanExtract (static_of es) (roots_in es) (trees_read rs) (run_of list)

      run_kept : RunKept
      run_kept =
          let found = run_found e.touched.place.start e.touched.place.end (document_sets es (tree_at rs e.touched.file)) (record { parent = Some e.parent; run = e.run }) e.is_run in
          let at = document_at es rs e.touched.file found.set found.stands in
          let stands = subst (λ (tree : List (Def Span)). IsIn found.set (document_sets es tree)) at.is found.stands in
          let is_tree = tree_there rs e.touched.file at.reading at.there in
          let in_place = project_in_place are e.touched.file (definitions_read at.reading) is_tree in
          let document : HasDocument (trees_read rs) e.touched.file = record { tree = definitions_read at.reading; is_tree = is_tree; in_place = in_place } in
          let whole = sound documents rs are es promise.rooted promise.known promise.defined in
          let ends = set_there es rs e.touched.file at.reading at.there promise.rooted whole.typed document found.set stands e.parent found.is_parent in
          let i = run_there e.touched.place.start e.touched.place.end found.set.selections e.run found.is_run in
          record {
            list = i.list;
            is_run = i.is_run;
            can = record {
              document = document;
              others = i.others;
              ends = row_in (static_of es) (roots_in es) document.tree i.before (i.list ++ i.others)
                  (subst (EndsSetIn (static_of es) (roots_in es) document.tree e.parent) (i.whole ∙ ap row (append_assoc i.before i.list i.others)) ends);
              first = i.first;
              last = i.last;
              free = name_free rs name (none_has rs name e.is_least.free);
            };
          }

      module _ (r : RunKept) (some : HasNoObject es (Some e.parent) → ⊥) (small : PassesLimits documents cut → ⊥) where
        abbrev run : RunAt
        run = run_of r.list

        on_name : IsNameText e.parent
        on_name = name_stable e.parent (λ none. some (λ object possible. none (type_names documents rs are e.parent object possible)))

        -- with the run as a list
        by_list : (k : ℕ) (tree : List (Def Span)) → rewritten_document (extraction run) k tree ≡ rewritten_document cut.rewrite k tree
        by_list k tree = ap (λ (sels : Sels Span). rewritten_document (rewrite_with sels) k tree) r.is_run

        all_by_list : rewritten_from cut.rewrite 0 (trees_read rs) ≡ rewritten_from (extraction run) 0 (trees_read rs)
        all_by_list = ap (λ (sels : Sels Span). rewritten_from (rewrite_with sels) 0 (trees_read rs)) (sym r.is_run)

        abbrev put : PlacedReplacement
        put = record { file = e.touched.file; replacement = record { span = e.touched.place; text = spread_text name (drop e.touched.place.end text) } }

        abbrev last : PlacedReplacement
        last = record {
          file = e.touched.file;
          replacement = record { span = record { start = length text; end = length text }; text = fragment_text name e.parent (slice_range text e.touched.place.start e.touched.place.end) };
        }

        -- what such a text reads as
        as_read : (k : ℕ) (d : Doc) (t : List (Def Span)) → nat_eq e.touched.file k ≡ true → replacements_in cut.replacements k ≡ extracted d.text e.touched.place name e.parent →
            ReadsWithFragment d.text t e.touched.place name e.parent r.list → ReadsAt cut.rewrite cut.replacements k d t
        as_read k d t number replacements w =
            let D : List Replacement → Type 0 = λ xs. Derives (replaced xs d.text) w.tree in
            record {
              after = w.tree;
              derives = subst D (sym replacements) w.derives;
              rewritten = w.rewritten ∙ sym (extracted_document run k t number) ∙ by_list k t;
            }

        here : (k : ℕ) (d : Doc) (t : List (Def Span)) → slice_get documents k ≡ Some d → slice_get (trees_read rs) k ≡ Some t →
            e.touched.file ≡ k → Derives d.text t → ReadsAt cut.rewrite cut.replacements k d t
        here k d t at tree_at file derives =
            let one_document : Some e.touched.document ≡ Some d = sym e.touched.asked_of.stands ∙ ap (slice_get documents) file ∙ at in
            let document_is : e.touched.document ≡ d = cc in
            let one_tree_is : Some r.can.document.tree ≡ Some t = sym r.can.document.is_tree ∙ ap (slice_get (trees_read rs)) file ∙ tree_at in
            let tree_is : r.can.document.tree ≡ t = cc in
            let number : nat_eq e.touched.file k ≡ true = grind (arith, nat_tests, file) in
            let replacements : replacements_in cut.replacements k ≡ extracted d.text e.touched.place name e.parent =
            kept put (last ∷ []) k number ∙ ap (λ (xs : List Replacement). put.replacement ∷ xs) (kept last [] k number)
            ∙ ap (λ (x : Doc). extracted x.text e.touched.place name e.parent) document_is in
            let fits : (at : ℕ) → PassesLimitAt (replaced (extracted d.text e.touched.place name e.parent) d.text) at → ⊥ =
            λ place passes. small (text_too_large cut.replacements documents in_order k d at _ _ replacements (place, passes)) in
            let stands : HasRun t e.touched.place.start e.touched.place.end r.list =
            subst (λ (x : List (Def Span)). HasRun x e.touched.place.start e.touched.place.end r.list) tree_is (run_stands r.can) in
            as_read k d t number replacements (texts d.text t e.touched.place name e.parent r.list derives stands (extracted_is_name e.number) on_name fits)

        reads_here : (k : ℕ) (d : Doc) (t : List (Def Span)) → slice_get documents k ≡ Some d → slice_get (trees_read rs) k ≡ Some t → Derives d.text t →
            ReadsAt cut.rewrite cut.replacements (0 + k) d t
        reads_here k d t at tree_at derives =
            let same : k ≡ 0 + k = omega arith in
            subst (λ (n : ℕ). ReadsAt cut.rewrite cut.replacements n d t) same (by (is_edited cut.rewrite k) refl)
          where
            by : (b : Bool) → is_edited cut.rewrite k ≡ b → ReadsAt cut.rewrite cut.replacements k d t
            by true q = here k d t at tree_at (edited_there cut.rewrite k refl q) derives
            by false q = reads_as_before cut.rewrite cut.replacements k d t (extracted_keeping documents ask rs are es promise e).quiet q derives

        no_rule_broken : (after : List ParsedOf) → entries_of rs ≡ entries_of after → map erase_document (trees_read after) ≡ rewritten_from cut.rewrite 0 (trees_read rs) →
            IsFaultless IsRuleFault (executable_of after)
        no_rule_broken after entries rewritten f h =
            some (λ object possible. rules rs after run object (rewritten ∙ all_by_list) promise.rooted r.can possible (no_rule (nothing_demanded apart) documents rs valid are) f h)

        extraction_passes : PassesCheck documents (trees_read rs) cut
        extraction_passes =
            let w = cut_reads documents (trees_read rs) cut in_order trees_stand (each_reads cut.rewrite cut.replacements 0 documents (trees_read rs) trees_stand reads_here) in
            (w, ∣ leaves_valid one_tree (nothing_demanded apart) documents in_order valid es rs are cut (extracted_keeping documents ask rs are es promise e) w no_rule_broken ∣₁)

    -- So it is however the type system of the documents is given.
    abbrev Pass : List EntryOf → Type 0
    Pass types =
        (e : Extraction documents types rs ask) → (HasNoObject types (Some e.parent) → ⊥) → (PassesLimits documents (extract_cut e) → ⊥) → PassesCheck documents (trees_read rs) (extract_cut e)

    pub extracts_pass : (types : List EntryOf) → IsTypeSystemOf documents types → Pass types
    extracts_pass types of_documents =
        let promise = promised apart documents valid rs are in
        subst Pass (types_are one_tree apart stay documents in_order valid types of_documents rs are) (λ e some small. extraction_passes promise e (run_kept promise e) some small)

-- So no answer is the refusal that a check failed.
pub never_refused : ExtractsPass → AnswersPass IsExtractAnswer
never_refused pass documents ask in_order valid a =
    let e = a.offer.0.0 in
    let sets : List SetOf = sets_asked a.types a.readings e.touched in
    let question : parent_in_question e.touched.place sets ≡ Some (Some e.parent) =
    ap (λ (r : Option RunOf). option_or (option_map (λ r. r.parent) r) (option_map (λ s. s.parent) (innermost_at e.touched.place sets))) e.is_run in
    a.offer.0.1 (pass documents in_order valid a.readings a.are_readings ask a.types a.is_type_system e
    (λ none. a.offer.1 NoPossibleType (omega arith) (record { touched = e.touched; parent = Some e.parent; in_question = question; no_object = none }))
    (λ large. a.offer.1 TooLarge (omega arith) (e, large)))
