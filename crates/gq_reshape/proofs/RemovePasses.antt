-- A removal reads as the rewritten trees and leaves a valid project.
use Rattle.std.proofs.Common.{◌≡◌, ◌⊎◌, inl, inr, ℕ, ◌+◌, Bool, true, false, List, [], ◌∷◌, ◌++◌, Option, Some, None, Result, Err, Contains, map, slice_get, refl, sym, ap, ◌∙◌, subst, nat_eq, arith, append-nil}
use Rattle.std.specs.Prelude.{if◌then◌else◌}
use Rattle.std.specs.List.{filter}
use Rattle.std.proofs.lemmas.Bool.Decides.{nat_tests}
use Rattle.std.proofs.lemmas.Grind.{not_there}
use Rattle.std.proofs.lemmas.List.Elements.{Contains-append_left, Contains-append_right}
use Rattle.gq_text.specs.declared.place.Span.{Span}
use Rattle.gq_text.specs.declared.replacement.Replacement.{Replacement}
use Rattle.gq_text.specs.Replaced.{replaced}
use Rattle.gq_tree.specs.Forest.{more, labels}
use Rattle.gq_tree.specs.declared.tree.OperationKind.{OperationKind}
use Rattle.gq_tree.specs.Plain.{NameOf, DirectiveOf, Head, Sels, Def, inline}
use Rattle.gq_tree.specs.Readings.{ParsedOf}
use Rattle.gq_project.specs.declared.document.Doc.{Doc}
use Rattle.gq_project.specs.Documents.{IsInOrder}
use Rattle.gq_edit.specs.declared.edit.DocumentEdit.{DocumentEdit}
use Rattle.gq_parse.specs.Derives.{Derives}
use Rattle.gq_parse.specs.Parsed.{AreParsed}
use Rattle.gq_parse.proofs.OneReading.{OneTree}
use Rattle.gq_types.specs.Entries.{Text, EntryOf}
use Rattle.gq_types.proofs.Gathered.{first, later}
use Rattle.gq_document.specs.Selections.{SelectedOf}
use Rattle.gq_schema.specs.SchemaOf.{IsTypeSystemOf}
use Rattle.gq_meaning.specs.Rewritten.{Static}
use Rattle.gq_renamed.specs.Projects.{AreTrees}
use Rattle.gq_rules.specs.Project.{type_system_of}
use Rattle.gq_rules.specs.Validity.{IsValid}
use Rattle.gq_rewritten.specs.Rewrites.{head_place, is_kept, rewritten_document, with_set, without_braces}
use Rattle.gq_laws.specs.Cutting.Removed.{opened, RemovedTextsRead}
use Rattle.gq_laws.specs.Cutting.Standing.{set_in, HasSelection}
use Rattle.gq_laws.proofs.Renaming.Promises.{nothing_demanded}
use Rattle.gq_laws.proofs.Renaming.ValidityLemmas.{no_rule}
use Rattle.gq_laws.proofs.RenamedValid.Reading.{HaveTrees, trees_read as trees_are}
use Rattle.gq_laws.specs.Rewriting.KnownBefore.{EndsSet, ends_here, ends_within, ends_after, SaysNothing}
use Rattle.gq_laws.specs.Rewriting.Documents.{IsSetOf, of_operation, of_fragment, EndsSetIn}
use Rattle.gq_laws.specs.Rewriting.Edits.{removal, CanRemove}
use Rattle.gq_laws.specs.Rewriting.Statics.{static_of, roots_in}
use Rattle.gq_laws.specs.Rewriting.Unchanged.{RestatedProjectsKeepResponses}
use Rattle.gq_laws.specs.RewrittenValid.Removed.{RemovalsKeepAllRules}
use Rattle.gq_laws.proofs.Rewriting.Executables.{contains}
use Rattle.gq_laws.proofs.Rewriting.Projects.{sound, selected_document}
use Rattle.gq_laws.proofs.Rewriting.Selected.{selection_ends}
use Rattle.gq_laws.proofs.Rewriting.ValidityLemmas.{NoneIsBoth}
use Rattle.gq_rename.specs.declared.refusal.Refusal.{Refusal}
use Rattle.gq_rename.specs.declared.refusal.Refusal.TheVariants.{NotRedundant, SelfCheck, NoMemory}
use Rattle.gq_reshape.specs.Asks.{RangeAsk}
use Rattle.gq_reshape.specs.Cuts.{Cut, PassesCheck}
use Rattle.gq_reshape.specs.Passing.{AnswersPass, RemovalsPass}
use Rattle.gq_reshape.specs.Placed.{replacements_in}
use Rattle.gq_reshape.specs.Remove.{Removal, remove_cut, IsNotRedundant}
use Rattle.gq_reshape.specs.Reshape.{IsRemoveAnswer}
use Rattle.gq_reshape.specs.declared.placed.PlacedReplacement.{PlacedReplacement}
use Rattle.gq_reshape.specs.Helping.Rereading.{is_edited}
use Rattle.gq_reshape.proofs.Changed.{types_are}
use Rattle.gq_reshape.proofs.Making.{kept}
use Rattle.gq_reshape.proofs.Leaves.{ReadsAt, reads_as_before, each_reads, cut_reads, leaves_valid}
use Rattle.gq_reshape.proofs.Promised.{Promised, promised}
use Rattle.gq_reshape.proofs.Removed.{removed_keeping, removal_stands, edited_there}
use Rattle.gq_reshape.proofs.SameEntries.{trees_read}

-- what ends a set stands in it
among : {static : Static} {t u : Text} {set : Sels Span} {head : Head Span} {below rest : Sels Span} → EndsSet static t set u (more head below rest) → Contains (labels set) head
among {head = head} {below} {rest} ends_here = first head head (labels below ++ labels rest) refl
among {head = h} (ends_within {head} {below} {rest} k ends) = later head h (labels below ++ labels rest) (Contains-append_left (labels below) (labels rest) h (among ends))
among {head = h} (ends_after {head} {below} {rest} ends) = later head h (labels below ++ labels rest) (Contains-append_right (labels below) (labels rest) h (among ends))

pub set_is : {roots : OperationKind → Text} {definition : Def Span} {t : Text} {set : Sels Span} → IsSetOf roots definition t set → set_in definition ≡ set
set_is of_operation = refl
set_is of_fragment = refl

pub ends_stand : {static : Static} {roots : OperationKind → Text} {tree : List (Def Span)} {u : Text} {head : Head Span} {below rest : Sels Span} → EndsSetIn static roots tree u (more head below rest) → HasSelection tree head
ends_stand {tree = tree} {head = head} s =
    record { definition = s.definition; stands = contains s.definition tree s.stands; among = subst (λ (ss : Sels Span). Contains (labels ss) head) (sym (set_is s.is_set)) (among s.ends) }

-- nothing is dropped, and nothing comes behind
pub all_kept : (file : ℕ) (ds : List (Def Span)) → filter (is_kept None file) ds ≡ ds
all_kept file [] = refl
all_kept file (d ∷ ds) = ap (λ (xs : List (Def Span)). d ∷ xs) (all_kept file ds)

opened_document : (file : ℕ) (place : Span) (k : ℕ) (ds : List (Def Span)) → nat_eq file k ≡ true → rewritten_document (removal file place) k ds ≡ map (with_set (without_braces place)) ds
opened_document file place k ds e =
    let change : List (Def Span) → List (Def (Unit {0})) = λ xs. map (with_set (without_braces place)) xs in
    ap (λ (b : Bool). if b then change (filter (is_kept None k) ds) ++ [] else map (Rattle.gq_tree.specs.Plain.place_def Rattle.gq_tree.specs.Plain.no_place) (filter (is_kept None k) ds)) e
    ∙ append-nil (change (filter (is_kept None k) ds))
    ∙ ap change (all_kept k ds)

module _ (one_tree : OneTree) (apart : NoneIsBoth) (stay : RestatedProjectsKeepResponses) (have_trees : (documents : List Doc) → IsValid documents → HaveTrees documents) (texts : RemovedTextsRead) (rules : RemovalsKeepAllRules) where
  module _ (documents : List Doc) (in_order : IsInOrder documents) (valid : ∥ IsValid documents ∥₁) (rs : List ParsedOf) (are : AreParsed documents rs) (ask : RangeAsk) where
    trees_stand : AreTrees documents (trees_read rs)
    trees_stand = trees_are are (λ without. not_there valid (λ v. without (have_trees documents v)))

    abbrev es : List EntryOf
    es = type_system_of rs

    module _ (promise : Promised es rs) (r : Removal documents es rs ask) (redundant : IsNotRedundant documents es rs ask → ⊥) where
      abbrev chosen : SelectedOf
      chosen = record { file = r.file; parent = r.selected.parent; selection = r.selected.selection }

      abbrev cut : Cut
      cut = remove_cut r

      can : CanRemove (static_of es) (roots_in es) (trees_read rs) r.file r.place
      can =
          let w = removal_stands documents ask rs are es promise r redundant in
          let document = selected_document documents rs are es promise.rooted promise.known promise.defined chosen w.selects in
          let b = selection_ends rs es promise.rooted (sound documents rs are es promise.rooted promise.known promise.defined).typed chosen w.selects document in
          let same : w.parent ≡ b.parent = let q : Some w.parent ≡ Some b.parent = sym w.is_parent ∙ b.is_parent in cc in
          record {
            document = document;
            parent = b.parent;
            head = r.selected.selection.label;
            below = r.selected.selection.below;
            rest = b.rest;
            ends = b.ends;
            at = ap head_place r.is_inline;
            says = subst (λ z. SaysNothing z r.selected.selection.label) same w.says;
          }

      bare : SaysNothing can.parent (inline r.on r.directives r.braces r.place) → r.directives ≡ []
      bare = by r.on
        where
          by : (on : Option (NameOf Span)) → SaysNothing can.parent (inline on r.directives r.braces r.place) → r.directives ≡ []
          by None h = h.0
          by (Some on) h = h.0

      stands : HasSelection can.document.tree (inline r.on [] r.braces r.place)
      unfolding can
      stands =
          let head : inline r.on r.directives r.braces r.place ≡ inline r.on [] r.braces r.place = ap (λ (ds : List (DirectiveOf Span)). inline r.on ds r.braces r.place) (bare (subst (SaysNothing can.parent) r.is_inline can.says)) in
          subst (HasSelection can.document.tree) (r.is_inline ∙ head) (ends_stand can.ends)

      here : (k : ℕ) (d : Doc) (t : List (Def Span)) → slice_get documents k ≡ Some d → slice_get (trees_read rs) k ≡ Some t → r.file ≡ k → Derives d.text t → ReadsAt cut.rewrite cut.replacements k d t
      unfolding can
      here k d t at tree_at file derives =
          let one_document : Some r.document ≡ Some d = sym r.asked_of.stands ∙ ap (slice_get documents) file ∙ at in
          let document_is : r.document ≡ d = cc in
          let one_tree_is : Some can.document.tree ≡ Some t = sym can.document.is_tree ∙ ap (slice_get (trees_read rs)) file ∙ tree_at in
          let tree_is : can.document.tree ≡ t = cc in
          let number : nat_eq r.file k ≡ true = grind (arith, nat_tests, file) in
          let put : PlacedReplacement = record { file = r.file; replacement = opened r.document.text r.place r.braces } in
          let replacements : replacements_in (put ∷ []) k ≡ opened d.text r.place r.braces ∷ [] = kept put [] k number ∙ ap (λ (x : Doc). opened x.text r.place r.braces ∷ []) document_is in
          let D : List Replacement → Type 0 = λ xs. Derives (replaced xs d.text) (texts d.text t r.on r.braces r.place derives (subst (λ (x : List (Def Span)). HasSelection x (inline r.on [] r.braces r.place)) tree_is stands)).tree in
          let w = texts d.text t r.on r.braces r.place derives (subst (λ (x : List (Def Span)). HasSelection x (inline r.on [] r.braces r.place)) tree_is stands) in
          record {
            after = w.tree;
            derives = subst D (sym replacements) w.derives;
            rewritten = w.rewritten ∙ sym (opened_document r.file r.place k t number);
          }

      reads_here : (k : ℕ) (d : Doc) (t : List (Def Span)) → slice_get documents k ≡ Some d → slice_get (trees_read rs) k ≡ Some t → Derives d.text t → ReadsAt cut.rewrite cut.replacements (0 + k) d t
      reads_here k d t at tree_at derives = let e : k ≡ 0 + k = omega arith in subst (λ (n : ℕ). ReadsAt cut.rewrite cut.replacements n d t) e (by (is_edited cut.rewrite k) refl)
        where
          by : (b : Bool) → is_edited cut.rewrite k ≡ b → ReadsAt cut.rewrite cut.replacements k d t
          by true e = here k d t at tree_at (edited_there cut.rewrite k refl e) derives
          by false e = reads_as_before cut.rewrite cut.replacements k d t (removed_keeping documents ask rs are es promise r redundant).quiet e derives

      removal_passes : PassesCheck documents (trees_read rs) cut
      unfolding can
      removal_passes =
          let nothing = nothing_demanded apart in
          let w = cut_reads documents (trees_read rs) cut in_order trees_stand (each_reads cut.rewrite cut.replacements 0 documents (trees_read rs) trees_stand reads_here) in (
            w,
            ∣ leaves_valid one_tree nothing documents in_order valid es rs are cut (removed_keeping documents ask rs are es promise r redundant) w
                (λ after entries rewritten. rules rs after r.file r.place entries rewritten promise.rooted (sound documents rs are es promise.rooted promise.known promise.defined) can (no_rule nothing documents rs valid are)) ∣₁,
          )

    -- So it is however the type system of the documents is given.
    pub removals_pass : (types : List EntryOf) → IsTypeSystemOf documents types → (r : Removal documents types rs ask) → (IsNotRedundant documents types rs ask → ⊥) → PassesCheck documents (trees_read rs) (remove_cut r)
    removals_pass types of_documents =
        let P : List EntryOf → Type 0 = λ z. (r : Removal documents z rs ask) → (IsNotRedundant documents z rs ask → ⊥) → PassesCheck documents (trees_read rs) (remove_cut r) in
        subst P (types_are one_tree apart stay documents in_order valid types of_documents rs are) (λ r redundant. removal_passes (promised apart documents valid rs are) r redundant)

-- So no answer is the refusal that a check failed.
pub never_refused : RemovalsPass → AnswersPass IsRemoveAnswer
never_refused pass documents ask in_order valid a =
    let r = a.offer.0.0 in
    a.offer.0.1 (pass documents in_order valid a.readings a.are_readings ask a.types a.is_type_system r (λ redundant. a.offer.1 NotRedundant (omega arith) redundant))

pub never_told : (IsAnswer : List Doc → RangeAsk → Result (List DocumentEdit) Refusal → Type 0) → AnswersPass IsAnswer → (documents : List Doc) (ask : RangeAsk) → IsInOrder documents → ∥ IsValid documents ∥₁ → (result : Result (List DocumentEdit) Refusal) →
    (result ≡ Err NoMemory) ⊎ IsAnswer documents ask result → result ≡ Err SelfCheck → ⊥
never_told IsAnswer pass documents ask in_order valid result (inl refused) told = cc
never_told IsAnswer pass documents ask in_order valid result (inr a) told = pass documents ask in_order valid (subst (λ (r : Result (List DocumentEdit) Refusal). IsAnswer documents ask r) told a)
