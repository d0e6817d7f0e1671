-- The edit of a rename keeps every list of calls.
use Rattle.std.proofs.Common.{◌≡◌, ◌↔◌, ℕ, List, Some, Result, Ok, Err, inl, inr, refl, sym, ap, subst, ◌∙◌}
use Rattle.std.specs.Prelude.{map, Option}
use Rattle.gq_text.specs.declared.place.Span.{Span}
use Rattle.gq_tree.specs.Plain.{Def, erase_document}
use Rattle.gq_project.specs.declared.document.Doc.{Doc}
use Rattle.gq_project.specs.Documents.{IsInOrder}
use Rattle.gq_edit.specs.declared.edit.DocumentEdit.{DocumentEdit}
use Rattle.gq_edit.specs.Edits.{after_edit}
use Rattle.gq_tree.specs.Readings.{ParsedOf}
use Rattle.gq_parse.specs.Parsed.{AreParsed}
use Rattle.gq_parse.proofs.OneReading.{OneTree, same_trees, same_in_documents}
use Rattle.gq_index.specs.Occurrences.{DefinitionOf, executable_in, executables}
use Rattle.gq_renamed.specs.Renamings.{Renaming}
use Rattle.gq_renamed.specs.Projects.{rename_edits, rename_trees}
use Rattle.gq_rules.specs.Project.{executable_of}
use Rattle.gq_rules.specs.Validity.{IsValid}
use Rattle.gq_table.specs.Rows.{RowOf}
use Rattle.gq_meaning.specs.Values.{Values}
use Rattle.gq_meaning.specs.Results.{Call}
use Rattle.gq_laws.specs.Renaming.Kept.{AreRenamed}
use Rattle.gq_mentions.specs.declared.target.Target.{Target}
use Rattle.gq_mentions.specs.declared.target.TargetKind.{TargetKind}
use Rattle.gq_mentions.specs.declared.target.TargetKind.TheVariants as kind
use Rattle.gq_rename.specs.declared.refusal.Refusal.{Refusal}
use Rattle.gq_rename.specs.declared.refusal.Refusal.TheVariants.{SameName, NameTaken}
use Rattle.gq_rename.specs.Asks.{trees_of, target_of, IsTaken, Changes, fragments, variables}
use Rattle.gq_rename.specs.Determined.{RenamesAreDetermined}
use Rattle.gq_rename.specs.Rename.{Renames, IsRenameAnswer, KeepsTrees, cut}
use Rattle.gq_rename.specs.Responses.{IsGivenAlike}
use Rattle.gq_rename.specs.Sound.{OffsetsMeanOneTarget, ValidDocumentsAreTrees}
use Rattle.gq_reshape.proofs.Changed.{read_trees}
use Rattle.gq_law_calls.specs.Calls.{AreCalls}
use Rattle.gq_law_calls.specs.Laws.{KeepsCallsRenamed, RenamesKeepCalls}
use Rattle.gq_law_calls.specs.Steps.{FragmentRenamesKeepCalls, VariableRenamesKeepCalls}

same_edits : {a b : List DocumentEdit} → ◌≡◌ {A = Result (List DocumentEdit) Refusal} (Ok a) (Ok b) → a ≡ b
same_edits e = cc

module _ (one_tree : OneTree) (are_trees : ValidDocumentsAreTrees) (means_one : OffsetsMeanOneTarget) (determined : RenamesAreDetermined) (fragments_keep : FragmentRenamesKeepCalls)
    (variables_keep : VariableRenamesKeepCalls) where
  module _ (documents : List Doc) (before after : List ParsedOf) (new : List ℕ) (valid : ∥ IsValid documents ∥₁) (t : Target) (rows : List RowOf) (name : Option (List ℕ)) (raw raw_after : Values)
      (calls : List Call) where
    -- by the kind of the target
    by_kind : (of : TargetKind) {rule : ℕ → Renaming} → Changes (executables before) t.name.text t.definition of rule → AreRenamed rule new documents before after →
        (IsTaken (executables before) of t.name.text t.definition new → ⊥) → (t.name.text ≡ new → ⊥) → IsGivenAlike of before t new name raw raw_after →
        AreCalls (executable_of before) rows name raw calls ↔ AreCalls (executable_of after) rows name raw_after calls
    by_kind kind.Fragment fragments renamed free other given =
        let R : Values → Type 0 = λ v. AreCalls (executable_of before) rows name raw calls ↔ AreCalls (executable_of after) rows name v calls in
        subst R given (fragments_keep documents before after t.name.text new valid renamed (λ f stands named. free (record { fragment = f; stands = stands; named = named })) other rows name raw calls)
    by_kind kind.Variable (variables {group = group} is) renamed free other given =
        variables_keep documents before after t.name.text new t.definition group valid renamed is.members
        (λ n o in_group is_operation v defined named. free (record { number = n; in_group = in_group; operation = o; is_operation = is_operation; variable = v; defined = defined; named = named }))
        other rows name raw raw_after given calls

  -- the edit of an answer is that of any rename that the ask means
  is_cut : (documents : List Doc) (key : List ℕ) (offset : ℕ) (new : List ℕ) (edits : List DocumentEdit) (a : IsRenameAnswer documents key offset new (Ok edits)) →
      (r : Renames documents a.readings (record { key = key; offset = offset; new = new })) → edits ≡ cut r
  is_cut documents key offset new edits a r =
      same_edits (determined documents key offset new (Ok edits) (Ok (cut r)) a (record { readings = a.readings; are_readings = a.are_readings; offer = (a.offer.0, (r, refl)) }))

  keeps : (documents : List Doc) (key : List ℕ) (offset : ℕ) (new : List ℕ) (edits : List DocumentEdit) → IsInOrder documents → ∥ IsValid documents ∥₁ → KeepsTrees documents key offset new edits →
      IsRenameAnswer documents key offset new (Ok edits) → KeepsCallsRenamed documents key offset new edits
  keeps documents key offset new edits in_order valid k a before after are are_after t here rows name raw raw_after given calls =
      let rule : ℕ → Renaming = k.renames.rule in
      let target_k : k.renames.target ≡ t = (let e = sym k.renames.here ∙ means_one documents k.readings before key offset k.are_readings are ∙ here in cc) in
      let there : target_of documents a.readings key offset ≡ Some t = means_one documents a.readings before key offset a.are_readings are ∙ here in
      let same_k : executables k.readings ≡ executables before = same_in_documents one_tree executable_in documents k.readings before k.are_readings are in
      let same_a : executables a.readings ≡ executables before = same_in_documents one_tree executable_in documents a.readings before a.are_readings are in
      let C : List DefinitionOf → Target → Type 0 = λ ds u. Changes ds u.name.text u.definition u.kind rule in
      let changes : C (executables before) t = subst (C (executables before)) target_k (subst (λ ds. C ds k.renames.target) same_k k.renames.changes) in
      let by_answer : Renames documents a.readings (record { key = key; offset = offset; new = new }) =
      record { target = t; here = there; rule = rule; changes = subst (λ ds. C ds t) (sym same_a) changes } in
      let is : edits ≡ rename_edits rule 0 new documents (trees_of a.readings) = is_cut documents key offset new edits a by_answer in
      let trees_k : trees_of k.readings ≡ trees_of before = same_trees one_tree documents k.readings before k.are_readings are in
      let trees_a : trees_of a.readings ≡ trees_of before = same_trees one_tree documents a.readings before a.are_readings are in
      let edits_are : edits ≡ rename_edits rule 0 new documents (trees_of before) = is ∙ ap (rename_edits rule 0 new documents) trees_a in
      let after_are : trees_of after ≡ k.reads.after = read_trees one_tree are_after k.reads.are_trees in
      let renamed : AreRenamed rule new documents before after = record {
        in_order = in_order;
        are_read = are;
        are_trees = are_trees documents before are valid;
        are_read_after = subst (λ (es : List DocumentEdit). AreParsed (after_edit es documents) after) edits_are are_after;
        renamed = ap (map erase_document) after_are ∙ k.reads.renamed ∙ ap (λ (ts : List (List (Def Span))). rename_trees rule 0 new (map erase_document ts)) trees_k;
      } in
      let free : IsTaken (executables before) t.kind t.name.text t.definition new → ⊥ =
      (λ taken. a.offer.0 NameTaken (record { target = t; here = there; holds = subst (λ ds. IsTaken ds t.kind t.name.text t.definition new) (sym same_a) taken })) in
      let other : t.name.text ≡ new → ⊥ = (λ e. a.offer.0 SameName (record { target = t; here = there; holds = e })) in
      by_kind documents before after new valid t rows name raw raw_after calls t.kind changes renamed free other given

  pub rename_answers_keep_calls : RenamesKeepCalls
  rename_answers_keep_calls documents key offset new in_order valid (Ok edits) (inl e) k = absurd (cc)
  rename_answers_keep_calls documents key offset new in_order valid (Ok edits) (inr a) k = keeps documents key offset new edits in_order valid k a
  rename_answers_keep_calls documents key offset new in_order valid (Err why) a k = tt
