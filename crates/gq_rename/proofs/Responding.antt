-- The edit of a rename keeps every response.
use Rattle.std.proofs.Common.{◌≡◌, ◌↔◌, ℕ, List, ◌∷◌, Option, Some, Result, Ok, Err, ◌⊎◌, inl, inr, refl, sym, ap, subst, ◌∙◌}
use Rattle.std.specs.Prelude.{map, IfOk}
use Rattle.gq_text.specs.declared.place.Span.{Span}
use Rattle.gq_tree.specs.Plain.{Def, erase_document}
use Rattle.gq_project.specs.declared.document.Doc.{Doc}
use Rattle.gq_project.specs.Documents.{IsInOrder}
use Rattle.gq_edit.specs.declared.edit.DocumentEdit.{DocumentEdit}
use Rattle.gq_edit.specs.Edits.{after_edit}
use Rattle.gq_tree.specs.Readings.{ParsedOf}
use Rattle.gq_tree.specs.Readings as reading
use Rattle.gq_parse.specs.Parsed.{AreParsed}
use Rattle.gq_parse.specs.Parsed as readings
use Rattle.gq_parse.proofs.OneReading.{same_in_documents}
use Rattle.gq_index.specs.Occurrences.{DefinitionOf, executable_in, executables}
use Rattle.gq_renamed.specs.Renamings.{Renaming}
use Rattle.gq_renamed.specs.Projects.{AreTrees, none, more, rename_edits, rename_trees}
use Rattle.gq_rules.specs.Project.{executable_of}
use Rattle.gq_rules.specs.Validity.{IsValid}
use Rattle.gq_table.specs.Rows.{RowOf}
use Rattle.gq_meaning.specs.Values.{Values}
use Rattle.gq_response.specs.Responses.{ResponseOf}
use Rattle.gq_executor.specs.Operations.{IsResponse}
use Rattle.gq_laws.specs.Renaming.Kept.{AreRenamed, FragmentRenamesKeep, VariableRenamesKeep}
use Rattle.gq_mentions.specs.declared.target.Target.{Target}
use Rattle.gq_mentions.specs.declared.target.TargetKind.{TargetKind}
use Rattle.gq_mentions.specs.declared.target.TargetKind.TheVariants as kind
use Rattle.gq_rename.specs.declared.refusal.Refusal.{Refusal}
use Rattle.gq_rename.specs.declared.refusal.Refusal.TheVariants.{SameName, NameTaken, NoMemory}
use Rattle.gq_rename.specs.Asks.{trees_of, target_of, IsTaken, Changes, fragments, variables}
use Rattle.gq_rename.specs.Rename.{Renames, IsRenameAnswer, KeepsTrees}
use Rattle.gq_rename.specs.Responses.{IsGivenAlike, KeepsResponses}
use Rattle.gq_rename.specs.Sound.{ValidDocumentsAreTrees}
use Rattle.gq_rename.proofs.Groups.{one_rule}
use Rattle.gq_parse.proofs.OneReading.{OneTree, same_trees}
use Rattle.gq_rename.proofs.Trees.{same_target}

module _ (one_tree : OneTree) where
  -- what is read of texts that have trees are these
  read_trees : {documents : List Doc} {rs : List ParsedOf} {trees : List (List (Def Span))} → AreParsed documents rs → AreTrees documents trees → trees_of rs ≡ trees
  read_trees readings.none none = refl
  read_trees (readings.more {document = document} {one = reading.tree d} {readings = rs} p ps) (more {tree = tree} {trees = trees} q qs) =
      ap (λ (t : List (Def Span)). t ∷ trees_of rs) (one_tree document.text d tree p q) ∙ ap (λ (ts : List (List (Def Span))). tree ∷ ts) (read_trees ps qs)
  read_trees (readings.more {one = reading.syntax place} p ps) (more {tree = tree} q qs) = absurd (p.0 tree q)
  read_trees (readings.more {one = reading.limit place} p ps) (more {tree = tree} q qs) = absurd (p.0 tree q)

  module _ (fragments_keep : FragmentRenamesKeep) (variables_keep : VariableRenamesKeep) (are_trees : ValidDocumentsAreTrees) where
    module _ (documents : List Doc) (before after : List ParsedOf) (new : List ℕ) (valid : ∥ IsValid documents ∥₁) (t : Target) (rows : List RowOf) (name : Option (List ℕ)) (raw raw_after : Values) (response : ResponseOf) where
      -- by the kind of the target
      by_kind : (of : TargetKind) {rule : ℕ → Renaming} → Changes (executables before) t.name.text t.definition of rule → AreRenamed rule new documents before after →
          (IsTaken (executables before) of t.name.text t.definition new → ⊥) → (t.name.text ≡ new → ⊥) → IsGivenAlike of before t new name raw raw_after →
          IsResponse (executable_of before) rows name raw response ↔ IsResponse (executable_of after) rows name raw_after response
      by_kind kind.Fragment fragments renamed free other given =
          let R : Values → Type 0 = λ v. IsResponse (executable_of before) rows name raw response ↔ IsResponse (executable_of after) rows name v response in
          subst R given (fragments_keep documents before after t.name.text new valid renamed (λ f stands named. free (record { fragment = f; stands = stands; named = named })) other rows name raw response)
      by_kind kind.Variable (variables {group = group} is) renamed free other given =
          variables_keep documents before after t.name.text new t.definition group valid renamed is.members
          (λ n o in_group is_operation v defined named. free (record { number = n; in_group = in_group; operation = o; is_operation = is_operation; variable = v; defined = defined; named = named }))
          other rows name raw raw_after given response

    pub keeps : (documents : List Doc) (key : List ℕ) (offset : ℕ) (new : List ℕ) (edits : List DocumentEdit) → IsInOrder documents → ∥ IsValid documents ∥₁ → KeepsTrees documents key offset new edits → IsRenameAnswer documents key offset new (Ok edits) →
        KeepsResponses documents key offset new edits
    keeps documents key offset new edits in_order valid k a before after are are_after t here rows name raw raw_after given response =
        let r : Renames documents a.readings (record { key = key; offset = offset; new = new }) = a.offer.1.0 in
        let target_k : k.renames.target ≡ t = (let e = sym k.renames.here ∙ same_target one_tree documents k.readings before key offset k.are_readings are ∙ here in cc) in
        let target_r : r.target ≡ t = (let e = sym r.here ∙ same_target one_tree documents a.readings before key offset a.are_readings are ∙ here in cc) in
        let same_k : executables k.readings ≡ executables before = same_in_documents one_tree executable_in documents k.readings before k.are_readings are in
        let same_r : executables a.readings ≡ executables before = same_in_documents one_tree executable_in documents a.readings before a.are_readings are in
        let C : (ℕ → Renaming) → List DefinitionOf → Target → Type 0 = λ rule ds u. Changes ds u.name.text u.definition u.kind rule in
        let changes_k : C k.renames.rule (executables before) t = subst (C k.renames.rule (executables before)) target_k (subst (λ ds. C k.renames.rule ds k.renames.target) same_k k.renames.changes) in
        let changes_r : C r.rule (executables before) t = subst (C r.rule (executables before)) target_r (subst (λ ds. C r.rule ds r.target) same_r r.changes) in
        let rules : k.renames.rule ≡ r.rule = one_rule changes_k changes_r in
        let trees_k : trees_of k.readings ≡ trees_of before = same_trees one_tree documents k.readings before k.are_readings are in
        let trees_r : trees_of a.readings ≡ trees_of before = same_trees one_tree documents a.readings before a.are_readings are in
        let edits_are : edits ≡ rename_edits r.rule 0 new documents (trees_of before) = a.offer.1.1 ∙ ap (rename_edits r.rule 0 new documents) trees_r in
        let after_are : trees_of after ≡ k.reads.after = read_trees are_after k.reads.are_trees in
        let renamed : AreRenamed r.rule new documents before after = record {
          in_order = in_order;
          are_read = are;
          are_trees = are_trees documents before are valid;
          are_read_after = subst (λ (es : List DocumentEdit). AreParsed (after_edit es documents) after) edits_are are_after;
          renamed =
              ap (map erase_document) after_are
              ∙ k.reads.renamed
              ∙ ap (λ (f : ℕ → Renaming). rename_trees f 0 new (map erase_document (trees_of k.readings))) rules
              ∙ ap (λ (ts : List (List (Def Span))). rename_trees r.rule 0 new (map erase_document ts)) trees_k;
        } in
        let there : target_of documents a.readings key offset ≡ Some t = same_target one_tree documents a.readings before key offset a.are_readings are ∙ here in
        let free : IsTaken (executables before) t.kind t.name.text t.definition new → ⊥ =
        (λ taken. a.offer.0 NameTaken (record { target = t; here = there; holds = subst (λ ds. IsTaken ds t.kind t.name.text t.definition new) (sym same_r) taken })) in
        let other : t.name.text ≡ new → ⊥ = (λ e. a.offer.0 SameName (record { target = t; here = there; holds = e })) in
        by_kind documents before after new valid t rows name raw raw_after response t.kind changes_r renamed free other given

    pub answered : (documents : List Doc) (key : List ℕ) (offset : ℕ) (new : List ℕ) → IsInOrder documents → ∥ IsValid documents ∥₁ → (result : Result (List DocumentEdit) Refusal) →
        (result ≡ Err NoMemory) ⊎ IsRenameAnswer documents key offset new result → IfOk result (KeepsTrees documents key offset new) → IfOk result (KeepsResponses documents key offset new)
    answered documents key offset new in_order valid (Ok edits) (inl e) k = absurd (cc)
    answered documents key offset new in_order valid (Ok edits) (inr a) k = keeps documents key offset new edits in_order valid k a
    answered documents key offset new in_order valid (Err why) a k = tt
