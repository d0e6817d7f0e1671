-- The edits that extract, inline and remove answer with keep every list of calls.
use Rattle.std.proofs.Common.{◌≡◌, List, ◌++◌, map, sym, ap, ◌∙◌, subst}
use Rattle.gq_text.specs.declared.place.Span.{Span}
use Rattle.gq_tree.specs.Plain.{Def, erase_document}
use Rattle.gq_project.specs.declared.document.Doc.{Doc}
use Rattle.gq_project.specs.Documents.{IsInOrder}
use Rattle.gq_edit.specs.declared.edit.DocumentEdit.{DocumentEdit}
use Rattle.gq_edit.specs.Edits.{after_edit}
use Rattle.gq_tree.specs.Readings.{ParsedOf}
use Rattle.gq_parse.specs.Parsed.{AreParsed}
use Rattle.gq_parse.proofs.OneReading.{OneTree, same_trees, same_in_documents}
use Rattle.gq_types.specs.BuiltIn.{built_in}
use Rattle.gq_types.specs.Entries.{EntryOf}
use Rattle.gq_document.specs.Definitions.{entry_in}
use Rattle.gq_schema.specs.SchemaOf.{IsTypeSystemOf}
use Rattle.gq_rules.specs.Project.{type_system_of}
use Rattle.gq_rules.specs.Validity.{IsValid}
use Rattle.gq_rewritten.specs.Rewrites.{rewritten_from}
use Rattle.gq_laws.specs.Rewriting.Documents.{Restates}
use Rattle.gq_laws.specs.Rewriting.Statics.{static_of, roots_in}
use Rattle.gq_laws.proofs.Rewriting.ValidityLemmas.{NoneIsBoth}
use Rattle.gq_rename.specs.declared.refusal.Refusal.TheVariants.{NotRedundant}
use Rattle.gq_reshape.specs.Cuts.{Cut, edits_of, PassesCheck}
use Rattle.gq_reshape.specs.Extract.{extract_cut}
use Rattle.gq_reshape.specs.Inline.{inline_cut}
use Rattle.gq_reshape.specs.Remove.{remove_cut}
use Rattle.gq_reshape.specs.Reshape.{IsExtractAnswer, IsInlineAnswer, IsRemoveAnswer}
use Rattle.gq_reshape.proofs.Changed.{IsKeeping, read_trees}
use Rattle.gq_reshape.proofs.Extracted.{extracted_keeping}
use Rattle.gq_reshape.proofs.Inlined.{inlined_keeping}
use Rattle.gq_reshape.proofs.Promised.{Promised, promised}
use Rattle.gq_reshape.proofs.Removed.{removed_keeping}
use Rattle.gq_reshape.proofs.SameEntries.{trees_read, AreOfOperations, same_entries}
use Rattle.gq_law_calls.specs.Laws.{KeepsCalls, EditsKeepCalls}
use Rattle.gq_law_calls.specs.Steps.{RestatedProjectsKeepCalls}

module _ (one_tree : OneTree) (apart : NoneIsBoth) (stay : RestatedProjectsKeepCalls) where
  module _ (documents : List Doc) (in_order : IsInOrder documents) (valid : ∥ IsValid documents ∥₁) (es : List EntryOf) (of_documents : IsTypeSystemOf documents es) where
    -- the types are those of each reading
    types_are : (rs : List ParsedOf) → AreParsed documents rs → type_system_of rs ≡ es
    types_are rs are = ap (λ (xs : List EntryOf). built_in ++ xs) (same_in_documents one_tree entry_in documents rs of_documents.readings are of_documents.are_readings) ∙ sym of_documents.is

    all_promised : (rs : List ParsedOf) → AreParsed documents rs → Promised es rs
    all_promised rs are = subst (λ (z : List EntryOf). Promised z rs) (types_are rs are) (promised apart documents valid rs are)

    moved : (trees trees' : List (List (Def Span))) (after : List (List (Def (Unit {0})))) (cut : Cut) → trees ≡ trees' → after ≡ rewritten_from cut.rewrite 0 trees' →
        Restates (static_of es) (roots_in es) trees (rewritten_from cut.rewrite 0 trees) → Restates (static_of es) (roots_in es) trees' after
    moved trees trees' after cut same is restates =
        let R : List (List (Def Span)) → Type 0 = λ ts. Restates (static_of es) (roots_in es) ts (rewritten_from cut.rewrite 0 ts) in
        subst (Restates (static_of es) (roots_in es) trees') (sym is) (subst R same restates)

    -- Where a cut asks for what was asked and its edit passes the check, it keeps every list of calls.
    keeping_keeps : (rs : List ParsedOf) → AreParsed documents rs → (cut : Cut) → IsKeeping es rs cut → PassesCheck documents (trees_read rs) cut → (edits : List DocumentEdit) →
        edits ≡ edits_of cut documents → KeepsCalls documents edits
    keeping_keeps rs are cut k passes edits edits_are before after are_before are_after =
        let same : trees_read rs ≡ trees_read before = same_trees one_tree documents rs before are are_before in
        let are_edited : AreParsed (after_edit (edits_of cut documents) documents) after = subst (λ (xs : List DocumentEdit). AreParsed (after_edit xs documents) after) edits_are are_after in
        let after_are : trees_read after ≡ passes.0.after = read_trees one_tree are_edited passes.0.are_trees in
        let rewritten : map erase_document (trees_read after) ≡ rewritten_from cut.rewrite 0 (trees_read before) =
        ap (map erase_document) after_are ∙ passes.0.rewritten ∙ ap (rewritten_from cut.rewrite 0) same in
        let restates = moved (trees_read rs) (trees_read before) (map erase_document (trees_read after)) cut same rewritten k.restates in
        let S : List EntryOf → Type 0 = λ z. Restates (static_of z) (roots_in z) (trees_read before) (map erase_document (trees_read after)) in
        let some : AreOfOperations cut.rewrite 0 (trees_read before) = subst (AreOfOperations cut.rewrite 0) same k.some in
        let kinds = (all_promised before are_before).one_kind in
        stay documents (after_edit (edits_of cut documents) documents) valid passes.1 before after are_before are_edited
        (same_entries one_tree cut.rewrite cut.replacements k.quiet k.added documents before after in_order are_before are_edited rewritten kinds some)
        (subst S (sym (types_are before are_before)) restates)

  pub removes_keep_calls : EditsKeepCalls IsRemoveAnswer
  removes_keep_calls documents ask in_order valid edits a =
      let r = a.offer.1.0 in
      let promise = all_promised documents in_order valid a.types a.is_type_system a.readings a.are_readings in
      keeping_keeps documents in_order valid a.types a.is_type_system a.readings a.are_readings (remove_cut r)
      (removed_keeping documents ask a.readings a.are_readings a.types promise r (λ n. a.offer.0 NotRedundant n)) a.offer.1.1.1 edits a.offer.1.1.0

  pub extracts_keep_calls : EditsKeepCalls IsExtractAnswer
  extracts_keep_calls documents ask in_order valid edits a =
      let e = a.offer.1.0 in
      let promise = all_promised documents in_order valid a.types a.is_type_system a.readings a.are_readings in
      keeping_keeps documents in_order valid a.types a.is_type_system a.readings a.are_readings (extract_cut e)
      (extracted_keeping documents ask a.readings a.are_readings a.types promise e) a.offer.1.1.1 edits a.offer.1.1.0

  pub inlines_keep_calls : EditsKeepCalls IsInlineAnswer
  inlines_keep_calls documents ask in_order valid edits a =
      let i = a.offer.1.0 in
      let promise = all_promised documents in_order valid a.types a.is_type_system a.readings a.are_readings in
      keeping_keeps documents in_order valid a.types a.is_type_system a.readings a.are_readings (inline_cut i)
      (inlined_keeping documents ask a.readings a.are_readings a.types promise i) a.offer.1.1.1 edits a.offer.1.1.0
