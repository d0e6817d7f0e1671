-- What is shown of each refactoring, so that it keeps every response.
use Rattle.std.proofs.Common.{◌≡◌, ℕ, List, ◌∷◌, ◌++◌, Some, map, slice_get, Contains, refl, sym, ap, ◌∙◌, subst}
use Rattle.std.specs.List.{AllByRecursion}
use Rattle.gq_text.specs.declared.place.Span.{Span}
use Rattle.gq_tree.specs.Plain.{Def, erase_document}
use Rattle.gq_project.specs.declared.document.Doc.{Doc}
use Rattle.gq_project.specs.Documents.{IsInOrder}
use Rattle.gq_edit.specs.declared.edit.DocumentEdit.{DocumentEdit}
use Rattle.gq_edit.specs.Edits.{after_edit}
use Rattle.gq_tree.specs.Readings.{ParsedOf}
use Rattle.gq_tree.specs.Readings as reading
use Rattle.gq_parse.specs.Parsed.{AreParsed}
use Rattle.gq_parse.specs.Parsed as readings
use Rattle.gq_types.specs.BuiltIn.{built_in}
use Rattle.gq_types.specs.Entries.{EntryOf}
use Rattle.gq_parse.proofs.OneReading.{OneTree, same_trees}
use Rattle.gq_document.specs.Definitions.{OperationOf, FragmentOf, entry_in, fragments_of}
use Rattle.gq_document.specs.Selections.{SelectedOf, of_operation, of_fragment}
use Rattle.gq_parse.proofs.OneReading.{same_in_documents}
use Rattle.gq_schema.specs.SchemaOf.{IsTypeSystemOf}
use Rattle.gq_renamed.specs.Projects.{AreTrees, none, more}
use Rattle.gq_rules.specs.Project.{type_system_of}
use Rattle.gq_rules.specs.Validity.{IsValid}
use Rattle.gq_rewritten.specs.Rewrites.{rewritten_from}
use Rattle.gq_laws.specs.Rewriting.Documents.{Restates}
use Rattle.gq_laws.specs.Rewriting.Statics.{static_of, roots_in}
use Rattle.gq_laws.proofs.Rewriting.Executables.{fragment_stands, operation_stands, Selected}
use Rattle.gq_laws.proofs.Rewriting.ValidityLemmas.{NoneIsBoth}
use Rattle.gq_laws.specs.Rewriting.Unchanged.{RestatedProjectsKeepResponses}
use Rattle.gq_laws.proofs.Renaming.SameTypes.{IsExecutable}
use Rattle.gq_reshape.specs.Cuts.{Cut, edits_of, PassesCheck}
use Rattle.gq_reshape.specs.Helping.Judged.{IsQuiet}
use Rattle.gq_reshape.specs.Helping.Making.{SomeExecutable}
use Rattle.gq_reshape.specs.Responses.{KeepsResponses}
use Rattle.gq_reshape.proofs.Promised.{Promised, promised}
use Rattle.gq_reshape.proofs.SameEntries.{trees_read, AreOfOperations, same_entries}

-- The cut changes documents of operations and fragments alone, and these ask for what they did.
pub record IsKeeping (es : List EntryOf) (rs : List ParsedOf) (cut : Cut) : Type 0 where
  pub quiet : IsQuiet cut
  pub added : AllByRecursion IsExecutable cut.rewrite.added
  pub some : AreOfOperations cut.rewrite 0 (trees_read rs)
  pub restates : Restates (static_of es) (roots_in es) (trees_read rs) (rewritten_from cut.rewrite 0 (trees_read rs))

-- a document of that number in which an operation or a fragment stands
pub record HoldsExecutable (trees : List (List (Def Span))) (file : ℕ) : Type 0 where
  pub tree : List (Def Span)
  pub is_tree : slice_get trees file ≡ Some tree
  pub some : SomeExecutable tree

pub it_holds : (trees : List (List (Def Span))) (file i : ℕ) → HoldsExecutable trees file → (tree : List (Def Span)) → slice_get trees i ≡ Some tree → file ≡ i → SomeExecutable tree
it_holds trees file i h tree there e =
    let both : Some h.tree ≡ Some tree = sym h.is_tree ∙ ap (slice_get trees) e ∙ there in
    let same : h.tree ≡ tree = cc in
    subst SomeExecutable same h.some

pub operation_holds : (rs : List ParsedOf) (o : OperationOf) → Contains (Rattle.gq_document.specs.Definitions.operations_of rs) o → HoldsExecutable (trees_read rs) o.file
operation_holds rs o c = let s = operation_stands rs o c in record { tree = s.tree; is_tree = s.is_tree; some = record { definition = _; stands = s.stands; is = tt } }

pub fragment_holds : (rs : List ParsedOf) (f : FragmentOf) → Contains (fragments_of rs) f → HoldsExecutable (trees_read rs) f.file
fragment_holds rs f c = let s = fragment_stands rs f c in record { tree = s.tree; is_tree = s.is_tree; some = record { definition = _; stands = s.stands; is = tt } }

pub selected_holds : (es : List EntryOf) (rs : List ParsedOf) (s : SelectedOf) → Selected rs es s → HoldsExecutable (trees_read rs) s.file
selected_holds es rs s (of_operation {o = o} c w) = subst (HoldsExecutable (trees_read rs)) (sym w.0) (operation_holds rs o c)
selected_holds es rs s (of_fragment {f = f} c w) = subst (HoldsExecutable (trees_read rs)) (sym w.0) (fragment_holds rs f c)

module _ (one_tree : OneTree) where
  -- what is read of texts that have trees are these
  pub read_trees : {documents : List Doc} {rs : List ParsedOf} {trees : List (List (Def Span))} → AreParsed documents rs → AreTrees documents trees → trees_read rs ≡ trees
  read_trees readings.none none = refl
  read_trees (readings.more {document = document} {one = reading.tree d} {readings = rs} p ps) (more {tree = tree} {trees = trees} q qs) =
      ap (λ (t : List (Def Span)). t ∷ trees_read rs) (one_tree document.text d tree p q) ∙ ap (λ (ts : List (List (Def Span))). tree ∷ ts) (read_trees ps qs)
  read_trees (readings.more {one = reading.syntax place} p ps) (more {tree = tree} q qs) = absurd (p.0 tree q)
  read_trees (readings.more {one = reading.limit place} p ps) (more {tree = tree} q qs) = absurd (p.0 tree q)

  module _ (apart : NoneIsBoth) (stay : RestatedProjectsKeepResponses) (documents : List Doc) (in_order : IsInOrder documents) (valid : ∥ IsValid documents ∥₁) (es : List EntryOf) (of_documents : IsTypeSystemOf documents es) where
    -- the types are those of each reading
    pub types_are : (rs : List ParsedOf) → AreParsed documents rs → type_system_of rs ≡ es
    types_are rs are = ap (λ (xs : List EntryOf). built_in ++ xs) (same_in_documents one_tree entry_in documents rs of_documents.readings are of_documents.are_readings) ∙ sym of_documents.is

    pub all_promised : (rs : List ParsedOf) → AreParsed documents rs → Promised es rs
    all_promised rs are = subst (λ (z : List EntryOf). Promised z rs) (types_are rs are) (promised apart documents valid rs are)

    moved : (trees trees' : List (List (Def Span))) (after : List (List (Def (Unit {0})))) (cut : Cut) → trees ≡ trees' → after ≡ rewritten_from cut.rewrite 0 trees' → Restates (static_of es) (roots_in es) trees (rewritten_from cut.rewrite 0 trees) → Restates (static_of es) (roots_in es) trees' after
    moved trees trees' after cut same is restates =
        let R : List (List (Def Span)) → Type 0 = λ ts. Restates (static_of es) (roots_in es) ts (rewritten_from cut.rewrite 0 ts) in
        subst (Restates (static_of es) (roots_in es) trees') (sym is) (subst R same restates)

    -- Where a cut is so and its edit passes the check, it keeps every response.
    pub keeping_keeps : (rs : List ParsedOf) → AreParsed documents rs → (cut : Cut) → IsKeeping es rs cut → PassesCheck documents (trees_read rs) cut → (edits : List DocumentEdit) → edits ≡ edits_of cut documents → KeepsResponses documents edits
    keeping_keeps rs are cut k passes edits edits_are before after are_before are_after =
        let same : trees_read rs ≡ trees_read before = same_trees one_tree documents rs before are are_before in
        let are_edited : AreParsed (after_edit (edits_of cut documents) documents) after = subst (λ (xs : List DocumentEdit). AreParsed (after_edit xs documents) after) edits_are are_after in
        let after_are : trees_read after ≡ passes.0.after = read_trees are_edited passes.0.are_trees in
        let rewritten : map erase_document (trees_read after) ≡ rewritten_from cut.rewrite 0 (trees_read before) =
        ap (map erase_document) after_are ∙ passes.0.rewritten ∙ ap (rewritten_from cut.rewrite 0) same in
        let restates = moved (trees_read rs) (trees_read before) (map erase_document (trees_read after)) cut same rewritten k.restates in
        let S : List EntryOf → Type 0 = λ z. Restates (static_of z) (roots_in z) (trees_read before) (map erase_document (trees_read after)) in
        let some : AreOfOperations cut.rewrite 0 (trees_read before) = subst (AreOfOperations cut.rewrite 0) same k.some in
        let kinds = (all_promised before are_before).one_kind in
        stay documents (after_edit (edits_of cut documents) documents) valid passes.1 before after are_before are_edited
        (same_entries one_tree cut.rewrite cut.replacements k.quiet k.added documents before after in_order are_before are_edited rewritten kinds some) (subst S (sym (types_are before are_before)) restates)
