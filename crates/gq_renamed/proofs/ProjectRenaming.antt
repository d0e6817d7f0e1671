-- The edit of a rename, made in the documents of a project.
use Rattle.std.proofs.Common.{◌≡◌, ℕ, List, [], ◌∷◌, ◌++◌, refl, sym, ap, subst, ◌∙◌, map}
use Rattle.std.specs.List.{AllByRecursion}
use Rattle.std.specs.Str.{IsUtf8}
use Rattle.gq_text.specs.declared.place.Span.{Span}
use Rattle.gq_text.specs.declared.replacement.Replacement.{Replacement}
use Rattle.gq_lex.specs.declared.token.Kind.TheVariants as kind
use Rattle.gq_lex.specs.Tokens.{IsToken}
use Rattle.gq_tree.specs.Plain.{Def, erase_document}
use Rattle.gq_project.specs.declared.document.Doc.{Doc}
use Rattle.gq_project.specs.Documents.{IsInOrder}
use Rattle.gq_edit.specs.declared.edit.DocumentEdit.{DocumentEdit}
use Rattle.gq_edit.specs.Replacements.{AreDisjoint, FitText}
use Rattle.gq_edit.specs.Edits.{AreInOrder, FitDocuments, after_edit}
use Rattle.gq_renamed.specs.Renamings.{Renaming, MayName}
use Rattle.gq_renamed.specs.Renamed.{next_number, rename_document}
use Rattle.gq_renamed.specs.Rewritten.{rename_replacements, Rewrites}
use Rattle.gq_renamed.specs.Projects.{AreTrees, none, more, number_behind, edit_if_any, rename_edits, rename_trees, RewritesProject, RenamedProjectsRead}
use Rattle.gq_renamed.proofs.DocumentAgain.{plain_def, number_kept}
use Rattle.gq_renamed.proofs.EditedParts.{Part, documents_of, edits_of, made_in, after_parts, order_parts, all_edits, fit_parts}
use Rattle.gq_renamed.proofs.Renaming.{renamed_texts_read}

-- the documents behind are numbered alike, places forgotten
behind_kept : (ds : List (Def Span)) (k : ℕ) → number_behind (erase_document ds) k ≡ number_behind ds k
behind_kept [] k = refl
behind_kept (d ∷ ds) k = ap (number_behind (erase_document ds)) (number_kept d k) ∙ behind_kept ds (next_number d k)

-- the parts of the rename, one for each document
record Parts (rule : ℕ → Renaming) (k : ℕ) (new : List ℕ) (documents : List Doc) (trees : List (List (Def Span))) : Type 0 where
  parts : List Part
  are_documents : documents_of parts ≡ documents
  are_edits : edits_of parts ≡ rename_edits rule k new documents trees
  disjoint : AllByRecursion (λ p. AreDisjoint p.replacements) parts
  fit : AllByRecursion (λ document. IsUtf8 document.text) documents → AllByRecursion (λ p. FitText p.document.text p.replacements) parts
  after : List (List (Def Span))
  are_trees : AreTrees (map made_in parts) after
  renamed : map erase_document after ≡ rename_trees rule k new (map erase_document trees)

parts_of : (rule : ℕ → Renaming) (k : ℕ) (new : List ℕ) {documents : List Doc} {trees : List (List (Def Span))} → AreTrees documents trees → IsToken kind.Name new [] → ((n : ℕ) → MayName (rule n) new) → Parts rule k new documents trees
parts_of rule k new none is_name may = record { parts = []; are_documents = refl; are_edits = refl; disjoint = tt; fit = λ utf8. tt; after = []; are_trees = none; renamed = refl }
parts_of rule k new (more {document = document} {documents = documents} {tree = tree} {trees = trees} derives others) is_name may =
    let w = parts_of rule (number_behind tree k) new others is_name may in
    let own : Rewrites rule k new document.text tree = renamed_texts_read rule k new document.text tree derives is_name may in
    let p : Part = record { document = document; replacements = rename_replacements rule k new tree } in
    record {
      parts = p ∷ w.parts;
      are_documents = ap (λ (ds : List Doc). document ∷ ds) w.are_documents;
      are_edits = ap (λ (es : List DocumentEdit). edit_if_any document (rename_replacements rule k new tree) ++ es) w.are_edits;
      disjoint = (own.disjoint, w.disjoint);
      fit = λ utf8. (own.fit utf8.0, w.fit utf8.1);
      after = own.tree ∷ w.after;
      are_trees = more own.derives w.are_trees;
      renamed = ap (λ (t : List (Def (Unit {0}))). t ∷ map erase_document w.after) own.renamed
          ∙ ap (λ (ts : List (List (Def (Unit {0})))). rename_document rule k new (erase_document tree) ∷ ts) w.renamed
          ∙ ap (λ (n : ℕ). rename_document rule k new (erase_document tree) ∷ rename_trees rule n new (map erase_document trees)) (sym (behind_kept tree k));
    }

pub renamed_projects_read : RenamedProjectsRead
renamed_projects_read rule new documents trees in_order are_trees is_name may =
    let w = parts_of rule 0 new are_trees is_name may in
    let sorted : IsInOrder (documents_of w.parts) = subst IsInOrder (sym w.are_documents) in_order in
    let D : List DocumentEdit → Type 0 = AllByRecursion (λ edit. AreDisjoint edit.replacements) in
    let F : List DocumentEdit → Type 0 = λ es. FitDocuments documents es in
    let G : List Doc → Type 0 = λ ds. FitDocuments ds (edits_of w.parts) in
    let made : map made_in w.parts ≡ after_edit (rename_edits rule 0 new documents trees) documents =
    sym (after_parts w.parts sorted) ∙ ap (λ (es : List DocumentEdit). after_edit es (documents_of w.parts)) w.are_edits ∙ ap (after_edit (rename_edits rule 0 new documents trees)) w.are_documents in
    let T : List Doc → Type 0 = λ ds. AreTrees ds w.after in
    record {
      in_order = subst AreInOrder w.are_edits (order_parts w.parts sorted);
      disjoint = subst D w.are_edits (all_edits AreDisjoint w.parts w.disjoint);
      fit = λ utf8. subst F w.are_edits (subst G w.are_documents (fit_parts w.parts sorted (w.fit utf8)));
      after = w.after;
      are_trees = subst T made w.are_trees;
      renamed = w.renamed;
    }
