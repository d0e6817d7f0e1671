-- A rename leaves the type system of a project as it is: it is written in documents in which the rename changes nothing.
use Rattle.std.proofs.Common.{◌≡◌, ℕ, ◌+◌, List, [], ◌∷◌, ◌++◌, refl, sym, ap, subst, ◌∙◌, map, ◌⊎◌, ⊎_elim}
use Rattle.std.specs.Prelude.{flat_map}
use Rattle.std.specs.List.{AllByRecursion, enumerate_from}
use Rattle.gq_text.specs.declared.place.Span.{Span}
use Rattle.gq_tree.specs.Plain.{Def, operation, fragment, type_system, no_place, place_def, erase_document}
use Rattle.gq_project.specs.declared.document.Doc.{Doc}
use Rattle.gq_project.specs.Documents.{IsInOrder}
use Rattle.gq_parse.specs.Derives.{Derives}
use Rattle.gq_edit.specs.declared.edit.DocumentEdit.{DocumentEdit}
use Rattle.gq_edit.specs.Edits.{after_edit}
use Rattle.gq_tree.specs.Readings as reading
use Rattle.gq_parse.specs.Parsed.{IsParsed, AreParsed, none, more}
use Rattle.gq_types.specs.Entries.{EntryOf}
use Rattle.gq_tree.specs.Readings.{ParsedOf, definitions_read, in_document}
use Rattle.gq_document.specs.Definitions.{entry_in, entries_of}
use Rattle.gq_parse.proofs.OneReading.{OneTree}
use Rattle.gq_renamed.specs.Renamings.{Renaming}
use Rattle.gq_renamed.specs.Renamed.{rename_def, next_number, rename_document}
use Rattle.gq_renamed.specs.Changed.{changed_in_document, replacements_of}
use Rattle.gq_renamed.specs.Rewritten.{rename_replacements}
use Rattle.gq_renamed.specs.Projects as projects
use Rattle.gq_renamed.specs.Projects.{AreTrees, number_behind, edit_if_any, rename_edits, rename_trees}
use Rattle.gq_renamed.proofs.DocumentAgain.{number_kept}
use Rattle.gq_renamed.proofs.EditedParts.{Part, documents_of, edits_of, made_in, after_parts}
use Rattle.gq_meaning.specs.Values.{Text}

-- an operation or a fragment, and one of the type system
abbrev pub IsExecutable : {P : Type 0} → Def P → Type 0
IsExecutable (operation kind name variables directives set braces place) = Unit {0}
IsExecutable (fragment name on directives set braces place) = Unit {0}
IsExecutable (type_system definition) = ⊥

abbrev pub IsOfTypes : {P : Type 0} → Def P → Type 0
IsOfTypes (operation kind name variables directives set braces place) = ⊥
IsOfTypes (fragment name on directives set braces place) = ⊥
IsOfTypes (type_system definition) = Unit {0}

-- definitions of one kind alone
abbrev pub AreOfOneKind : List (Def Span) → Type 0
AreOfOneKind ds = AllByRecursion IsExecutable ds ⊎ AllByRecursion IsOfTypes ds

-- operations and fragments stay such, and define nothing of the type system
executable_after : (r : Renaming) (new : Text) (d d_after : Def Span) → place_def no_place d_after ≡ rename_def r new (place_def no_place d) → IsExecutable d → IsExecutable d_after
executable_after r new (operation kind name variables directives set braces place) (operation kind_after name_after variables_after directives_after set_after braces_after place_after) e h = tt
executable_after r new (operation kind name variables directives set braces place) (fragment name_after on directives_after set_after braces_after place_after) e h = tt
executable_after r new (operation kind name variables directives set braces place) (type_system one) e h = absurd (cc)
executable_after r new (fragment name on directives set braces place) (operation kind_after name_after variables_after directives_after set_after braces_after place_after) e h = tt
executable_after r new (fragment name on directives set braces place) (fragment name_after on_after directives_after set_after braces_after place_after) e h = tt
executable_after r new (fragment name on directives set braces place) (type_system one) e h = absurd (cc)
executable_after r new (type_system one) d_after e h = absurd h

pub executables_after : (rule : ℕ → Renaming) (new : Text) (k : ℕ) (ds ds_after : List (Def Span)) → erase_document ds_after ≡ rename_document rule k new (erase_document ds) → AllByRecursion IsExecutable ds → AllByRecursion IsExecutable ds_after
executables_after rule new k [] [] e h = tt
executables_after rule new k [] (d_after ∷ ds_after) e h = absurd (cc)
executables_after rule new k (d ∷ ds) [] e h = tt
executables_after rule new k (d ∷ ds) (d_after ∷ ds_after) e h =
    (executable_after (rule k) new d d_after (let f = e in cc) h.0, executables_after rule new (next_number (place_def no_place d) k) ds ds_after (let f = e in cc) h.1)

no_entry : (file : ℕ) (ds : List (Def Span)) → AllByRecursion IsExecutable ds → flat_map (entry_in file) ds ≡ []
no_entry file [] h = refl
no_entry file (operation kind name variables directives set braces place ∷ ds) h = no_entry file ds h.1
no_entry file (fragment name on directives set braces place ∷ ds) h = no_entry file ds h.1
no_entry file (type_system one ∷ ds) h = absurd h.0

-- in definitions of the type system no name is changed
nothing_changed : (rule : ℕ → Renaming) (k : ℕ) (ds : List (Def Span)) → AllByRecursion IsOfTypes ds → changed_in_document rule k ds ≡ []
nothing_changed rule k [] h = refl
nothing_changed rule k (operation kind name variables directives set braces place ∷ ds) h = absurd h.0
nothing_changed rule k (fragment name on directives set braces place ∷ ds) h = absurd h.0
nothing_changed rule k (type_system one ∷ ds) h = nothing_changed rule k ds h.1

-- what is read of a text with a tree
tree_read : OneTree → (text : List ℕ) (r : ParsedOf) (tree : List (Def Span)) → IsParsed text r → Derives text tree → definitions_read r ≡ tree
tree_read one_tree text (reading.tree d) tree p q = one_tree text d tree p q
tree_read one_tree text (reading.syntax place) tree p q = absurd (p.0 tree q)
tree_read one_tree text (reading.limit place) tree p q = absurd (p.0 tree q)

-- the documents behind are numbered alike, places forgotten
pub behind_kept : (ds : List (Def Span)) (k : ℕ) → number_behind (erase_document ds) k ≡ number_behind ds k
behind_kept [] k = refl
behind_kept (d ∷ ds) k = ap (number_behind (erase_document ds)) (number_kept d k) ∙ behind_kept ds (next_number d k)

-- the trees of a rename, the first one apart
pub first_tree : (rule : ℕ → Renaming) (new : Text) (k : ℕ) (x y : List (Def Span)) (xs ys : List (List (Def Span))) → map erase_document (y ∷ ys) ≡ rename_trees rule k new (map erase_document (x ∷ xs)) → erase_document y ≡ rename_document rule k new (erase_document x)
first_tree rule new k x y xs ys e = cc

pub other_trees : (rule : ℕ → Renaming) (new : Text) (k : ℕ) (x y : List (Def Span)) (xs ys : List (List (Def Span))) → map erase_document (y ∷ ys) ≡ rename_trees rule k new (map erase_document (x ∷ xs)) → map erase_document ys ≡ rename_trees rule (number_behind x k) new (map erase_document xs)
other_trees rule new k x y xs ys e =
    let tail : map erase_document ys ≡ rename_trees rule (number_behind (erase_document x) k) new (map erase_document xs) = cc in
    tail ∙ ap (λ (n : ℕ). rename_trees rule n new (map erase_document xs)) (behind_kept x k)

module _ (one_tree : OneTree) (rule : ℕ → Renaming) (new : Text) where
  -- each document, with what the rename replaces in it
  parts_of : ℕ → List Doc → List ParsedOf → List Part
  parts_of k [] rs = []
  parts_of k (document ∷ documents) [] = []
  parts_of k (document ∷ documents) (r ∷ rs) = record { document = document; replacements = rename_replacements rule k new (definitions_read r) } ∷ parts_of (number_behind (definitions_read r) k) documents rs

  are_documents : (k : ℕ) {documents : List Doc} {rs : List ParsedOf} → AreParsed documents rs → documents_of (parts_of k documents rs) ≡ documents
  unfolding parts_of
  are_documents k none = refl
  are_documents k (more {document = document} {one = r} p ps) = ap (λ (ds : List Doc). document ∷ ds) (are_documents (number_behind (definitions_read r) k) ps)

  are_edits : (k : ℕ) {documents : List Doc} {rs : List ParsedOf} → AreParsed documents rs → edits_of (parts_of k documents rs) ≡ rename_edits rule k new documents (map definitions_read rs)
  unfolding parts_of
  are_edits k none = refl
  are_edits k (more {document = document} {one = r} p ps) = ap (λ (es : List DocumentEdit). edit_if_any document (rename_replacements rule k new (definitions_read r)) ++ es) (are_edits (number_behind (definitions_read r) k) ps)

  edited_parts : {documents : List Doc} {rs : List ParsedOf} → IsInOrder documents → AreParsed documents rs → after_edit (rename_edits rule 0 new documents (map definitions_read rs)) documents ≡ map made_in (parts_of 0 documents rs)
  edited_parts {documents} {rs} in_order are =
      let parts = parts_of 0 documents rs in
      let e = are_documents 0 are in
      ap (λ (es : List DocumentEdit). after_edit es documents) (sym (are_edits 0 are))
      ∙ ap (after_edit (edits_of parts)) (sym e)
      ∙ after_parts parts (subst IsInOrder (sym e) in_order)

  -- the text of a document of the type system stays
  text_stays : (k : ℕ) (document : Doc) (x y : ParsedOf) → Derives document.text (definitions_read x) → AllByRecursion IsOfTypes (definitions_read x) →
      IsParsed (made_in (record { document = document; replacements = rename_replacements rule k new (definitions_read x) })).text y → definitions_read y ≡ definitions_read x
  text_stays k document x y derives types read =
      let nothing : rename_replacements rule k new (definitions_read x) ≡ [] = ap (replacements_of new) (nothing_changed rule k (definitions_read x) types) in
      let again : IsParsed document.text y = subst (λ rs. IsParsed (made_in (record { document = document; replacements = rs })).text y) nothing read in
      tree_read one_tree document.text y (definitions_read x) again derives

  document_stays : (k file : ℕ) (document : Doc) (x y : ParsedOf) → Derives document.text (definitions_read x) → IsParsed (made_in (record { document = document; replacements = rename_replacements rule k new (definitions_read x) })).text y →
      erase_document (definitions_read y) ≡ rename_document rule k new (erase_document (definitions_read x)) → AreOfOneKind (definitions_read x) → in_document entry_in file y ≡ in_document entry_in file x
  document_stays k file document x y derives read e kinds =
      ⊎_elim
      (λ h. no_entry file (definitions_read y) (executables_after rule new k (definitions_read x) (definitions_read y) e h) ∙ sym (no_entry file (definitions_read x) h))
      (λ h. ap (λ (ds : List (Def Span)). flat_map (entry_in file) ds) (text_stays k document x y derives h read))
      kinds

  same_from : (k file : ℕ) (documents : List Doc) (xs ys : List ParsedOf) → AreParsed documents xs → AreTrees documents (map definitions_read xs) → AreParsed (map made_in (parts_of k documents xs)) ys →
      map erase_document (map definitions_read ys) ≡ rename_trees rule k new (map erase_document (map definitions_read xs)) → AllByRecursion (λ r. AreOfOneKind (definitions_read r)) xs →
      flat_map (λ r. in_document entry_in r.0 r.1) (enumerate_from file ys) ≡ flat_map (λ r. in_document entry_in r.0 r.1) (enumerate_from file xs)
  unfolding parts_of
  same_from k file [] [] [] p t q e h = refl
  same_from k file [] [] (y ∷ ys) p t q e h = elim q [ ]
  same_from k file [] (x ∷ xs) ys p t q e h = elim p [ ]
  same_from k file (document ∷ documents) [] ys p t q e h = elim p [ ]
  same_from k file (document ∷ documents) (x ∷ xs) [] p t q e h = elim q [ ]
  same_from k file (document ∷ documents) (x ∷ xs) (y ∷ ys) (more p ps) (projects.more t ts) (more q qs) e h =
      ap (λ (es : List EntryOf). es ++ flat_map (λ r. in_document entry_in r.0 r.1) (enumerate_from (file + 1) ys))
      (document_stays k file document x y t q (first_tree rule new k (definitions_read x) (definitions_read y) (map definitions_read xs) (map definitions_read ys) e) h.0)
      ∙ ap (λ (es : List EntryOf). in_document entry_in file x ++ es)
      (same_from (number_behind (definitions_read x) k) (file + 1) documents xs ys ps ts qs (other_trees rule new k (definitions_read x) (definitions_read y) (map definitions_read xs) (map definitions_read ys) e) h.1)

  pub same_entries : (documents : List Doc) (before after : List ParsedOf) → IsInOrder documents → AreParsed documents before → AreTrees documents (map definitions_read before) →
      AreParsed (after_edit (rename_edits rule 0 new documents (map definitions_read before)) documents) after → map erase_document (map definitions_read after) ≡ rename_trees rule 0 new (map erase_document (map definitions_read before)) →
      AllByRecursion (λ r. AreOfOneKind (definitions_read r)) before → entries_of after ≡ entries_of before
  same_entries documents before after in_order are trees are_after e kinds =
      same_from 0 0 documents before after are trees (subst (λ (ds : List Doc). AreParsed ds after) (edited_parts in_order are) are_after) e kinds
