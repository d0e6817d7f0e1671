-- The edits from the places of the names that a rename changes are those of the rename.
use Rattle.std.proofs.Common.{◌≡◌, ℕ, zero, suc, ◌+◌, ◌<◌, Bool, true, false, cond, List, [], ◌∷◌, ◌++◌, length, take, drop, refl, sym, ap, subst, ◌∙◌, map, arith}
use Rattle.std.specs.Prelude.{◌==◌}
use Rattle.std.specs.List.{prefix_len}
use Rattle.std.proofs.lemmas.Bool.Decides.{nat_tests}
use Rattle.std.proofs.lemmas.List.{length-map}
use Rattle.gq_text.specs.declared.place.Span.{Span}
use Rattle.gq_text.specs.declared.replacement.Replacement.{Replacement}
use Rattle.gq_lex.specs.declared.token.Kind.TheVariants as kind
use Rattle.gq_lex.specs.Tokens.{IsToken}
use Rattle.gq_tree.specs.Plain.{NameOf, Def}
use Rattle.gq_project.specs.declared.document.Doc.{Doc}
use Rattle.gq_project.specs.Documents.{IsInOrder}
use Rattle.gq_edit.specs.declared.edit.DocumentEdit.{DocumentEdit}
use Rattle.gq_edit.specs.Replacements.{AreDisjoint}
use Rattle.gq_edit.specs.Edits.{AreInOrder}
use Rattle.gq_index.specs.declared.occurrence.Occurrence.{Occurrence}
use Rattle.gq_renamed.specs.Renamings.{Renaming, MayName}
use Rattle.gq_renamed.specs.Changed.{changed_in_document, replacements_of}
use Rattle.gq_renamed.specs.Rewritten.{rename_replacements, Rewrites}
use Rattle.gq_renamed.specs.Projects.{AreTrees, none, more, edit_if_any, number_behind, rename_edits}
use Rattle.gq_renamed.proofs.Renaming.{renamed_texts_read}
use Rattle.gq_renamed.proofs.ProjectRenaming.{renamed_projects_read}
use Rattle.gq_cut.specs.Helping.Runs.{stands_in, run, behind, replacements_at, edits_at, AreApart, occurrences_at, changed_occurrences}

-- places of another document
none_stand : (file other : ℕ) → file < other → (rule : ℕ → Renaming) (k : ℕ) (trees : List (List (Def Span))) → prefix_len (stands_in file) (changed_occurrences rule k other trees) ≡ 0
none_stand file other less rule k [] = refl
none_stand file other less rule k (tree ∷ trees) = by (changed_in_document rule k tree) (none_stand file (other + 1) (omega arith) rule (number_behind tree k) trees)
  where
    by : (ns : List (NameOf Span)) → prefix_len (stands_in file) (changed_occurrences rule (number_behind tree k) (other + 1) trees) ≡ 0 → prefix_len (stands_in file) (occurrences_at other ns ++ changed_occurrences rule (number_behind tree k) (other + 1) trees) ≡ 0
    by [] rest = rest
    by (n ∷ ns) rest =
        let e : (other == file) ≡ false = grind (arith, nat_tests) in
        ap (λ (b : Bool). cond b (1 + prefix_len (stands_in file) (occurrences_at other ns ++ changed_occurrences rule (number_behind tree k) (other + 1) trees)) 0) e

-- the run of a document's own places
own_length : (file : ℕ) (ns : List (NameOf Span)) (rest : List Occurrence) → prefix_len (stands_in file) rest ≡ 0 → prefix_len (stands_in file) (occurrences_at file ns ++ rest) ≡ length ns
own_length file [] rest e = e
own_length file (n ∷ ns) rest e =
    let t : (file == file) ≡ true = grind (arith, nat_tests) in
    ap (λ (b : Bool). cond b (1 + prefix_len (stands_in file) (occurrences_at file ns ++ rest)) 0) t
    ∙ (let h = own_length file ns rest e in omega (arith, h))

take_own : (file : ℕ) (ns : List (NameOf Span)) (rest : List Occurrence) → take (length ns) (occurrences_at file ns ++ rest) ≡ occurrences_at file ns
take_own file [] rest = refl
take_own file (n ∷ ns) rest = ap (λ (os : List Occurrence). let o : Occurrence = record { file = file; span = n.place } in o ∷ os) (take_own file ns rest)

drop_own : (file : ℕ) (ns : List (NameOf Span)) (rest : List Occurrence) → drop (length ns) (occurrences_at file ns ++ rest) ≡ rest
drop_own file [] rest = refl
drop_own file (n ∷ ns) rest = drop_own file ns rest

run_own : (file : ℕ) (ns : List (NameOf Span)) (rest : List Occurrence) → prefix_len (stands_in file) rest ≡ 0 → run file (occurrences_at file ns ++ rest) ≡ occurrences_at file ns
run_own file ns rest e = ap (λ (m : ℕ). take m (occurrences_at file ns ++ rest)) (own_length file ns rest e) ∙ take_own file ns rest

behind_own : (file : ℕ) (ns : List (NameOf Span)) (rest : List Occurrence) → prefix_len (stands_in file) rest ≡ 0 → behind file (occurrences_at file ns ++ rest) ≡ rest
behind_own file ns rest e = ap (λ (m : ℕ). drop m (occurrences_at file ns ++ rest)) (own_length file ns rest e) ∙ drop_own file ns rest

-- what is put at the places of names
replacements_are : (new : List ℕ) (file : ℕ) (ns : List (NameOf Span)) → replacements_at new (occurrences_at file ns) ≡ replacements_of new ns
replacements_are new file [] = refl
replacements_are new file (n ∷ ns) = ap (λ (rs : List Replacement). let r : Replacement = record { span = n.place; text = new } in r ∷ rs) (replacements_are new file ns)

pub edits_are : (rule : ℕ → Renaming) (new : List ℕ) (k file : ℕ) {documents : List Doc} {trees : List (List (Def Span))} → AreTrees documents trees → edits_at new file documents (changed_occurrences rule k file trees) ≡ rename_edits rule k new documents trees
edits_are rule new k file none = refl
edits_are rule new k file (more {document = document} {documents = documents} {tree = tree} {trees = trees} derives others) =
    let ns : List (NameOf Span) = changed_in_document rule k tree in
    let later : List Occurrence = changed_occurrences rule (number_behind tree k) (file + 1) trees in
    let apart = none_stand file (file + 1) (omega arith) rule (number_behind tree k) trees in
    ap (λ (os : List Occurrence). edit_if_any document (replacements_at new os) ++ edits_at new (file + 1) documents (behind file (occurrences_at file ns ++ later))) (run_own file ns later apart)
    ∙ ap (λ (rs : List Replacement). edit_if_any document rs ++ edits_at new (file + 1) documents (behind file (occurrences_at file ns ++ later))) (replacements_are new file ns)
    ∙ ap (λ (os : List Occurrence). edit_if_any document (rename_replacements rule k new tree) ++ edits_at new (file + 1) documents os) (behind_own file ns later apart)
    ∙ ap (λ (es : List DocumentEdit). edit_if_any document (rename_replacements rule k new tree) ++ es) (edits_are rule new (number_behind tree k) (file + 1) others)

pub places_apart : (rule : ℕ → Renaming) (new : List ℕ) (k file : ℕ) {documents : List Doc} {trees : List (List (Def Span))} → AreTrees documents trees → IsToken kind.Name new [] → ((n : ℕ) → MayName (rule n) new) → AreApart new file documents (changed_occurrences rule k file trees)
places_apart rule new k file none is_name may = tt
places_apart rule new k file (more {document = document} {documents = documents} {tree = tree} {trees = trees} derives others) is_name may =
    let ns : List (NameOf Span) = changed_in_document rule k tree in
    let later : List Occurrence = changed_occurrences rule (number_behind tree k) (file + 1) trees in
    let apart = none_stand file (file + 1) (omega arith) rule (number_behind tree k) trees in
    let w : Rewrites rule k new document.text tree = renamed_texts_read rule k new document.text tree derives is_name may in
    let A : List Occurrence → Type 0 = λ os. AreApart new (file + 1) documents os in (
      subst AreDisjoint (sym (ap (replacements_at new) (run_own file ns later apart) ∙ replacements_are new file ns)) w.disjoint,
      subst A (sym (behind_own file ns later apart)) (places_apart rule new (number_behind tree k) (file + 1) others is_name may),
    )

-- the same of places that are those of the rename, in documents as they are listed
pub cut_apart : (rule : ℕ → Renaming) (new : List ℕ) (listed documents : List Doc) (trees : List (List (Def Span))) (places : List Occurrence) → listed ≡ documents → AreTrees documents trees → IsToken kind.Name new [] → ((n : ℕ) → MayName (rule n) new) →
    places ≡ changed_occurrences rule 0 0 trees → AreApart new 0 listed places
cut_apart rule new listed documents trees places same are_trees is_name may is =
    let D : List Doc → Type 0 = λ ds. AreApart new 0 ds places in
    subst D (sym same) (subst (AreApart new 0 documents) (sym is) (places_apart rule new 0 0 are_trees is_name may))

pub cut_edits : (rule : ℕ → Renaming) (new : List ℕ) (listed documents : List Doc) (trees : List (List (Def Span))) (places : List Occurrence) → listed ≡ documents → AreTrees documents trees → places ≡ changed_occurrences rule 0 0 trees →
    edits_at new 0 listed places ≡ rename_edits rule 0 new documents trees
cut_edits rule new listed documents trees places same are_trees is =
    ap (λ (ds : List Doc). edits_at new 0 ds places) same ∙ ap (edits_at new 0 documents) is ∙ edits_are rule new 0 0 are_trees

pub cut_in_order : (rule : ℕ → Renaming) (new : List ℕ) (listed documents : List Doc) (trees : List (List (Def Span))) (places : List Occurrence) → listed ≡ documents → IsInOrder documents → AreTrees documents trees → IsToken kind.Name new [] → ((n : ℕ) → MayName (rule n) new) →
    places ≡ changed_occurrences rule 0 0 trees → AreInOrder (edits_at new 0 listed places)
cut_in_order rule new listed documents trees places same in_order are_trees is_name may is =
    subst AreInOrder (sym (cut_edits rule new listed documents trees places same are_trees is)) (renamed_projects_read rule new documents trees in_order are_trees is_name may).in_order
