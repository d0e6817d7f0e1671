-- Where the name of a fragment stands in a project, by an index, are the names that its rename changes.
use Rattle.std.proofs.Common.{◌≡◌, ℕ, ◌+◌, Bool, true, false, List, [], ◌∷◌, ◌++◌, refl, sym, ap, subst, ◌∙◌, map, flat_map, append-nil, if◌then◌else◌}
use Rattle.std.specs.List.{enumerate_from, filter}
use Rattle.std.specs.Str.{bytes_eq}
use Rattle.std.specs.Cmp.Lexicographic.{bytes_decides}
use Rattle.std.proofs.lemmas.Grind.{flat_map-append}
use Rattle.std.proofs.lemmas.List.{map-append}
use Rattle.std.proofs.lemmas.List.Elements.{filter-append}
use Rattle.std.proofs.lemmas.Bool.{false_from_ne_true}
use Rattle.gq_text.specs.declared.place.Span.{Span}
use Rattle.gq_lex.proofs.Readings.{one_reading}
use Rattle.gq_tree.specs.Plain.{NameOf, Def, operation, fragment, type_system}
use Rattle.gq_tree.specs.Names.{names_in, fragment_names}
use Rattle.gq_project.specs.declared.document.Doc.{Doc}
use Rattle.gq_parse.specs.Derives.{Derives}
use Rattle.gq_parse.proofs.UniqueDocuments.{same_document}
use Rattle.gq_tree.specs.Readings as reading
use Rattle.gq_parse.specs.Parsed.{IsParsed, AreParsed}
use Rattle.gq_parse.specs.Parsed as readings
use Rattle.gq_tree.specs.Readings.{ParsedOf, definitions_read, in_document, in_documents}
use Rattle.gq_index.specs.declared.occurrence.Occurrence.{Occurrence}
use Rattle.gq_index.specs.Occurrences.{DefinitionOf, AreExecutables, executable_in, executables, occurrences_of, fragment_occurrences}
use Rattle.gq_renamed.specs.Renamings.{Renaming, fragment_called}
use Rattle.gq_renamed.specs.Changed.{changed_in_document}
use Rattle.gq_renamed.specs.Projects.{AreTrees, none, more, number_behind}
use Rattle.gq_renamed.proofs.Called.{document_called}
use Rattle.gq_cut.specs.Helping.Runs.{occurrences_at, changed_occurrences}

pub one_tree : (text : List ℕ) (a b : List (Def Span)) → Derives text a → Derives text b → a ≡ b
one_tree text a b p q = same_document p.derived (one_reading text p.tokens q.tokens p.reads q.reads) q.derived

-- what a reading of a text with a tree defines
pub tree_read : (text : List ℕ) (r : ParsedOf) (tree : List (Def Span)) → IsParsed text r → Derives text tree → definitions_read r ≡ tree
tree_read text (reading.tree d) tree p q = one_tree text d tree p q
tree_read text (reading.syntax place) tree p q = absurd (p.0 tree q)
tree_read text (reading.limit place) tree p q = absurd (p.0 tree q)

-- the texts are compared either way round
pub same_test : (a b : List ℕ) → bytes_eq a b ≡ bytes_eq b a
same_test a b = by (bytes_eq a b) refl
  where
    by : (t : Bool) → bytes_eq a b ≡ t → t ≡ bytes_eq b a
    by true e = sym ((bytes_decides b a).1 (sym ((bytes_decides a b).0 e)))
    by false e = sym (false_from_ne_true _ (λ h. let f : true ≡ false = sym ((bytes_decides a b).1 (sym ((bytes_decides b a).0 h))) ∙ e in cc))

pub filter_alike : {A : Type 0} (p q : A → Bool) → ((x : A) → p x ≡ q x) → (xs : List A) → filter p xs ≡ filter q xs
filter_alike p q h [] = refl
filter_alike {A} p q h (x ∷ xs) = ap (λ (b : Bool). if b then x ∷ filter p xs else filter p xs) (h x) ∙ ap (λ (l : List A). if q x then x ∷ l else l) (filter_alike p q h xs)

abbrev named : List ℕ → NameOf Span → Bool
named old n = bytes_eq n.text old

abbrev pub stands : List ℕ → DefinitionOf → List Occurrence
stands old d = occurrences_of d.file old (names_in d.definition)

names_stand : (old : List ℕ) (file : ℕ) (names : List (NameOf Span)) → occurrences_of file old names ≡ occurrences_at file (filter (named old) names)
names_stand old file names = ap (occurrences_at file) (filter_alike (λ (n : NameOf Span). bytes_eq old n.text) (named old) (λ n. same_test old n.text) names)

def_stands : (old : List ℕ) (file : ℕ) (d : Def Span) → flat_map (stands old) (executable_in file d) ≡ occurrences_at file (filter (named old) (names_in d))
def_stands old file (operation kind name variables directives set braces place) =
    let d : Def Span = operation kind name variables directives set braces place in
    append-nil (occurrences_of file old (names_in d)) ∙ names_stand old file (names_in d)
def_stands old file (fragment name on directives set braces place) =
    let d : Def Span = fragment name on directives set braces place in
    append-nil (occurrences_of file old (names_in d)) ∙ names_stand old file (names_in d)
def_stands old file (type_system one) = refl

tree_stands : (old : List ℕ) (file : ℕ) (tree : List (Def Span)) → flat_map (stands old) (flat_map (executable_in file) tree) ≡ occurrences_at file (filter (named old) (fragment_names tree))
tree_stands old file [] = refl
tree_stands old file (d ∷ ds) =
    flat_map-append (stands old) (executable_in file d) (flat_map (executable_in file) ds)
    ∙ ap (λ (os : List Occurrence). os ++ flat_map (stands old) (flat_map (executable_in file) ds)) (def_stands old file d)
    ∙ ap (λ (os : List Occurrence). occurrences_at file (filter (named old) (names_in d)) ++ os) (tree_stands old file ds)
    ∙ sym (map-append (λ (n : NameOf Span). let o : Occurrence = record { file = file; span = n.place } in o) (filter (named old) (names_in d)) (filter (named old) (fragment_names ds)))
    ∙ ap (occurrences_at file) (sym (filter-append (named old) (names_in d) (fragment_names ds)))

abbrev pub executables_from : ℕ → List ParsedOf → List DefinitionOf
executables_from file rs = flat_map (λ r. in_document executable_in r.0 r.1) (enumerate_from file rs)

project_stands : (old : List ℕ) (k file : ℕ) (documents : List Doc) (rs : List ParsedOf) (trees : List (List (Def Span))) → AreParsed documents rs → AreTrees documents trees →
    flat_map (stands old) (executables_from file rs) ≡ changed_occurrences (λ n. fragment_called old) k file trees
project_stands old k file [] [] [] readings.none none = refl
project_stands old k file [] [] (tree ∷ trees) p q = elim q [ ]
project_stands old k file [] (r ∷ rs) trees p q = elim p [ ]
project_stands old k file (document ∷ documents) [] trees p q = elim p [ ]
project_stands old k file (document ∷ documents) (r ∷ rs) [] p q = elim q [ ]
project_stands old k file (document ∷ documents) (r ∷ rs) (tree ∷ trees) (readings.more p ps) (more q qs) =
    flat_map-append (stands old) (in_document executable_in file r) (executables_from (file + 1) rs)
    ∙ ap (λ (ds : List (Def Span)). flat_map (stands old) (flat_map (executable_in file) ds) ++ flat_map (stands old) (executables_from (file + 1) rs)) (tree_read document.text r tree p q)
    ∙ ap (λ (os : List Occurrence). os ++ flat_map (stands old) (executables_from (file + 1) rs)) (tree_stands old file tree ∙ ap (occurrences_at file) (sym (document_called old k tree)))
    ∙ ap (λ (os : List Occurrence). occurrences_at file (changed_in_document (λ n. fragment_called old) k tree) ++ os) (project_stands old (number_behind tree k) (file + 1) documents rs trees ps qs)

-- the places that an index of the documents tells are those of the names that the rename changes
pub fragment_changes : (old : List ℕ) (documents : List Doc) (ds : List DefinitionOf) (trees : List (List (Def Span))) → AreExecutables documents ds → AreTrees documents trees →
    fragment_occurrences ds old ≡ changed_occurrences (λ n. fragment_called old) 0 0 trees
fragment_changes old documents ds trees x are_trees =
    ap (λ (es : List DefinitionOf). fragment_occurrences es old) x.is ∙ project_stands old 0 0 documents x.readings trees x.are_readings are_trees
