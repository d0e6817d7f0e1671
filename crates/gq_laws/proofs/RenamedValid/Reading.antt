-- What is read of documents after a rename, and that it has no fault beside those of the rules.
use Rattle.std.proofs.Common.{◌≡◌, ℕ, zero, suc, true, List, [], ◌∷◌, Some, map, refl, ap, subst, ⊎_elim, inl, inr}
use Rattle.std.specs.Prelude.{slice_get}
use Rattle.std.specs.List.{AllByRecursion, list_any}
use Rattle.gq_text.specs.declared.place.Span.{Span}
use Rattle.gq_tree.specs.Plain.{Def, operation, fragment, type_system, erase_document, TypeSystemOf}
use Rattle.gq_tree.specs.Readings.{ParsedOf, definitions_read}
use Rattle.gq_tree.specs.Readings as reading
use Rattle.gq_project.specs.declared.document.Doc.{Doc}
use Rattle.gq_fault.specs.declared.fault.Fault.{Fault}
use Rattle.gq_parse.specs.Parsed.{AreParsed}
use Rattle.gq_parse.specs.Parsed as readings
use Rattle.gq_types.specs.Entries.{Text}
use Rattle.gq_renamed.specs.Renamings.{Renaming}
use Rattle.gq_renamed.specs.Renamed.{rename_document}
use Rattle.gq_renamed.specs.Projects.{AreTrees, number_behind, rename_trees}
use Rattle.gq_renamed.specs.Projects as trees
use Rattle.gq_rules.specs.Trees.{HasTree}
use Rattle.gq_rules.specs.Unread.{IsUnread, syntax, limit}
use Rattle.gq_rules.specs.Faults.{is_executable, first_of_type_system, IsMixed}
use Rattle.gq_laws.proofs.Renaming.SameTypes.{IsExecutable, IsOfTypes, AreOfOneKind, executables_after, first_tree, other_trees}

-- where no text is without a tree, what is read are the trees
abbrev pub HaveTrees : List Doc → Type 0
HaveTrees documents = AllByRecursion (λ document. HasTree document.text) documents

pub trees_read : {documents : List Doc} {rs : List ParsedOf} → AreParsed documents rs → ((HaveTrees documents → ⊥) → ⊥) → AreTrees documents (map definitions_read rs)
trees_read readings.none all = trees.none
trees_read (readings.more {one = reading.tree d} p ps) all = trees.more p (trees_read ps (λ without. all (λ h. without h.1)))
trees_read (readings.more {one = reading.syntax place} p ps) all = absurd (all (λ h. p.0 h.0.tree h.0.derives))
trees_read (readings.more {one = reading.limit place} p ps) all = absurd (all (λ h. p.0 h.0.tree h.0.derives))

-- trees are read
abbrev pub read_trees : List (List (Def Span)) → List ParsedOf
read_trees ts = map reading.tree ts

pub trees_are_read : {documents : List Doc} {ts : List (List (Def Span))} → AreTrees documents ts → AreParsed documents (read_trees ts)
trees_are_read trees.none = readings.none
trees_are_read (trees.more p ps) = readings.more p (trees_are_read ps)

pub definitions_of_trees : (ts : List (List (Def Span))) → map definitions_read (read_trees ts) ≡ ts
definitions_of_trees [] = refl
definitions_of_trees (t ∷ ts) = ap (λ z. t ∷ z) (definitions_of_trees ts)

is_tree : (ts : List (List (Def Span))) (n : ℕ) (r : ParsedOf) → slice_get (read_trees ts) n ≡ Some r → (t : List (Def Span)) × (r ≡ reading.tree t)
is_tree [] n r e = absurd (cc)
is_tree (t ∷ ts) zero r e = (t, let f = e in cc)
is_tree (t ∷ ts) (suc n) r e = is_tree ts n r e

pub none_unread : (ts : List (List (Def Span))) (f : Fault) → IsUnread (read_trees ts) f → ⊥
none_unread ts f (syntax {file} {place} e is) = let t = is_tree ts file (reading.syntax place) e in let f = t.1 in absurd (cc)
none_unread ts f (limit {file} {place} e is) = let t = is_tree ts file (reading.limit place) e in let f = t.1 in absurd (cc)

-- Definitions of one kind stay of that kind.
types_after : (rule : ℕ → Renaming) (new : Text) (k : ℕ) (ds ds_after : List (Def Span)) → erase_document ds_after ≡ rename_document rule k new (erase_document ds) →
    AllByRecursion IsOfTypes ds → AllByRecursion IsOfTypes ds_after
types_after rule new k [] [] e h = tt
types_after rule new k [] (d_after ∷ ds_after) e h = absurd (cc)
types_after rule new k (d ∷ ds) [] e h = tt
types_after rule new k (type_system one ∷ ds) (type_system other ∷ ds_after) e h = (tt, types_after rule new k ds ds_after (let f = e in cc) h.1)
types_after rule new k (type_system one ∷ ds) (operation kind name variables directives set braces place ∷ ds_after) e h = absurd (cc)
types_after rule new k (type_system one ∷ ds) (fragment name on directives set braces place ∷ ds_after) e h = absurd (cc)
types_after rule new k (operation kind name variables directives set braces place ∷ ds) (d_after ∷ ds_after) e h = absurd h.0
types_after rule new k (fragment name on directives set braces place ∷ ds) (d_after ∷ ds_after) e h = absurd h.0

abbrev pub AreAllOfOneKind : List ParsedOf → Type 0
AreAllOfOneKind rs = AllByRecursion (λ r. AreOfOneKind (definitions_read r)) rs

pub kinds_after : (rule : ℕ → Renaming) (new : Text) (k : ℕ) (xs ys : List ParsedOf) →
    map erase_document (map definitions_read ys) ≡ rename_trees rule k new (map erase_document (map definitions_read xs)) → AreAllOfOneKind xs → AreAllOfOneKind ys
kinds_after rule new k [] [] e h = tt
kinds_after rule new k [] (y ∷ ys) e h = absurd (cc)
kinds_after rule new k (x ∷ xs) [] e h = tt
kinds_after rule new k (x ∷ xs) (y ∷ ys) e h =
    let one = first_tree rule new k (definitions_read x) (definitions_read y) (map definitions_read xs) (map definitions_read ys) e in
    let others = other_trees rule new k (definitions_read x) (definitions_read y) (map definitions_read xs) (map definitions_read ys) e in (
      ⊎_elim
          (λ g. inl (executables_after rule new k (definitions_read x) (definitions_read y) one g))
          (λ g. inr (types_after rule new k (definitions_read x) (definitions_read y) one g))
          h.0,
      kinds_after rule new (number_behind (definitions_read x) k) xs ys others h.1,
    )

-- such definitions are not mixed
none_first : (ds : List (Def Span)) (d : TypeSystemOf Span) → AllByRecursion IsExecutable ds → first_of_type_system ds ≡ Some d → ⊥
none_first [] d h e = absurd (cc)
none_first (operation kind name variables directives set braces place ∷ ds) d h e = none_first ds d h.1 e
none_first (fragment name on directives set braces place ∷ ds) d h e = none_first ds d h.1 e
none_first (type_system one ∷ ds) d h e = absurd h.0

none_executable : (ds : List (Def Span)) → AllByRecursion IsOfTypes ds → list_any is_executable ds ≡ true → ⊥
none_executable [] h e = absurd (cc)
none_executable (operation kind name variables directives set braces place ∷ ds) h e = absurd h.0
none_executable (fragment name on directives set braces place ∷ ds) h e = absurd h.0
none_executable (type_system one ∷ ds) h e = none_executable ds h.1 e

at_number : (rs : List ParsedOf) (n : ℕ) (r : ParsedOf) → AreAllOfOneKind rs → slice_get rs n ≡ Some r → AreOfOneKind (definitions_read r)
at_number [] n r h e = absurd (cc)
at_number (x ∷ rs) zero r h e =
    let same : x ≡ r = cc in
    subst (λ z. AreOfOneKind (definitions_read z)) same h.0
at_number (x ∷ rs) (suc n) r h e = at_number rs n r h.1 e

pub none_mixed : (rs : List ParsedOf) (f : Fault) → AreAllOfOneKind rs → IsMixed rs f → ⊥
none_mixed rs f h m =
    ⊎_elim
    (λ g. none_first (definitions_read m.reading) m.definition g m.first)
    (λ g. none_executable (definitions_read m.reading) g m.executable)
    (at_number rs m.file m.reading h m.at)
