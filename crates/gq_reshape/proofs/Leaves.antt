-- A cut whose edited texts read as the rewritten trees, and that breaks no rule of executable definitions, leaves a valid project.
use Rattle.std.proofs.Common.{◌≡◌, inl, inr, ℕ, suc, Bool, true, false, List, [], ◌∷◌, ◌++◌, map, slice_get, Some, refl, sym, ap, ◌∙◌, subst, ⊎_elim, arith, ◌+◌}
use Rattle.std.specs.List.{AllByRecursion}
use Rattle.gq_text.specs.declared.place.Span.{Span}
use Rattle.gq_text.specs.declared.replacement.Replacement.{Replacement}
use Rattle.gq_text.specs.Replaced.{replaced}
use Rattle.gq_tree.specs.Plain.{Def, operation, fragment, type_system, no_place, place_def, erase_document}
use Rattle.gq_tree.specs.Readings.{ParsedOf, definitions_read}
use Rattle.gq_fault.specs.declared.fault.Fault.{Fault}
use Rattle.gq_project.specs.declared.document.Doc.{Doc}
use Rattle.gq_project.specs.Documents.{IsInOrder}
use Rattle.gq_edit.specs.Edits.{after_edit}
use Rattle.gq_parse.specs.Derives.{Derives}
use Rattle.gq_parse.specs.Parsed.{AreParsed}
use Rattle.gq_parse.proofs.OneReading.{OneTree}
use Rattle.gq_types.specs.BuiltIn.{built_in}
use Rattle.gq_types.specs.Entries.{EntryOf}
use Rattle.gq_type_system.specs.SchemaFaults.{IsSchemaFault}
use Rattle.gq_document.specs.Definitions.{entries_of}
use Rattle.gq_renamed.specs.Projects.{AreTrees, none, more}
use Rattle.gq_renamed.proofs.EditedParts.{made_in}
use Rattle.gq_rules.specs.Faults.{IsFaultOf, first, rule as of_rule, unread, mixed, type_system as of_types}
use Rattle.gq_rules.specs.Project.{type_system_of, executable_of}
use Rattle.gq_rules.specs.RuleFaults.{IsRuleFault}
use Rattle.gq_rules.specs.Validity.{IsValid}
use Rattle.gq_rewritten.specs.Rewrites.{Rewrite, rewritten_document, rewritten_from}
use Rattle.gq_laws.specs.Placing.Types.{IsFaultless}
use Rattle.gq_laws.proofs.Renaming.Promises.{NothingIsDemanded, of_one_kind}
use Rattle.gq_laws.proofs.Renaming.SameTypes.{IsExecutable, IsOfTypes, AreOfOneKind}
use Rattle.gq_laws.proofs.Renaming.ValidityLemmas.{none_demanded, no_document_is_mixed}
use Rattle.gq_laws.proofs.RenamedValid.Reading.{read_trees, trees_are_read, definitions_of_trees, none_unread, AreAllOfOneKind, none_mixed}
use Rattle.gq_reshape.specs.Cuts.{Cut, edits_of, ReadsAsRewritten}
use Rattle.gq_reshape.specs.Placed.{replacements_in}
use Rattle.gq_reshape.specs.Helping.Rereading.{is_edited}
use Rattle.gq_reshape.specs.declared.placed.PlacedReplacement.{PlacedReplacement}
use Rattle.gq_reshape.proofs.Changed.{IsKeeping}
use Rattle.gq_reshape.proofs.PlacedLemmas.{parts_from, made_after}
use Rattle.gq_reshape.proofs.KeptDocuments.{kept_document}
use Rattle.gq_reshape.proofs.SameEntries.{trees_read, AreOfOperations, all_executable, rewritten_executables, same_entries}

-- definitions that are equal but for places are of one kind
executables_alike : (xs ys : List (Def Span)) → erase_document xs ≡ erase_document ys → AllByRecursion IsExecutable xs → AllByRecursion IsExecutable ys
executables_alike [] [] e h = tt
executables_alike [] (y ∷ ys) e h = absurd (cc)
executables_alike (x ∷ xs) [] e h = tt
executables_alike (operation kind name variables directives set braces place ∷ xs) (type_system one ∷ ys) e h = absurd (cc)
executables_alike (fragment name on directives set braces place ∷ xs) (type_system one ∷ ys) e h = absurd (cc)
executables_alike (type_system one ∷ xs) (y ∷ ys) e h = absurd h.0
executables_alike (x ∷ xs) (operation kind name variables directives set braces place ∷ ys) e h = (tt, executables_alike xs ys (cc) h.1)
executables_alike (x ∷ xs) (fragment name on directives set braces place ∷ ys) e h = (tt, executables_alike xs ys (cc) h.1)

types_alike : (xs ys : List (Def Span)) → erase_document xs ≡ erase_document ys → AllByRecursion IsOfTypes xs → AllByRecursion IsOfTypes ys
types_alike [] [] e h = tt
types_alike [] (y ∷ ys) e h = absurd (cc)
types_alike (x ∷ xs) [] e h = tt
types_alike (type_system one ∷ xs) (operation kind name variables directives set braces place ∷ ys) e h = absurd (cc)
types_alike (type_system one ∷ xs) (fragment name on directives set braces place ∷ ys) e h = absurd (cc)
types_alike (operation kind name variables directives set braces place ∷ xs) (y ∷ ys) e h = absurd h.0
types_alike (fragment name on directives set braces place ∷ xs) (y ∷ ys) e h = absurd h.0
types_alike (x ∷ xs) (type_system one ∷ ys) e h = (tt, types_alike xs ys (cc) h.1)

-- so they are where they erase to executable ones
executables_back : (ds : List (Def Span)) → AllByRecursion IsExecutable (erase_document ds) → AllByRecursion IsExecutable ds
executables_back [] h = tt
executables_back (operation kind name variables directives set braces place ∷ ds) h = (tt, executables_back ds h.1)
executables_back (fragment name on directives set braces place ∷ ds) h = (tt, executables_back ds h.1)
executables_back (type_system one ∷ ds) h = absurd h.0

module _ (r : Rewrite) (added : AllByRecursion IsExecutable r.added) where
  kind_after : (k : ℕ) (b a : ParsedOf) → erase_document (definitions_read a) ≡ rewritten_document r k (definitions_read b) → AreOfOneKind (definitions_read b) →
      (is_edited r k ≡ true → AllByRecursion IsExecutable (definitions_read b)) → AreOfOneKind (definitions_read a)
  kind_after k b a e kind some = by (is_edited r k) refl
    where
      by : (t : Bool) → is_edited r k ≡ t → AreOfOneKind (definitions_read a)
      by true t =
          let D : List (Def (Unit {0})) → Type 0 = λ z. AllByRecursion IsExecutable z in
          inl (executables_back (definitions_read a) (subst D (sym e) (rewritten_executables r k (definitions_read b) added (some t))))
      by false t =
          let same : erase_document (definitions_read b) ≡ erase_document (definitions_read a) = sym (e ∙ kept_document r k (definitions_read b) t) in
          ⊎_elim (λ g. inl (executables_alike (definitions_read b) (definitions_read a) same g)) (λ g. inr (types_alike (definitions_read b) (definitions_read a) same g)) kind

  kinds_after : (k : ℕ) (bs rest : List ParsedOf) → map erase_document (trees_read rest) ≡ rewritten_from r k (trees_read bs) → AreAllOfOneKind bs → AreOfOperations r k (trees_read bs) → AreAllOfOneKind rest
  kinds_after k [] [] e kinds some = tt
  kinds_after k [] (a ∷ rest) e kinds some = absurd (cc)
  kinds_after k (b ∷ bs) [] e kinds some = tt
  kinds_after k (b ∷ bs) (a ∷ rest) e kinds some = (
    kind_after k b a (cc) kinds.0 (λ t. all_executable (definitions_read b) (some.0 t) kinds.0),
    kinds_after (suc k) bs rest (cc) kinds.1 some.1,
  )

-- The documents of a project are read again one by one.
module _ (r : Rewrite) (replacements : List PlacedReplacement) where
  -- the text of a document reads as its rewritten tree after its replacements
  pub record ReadsAt (k : ℕ) (d : Doc) (tree : List (Def Span)) : Type 0 where
    pub after : List (Def Span)
    pub derives : Derives (replaced (replacements_in replacements k) d.text) after
    pub rewritten : erase_document after ≡ rewritten_document r k tree

  pub record ReadAgain (k : ℕ) (documents : List Doc) (trees : List (List (Def Span))) : Type 0 where
    pub after : List (List (Def Span))
    pub are_trees : AreTrees (map made_in (parts_from replacements k documents)) after
    pub rewritten : map erase_document after ≡ rewritten_from r k trees

  abbrev pub EachReads : ℕ → List Doc → List (List (Def Span)) → Type 0
  EachReads k [] trees = Unit {0}
  EachReads k (d ∷ ds) [] = Unit {0}
  EachReads k (d ∷ ds) (t ∷ ts) = ReadsAt k d t × EachReads (suc k) ds ts

  pub read_again : (k : ℕ) (documents : List Doc) (trees : List (List (Def Span))) → AreTrees documents trees → EachReads k documents trees → ReadAgain k documents trees
  read_again k [] [] p h = record { after = []; are_trees = none; rewritten = refl }
  read_again k [] (t ∷ ts) p h = elim p [ ]
  read_again k (d ∷ ds) [] p h = elim p [ ]
  read_again k (d ∷ ds) (t ∷ ts) (more p ps) h =
      let w = h.0 in
      let later = read_again (suc k) ds ts ps h.1 in
      record {
        after = w.after ∷ later.after;
        are_trees = more w.derives later.are_trees;
        rewritten = ap (λ (x : List (Def (Unit {0}))). x ∷ map erase_document later.after) w.rewritten ∙ ap (λ (xs : List (List (Def (Unit {0})))). rewritten_document r k t ∷ xs) later.rewritten;
      }

  -- where nothing may change, the text reads as before
  pub reads_as_before : (k : ℕ) (d : Doc) (tree : List (Def Span)) → ((k : ℕ) → is_edited r k ≡ false → replacements_in replacements k ≡ []) → is_edited r k ≡ false → Derives d.text tree → ReadsAt k d tree
  reads_as_before k d tree quiet e x = record {
    after = tree;
    derives = let D : List Replacement → Type 0 = λ rs. Derives (replaced rs d.text) tree in subst D (sym (quiet k e)) x;
    rewritten = sym (kept_document r k tree e);
  }

-- each document by its number
pub each_reads : (r : Rewrite) (placed : List PlacedReplacement) (k : ℕ) (documents : List Doc) (trees : List (List (Def Span))) → AreTrees documents trees →
    ((i : ℕ) (d : Doc) (t : List (Def Span)) → slice_get documents i ≡ Some d → slice_get trees i ≡ Some t → Derives d.text t → ReadsAt r placed (k + i) d t) → EachReads r placed k documents trees
each_reads r placed k [] [] p all = tt
each_reads r placed k [] (t ∷ ts) p all = tt
each_reads r placed k (d ∷ ds) [] p all = tt
each_reads r placed k (d ∷ ds) (t ∷ ts) (more p ps) all = (
  let here : k + 0 ≡ k = omega arith in subst (λ (n : ℕ). ReadsAt r placed n d t) here (all 0 d t refl refl p),
  each_reads r placed (suc k) ds ts ps (λ i x u a b q. let there : k + suc i ≡ suc k + i = omega arith in subst (λ (n : ℕ). ReadsAt r placed n x u) there (all (suc i) x u a b q)),
)

-- so the edited texts read as the rewritten trees
pub cut_reads : (documents : List Doc) (trees : List (List (Def Span))) (cut : Cut) → IsInOrder documents → AreTrees documents trees → EachReads cut.rewrite cut.replacements 0 documents trees → ReadsAsRewritten documents trees cut
cut_reads documents trees cut in_order are h =
    let w = read_again cut.rewrite cut.replacements 0 documents trees are h in
    let T : List Doc → Type 0 = λ ds. AreTrees ds w.after in
    record { after = w.after; are_trees = subst T (sym (made_after cut.replacements documents in_order)) w.are_trees; rewritten = w.rewritten }

module _ (one_tree : OneTree) (nothing : NothingIsDemanded) (documents : List Doc) (in_order : IsInOrder documents) (valid : ∥ IsValid documents ∥₁) (es : List EntryOf) (rs : List ParsedOf) (are : AreParsed documents rs) where
  pub leaves_valid : (cut : Cut) → IsKeeping es rs cut → ReadsAsRewritten documents (trees_read rs) cut →
      ((after : List ParsedOf) → entries_of rs ≡ entries_of after → map erase_document (trees_read after) ≡ rewritten_from cut.rewrite 0 (trees_read rs) → IsFaultless IsRuleFault (executable_of after)) →
      IsValid (after_edit (edits_of cut documents) documents)
  leaves_valid cut k w rules = record { readings = after; are_readings = trees_are_read w.are_trees; none = none_is }
    where
      after : List ParsedOf
      after = read_trees w.after

      rewritten : map erase_document (trees_read after) ≡ rewritten_from cut.rewrite 0 (trees_read rs)
      rewritten = ap (λ z. map erase_document z) (definitions_of_trees w.after) ∙ w.rewritten

      kinds : AreAllOfOneKind rs
      kinds = of_one_kind rs (no_document_is_mixed nothing documents rs valid are)

      entries : entries_of rs ≡ entries_of after
      entries = same_entries one_tree cut.rewrite cut.replacements k.quiet k.added documents rs after in_order are (trees_are_read w.are_trees) rewritten kinds k.some

      types : type_system_of after ≡ type_system_of rs
      types = ap (λ (xs : List EntryOf). built_in ++ xs) (sym entries)

      none_is : (f : Fault) → IsFaultOf after f → ⊥
      none_is f (first (unread h)) = none_unread w.after f h
      none_is f (first (mixed h)) = none_mixed after f (kinds_after cut.rewrite k.added 0 rs after rewritten kinds k.some) h
      none_is f (first (of_types h)) = none_demanded nothing documents rs valid are f (first (of_types (subst (λ (xs : List EntryOf). IsSchemaFault xs f) types h)))
      none_is f (of_rule nothing_first h) = rules after entries rewritten f h
