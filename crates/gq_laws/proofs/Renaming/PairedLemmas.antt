-- The executable definitions of a project before and after names in it were changed, and its operations and fragments, one by one.
use Rattle.std.proofs.Common.{◌≡◌, ℕ, suc, ◌+◌, List, [], ◌∷◌, ◌++◌, refl, sym, ap, subst, ◌∙◌, map, append-nil, arith, flat_map}
use Rattle.std.specs.List.{enumerate_from}
use Rattle.std.proofs.lemmas.Grind.{flat_map-append}
use Rattle.gq_text.specs.declared.place.Span.{Span}
use Rattle.gq_tree.specs.Plain.{TypeSystemOf, Def, operation, fragment, type_system, erase_document}
use Rattle.gq_types.specs.Entries.{EntryOf}
use Rattle.gq_tree.specs.Readings.{ParsedOf, definitions_read, in_document}
use Rattle.gq_document.specs.Definitions.{OperationOf, operation_in, fragment_in, operations_of, fragments_of}
use Rattle.gq_document.specs.Executable.{ExecutableOf}
use Rattle.gq_index.specs.Occurrences.{DefinitionOf, executable_in, executables}
use Rattle.gq_index.specs.VariableGroups.{fragments_among}
use Rattle.gq_renamed.specs.Renamings.{Renaming}
use Rattle.gq_renamed.specs.Renamed.{rename_document}
use Rattle.gq_renamed.specs.Projects.{number_behind, rename_trees}
use Rattle.gq_meaning.specs.Values.{Text}
use Rattle.gq_laws.specs.Renaming.Helping.Paired.{ArePaired, none, more}
use Rattle.gq_laws.proofs.Renaming.SameTypes.{first_tree, other_trees}

-- the executable definitions of documents, the first of which has that number
abbrev executables_from : ℕ → List ParsedOf → List DefinitionOf
executables_from file rs = flat_map (λ r. in_document executable_in r.0 r.1) (enumerate_from file rs)

after_one : (rule : ℕ → Renaming) (new : Text) (k : ℕ) (ds ds_after : List DefinitionOf) → ArePaired rule new (k + 1) ds ds_after → ArePaired rule new (suc k) ds ds_after
after_one rule new k ds ds_after h = subst (λ (n : ℕ). ArePaired rule new n ds ds_after) (omega arith) h

same_first : {A : Type 0} (x y : A) (xs ys : List A) → x ∷ xs ≡ y ∷ ys → x ≡ y
same_first x y xs ys e = cc

same_others : {A : Type 0} (x y : A) (xs ys : List A) → x ∷ xs ≡ y ∷ ys → xs ≡ ys
same_others x y xs ys e = cc

module _ (rule : ℕ → Renaming) (new : Text) where
  -- the definitions of a document, before others
  paired_document : (k file file_after : ℕ) (ds ds_after : List (Def Span)) (rest rest_after : List DefinitionOf) → erase_document ds_after ≡ rename_document rule k new (erase_document ds) → ArePaired rule new (number_behind ds k) rest rest_after →
      ArePaired rule new k (flat_map (executable_in file) ds ++ rest) (flat_map (executable_in file_after) ds_after ++ rest_after)
  paired_document k file file_after [] [] rest rest_after e h = h
  paired_document k file file_after [] (d_after ∷ ds_after) rest rest_after e h = absurd (cc)
  paired_document k file file_after (d ∷ ds) [] rest rest_after e h = absurd (cc)
  paired_document k file file_after (operation kind name variables directives set braces place ∷ ds) (operation kind' name' variables' directives' set' braces' place' ∷ ds_after) rest rest_after e h =
      more (same_first _ _ _ _ e) (after_one rule new k _ _ (paired_document (k + 1) file file_after ds ds_after rest rest_after (same_others _ _ _ _ e) h))
  paired_document k file file_after (fragment name on directives set braces place ∷ ds) (fragment name' on' directives' set' braces' place' ∷ ds_after) rest rest_after e h =
      more (same_first _ _ _ _ e) (after_one rule new k _ _ (paired_document (k + 1) file file_after ds ds_after rest rest_after (same_others _ _ _ _ e) h))
  paired_document k file file_after (type_system one ∷ ds) (type_system other ∷ ds_after) rest rest_after e h =
      paired_document k file file_after ds ds_after rest rest_after (same_others _ _ _ _ e) h
  paired_document k file file_after (d ∷ ds) (d_after ∷ ds_after) rest rest_after e h = absurd (let f = same_first _ _ _ _ e in cc)

  paired_from : (k file file_after : ℕ) (xs ys : List ParsedOf) → map erase_document (map definitions_read ys) ≡ rename_trees rule k new (map erase_document (map definitions_read xs)) → ArePaired rule new k (executables_from file xs) (executables_from file_after ys)
  paired_from k file file_after [] [] e = none
  paired_from k file file_after [] (y ∷ ys) e = absurd (cc)
  paired_from k file file_after (x ∷ xs) [] e = absurd (cc)
  paired_from k file file_after (x ∷ xs) (y ∷ ys) e =
      let a = definitions_read x in
      let b = definitions_read y in
      let others = map definitions_read xs in
      let others_after = map definitions_read ys in
      paired_document k file file_after a b (executables_from (file + 1) xs) (executables_from (file_after + 1) ys) (first_tree rule new k a b others others_after e)
      (paired_from (number_behind a k) (file + 1) (file_after + 1) xs ys (other_trees rule new k a b others others_after e))

  pub are_paired : (before after : List ParsedOf) → map erase_document (map definitions_read after) ≡ rename_trees rule 0 new (map erase_document (map definitions_read before)) → ArePaired rule new 0 (executables before) (executables after)
  are_paired before after e = paired_from 0 0 0 before after e

-- what the definitions of documents are, by their executable definitions
module _ {A : Type 0} (what : ℕ → Def Span → List A) (skips : (file : ℕ) (one : TypeSystemOf Span) → what file (type_system one) ≡ []) where
  abbrev Of : DefinitionOf → List A
  Of d = what d.file d.definition

  of_definition : (file : ℕ) (d : Def Span) → flat_map Of (executable_in file d) ≡ what file d
  of_definition file (operation kind name variables directives set braces place) = append-nil (what file (operation kind name variables directives set braces place))
  of_definition file (fragment name on directives set braces place) = append-nil (what file (fragment name on directives set braces place))
  of_definition file (type_system one) = sym (skips file one)

  of_document : (file : ℕ) (ds : List (Def Span)) → flat_map Of (flat_map (executable_in file) ds) ≡ flat_map (what file) ds
  of_document file [] = refl
  of_document file (d ∷ ds) =
      flat_map-append Of (executable_in file d) (flat_map (executable_in file) ds)
      ∙ ap (λ (l : List A). l ++ flat_map Of (flat_map (executable_in file) ds)) (of_definition file d)
      ∙ ap (λ (l : List A). what file d ++ l) (of_document file ds)

  of_readings : (file : ℕ) (rs : List ParsedOf) → flat_map Of (executables_from file rs) ≡ flat_map (λ r. in_document what r.0 r.1) (enumerate_from file rs)
  of_readings file [] = refl
  of_readings file (r ∷ rs) =
      flat_map-append Of (in_document executable_in file r) (executables_from (file + 1) rs)
      ∙ ap (λ (l : List A). l ++ flat_map Of (executables_from (file + 1) rs)) (of_document file (definitions_read r))
      ∙ ap (λ (l : List A). in_document what file r ++ l) (of_readings (file + 1) rs)

-- the operations among the definitions
abbrev pub operations_among : List DefinitionOf → List OperationOf
operations_among ds = flat_map (λ d. operation_in d.file d.definition) ds

pub operations_are : (rs : List ParsedOf) → operations_of rs ≡ operations_among (executables rs)
operations_are rs = sym (of_readings operation_in (λ file one. refl) 0 rs)

pub fragments_are : (rs : List ParsedOf) → fragments_of rs ≡ fragments_among (executables rs)
fragments_are rs = sym (of_readings fragment_in (λ file one. refl) 0 rs)

-- what executes the definitions over a type system
abbrev pub executing : List EntryOf → List DefinitionOf → ExecutableOf
executing es ds = record { entries = es; operations = operations_among ds; fragments = fragments_among ds }
