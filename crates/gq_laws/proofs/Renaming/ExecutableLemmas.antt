-- The operations and fragments of a project, by the numbers of its executable definitions and in lists of their own.
use Rattle.std.proofs.Common.{◌≡◌, ℕ, ◌+◌, List, [], ◌∷◌, ◌++◌, refl, sym, ◌∙◌, ap, subst, Contains, flat_map}
use Rattle.std.specs.List.{enumerate_from}
use Rattle.std.proofs.lemmas.List.{append-nil}
use Rattle.std.proofs.lemmas.Grind.{flat_map-append}
use Rattle.gq_text.specs.declared.place.Span.{Span}
use Rattle.gq_tree.specs.Plain.{Def, TypeSystemOf, operation, fragment, type_system}
use Rattle.gq_types.proofs.Gathered.{first, to_flat}
use Rattle.gq_tree.specs.Readings.{ParsedOf, definitions_read, in_document}
use Rattle.gq_document.specs.Definitions.{OperationOf, FragmentOf, operation_in, fragment_in, operations_of, fragments_of}
use Rattle.gq_spreads.proofs.RowLemmas.{stands}
use Rattle.gq_index.specs.Occurrences.{DefinitionOf, executable_in, executables}
use Rattle.gq_index.specs.VariableGroups.{IsOperationAt, IsFragmentAt, fragments_among}
use Rattle.gq_cut.proofs.FragmentCut.{executables_from}

module _ {A : Type 0} (what : ℕ → Def Span → List A) (nothing : (file : ℕ) (definition : TypeSystemOf Span) → what file (type_system definition) ≡ []) where
  abbrev of_definition : DefinitionOf → List A
  of_definition d = what d.file d.definition

  in_definition : (file : ℕ) (d : Def Span) → flat_map of_definition (executable_in file d) ≡ what file d
  in_definition file (operation kind name variables directives set braces place) = append-nil (what file (operation kind name variables directives set braces place))
  in_definition file (fragment name on directives set braces place) = append-nil (what file (fragment name on directives set braces place))
  in_definition file (type_system definition) = sym (nothing file definition)

  in_tree : (file : ℕ) (ds : List (Def Span)) → flat_map of_definition (flat_map (executable_in file) ds) ≡ flat_map (what file) ds
  in_tree file [] = refl
  in_tree file (d ∷ ds) =
      flat_map-append of_definition (executable_in file d) (flat_map (executable_in file) ds)
      ∙ ap (λ (xs : List A). xs ++ flat_map of_definition (flat_map (executable_in file) ds)) (in_definition file d)
      ∙ ap (λ (xs : List A). what file d ++ xs) (in_tree file ds)

  -- what the executable definitions are is what the definitions of the documents are
  in_readings : (file : ℕ) (rs : List ParsedOf) → flat_map of_definition (executables_from file rs) ≡ flat_map (λ r. in_document what r.0 r.1) (enumerate_from file rs)
  in_readings file [] = refl
  in_readings file (r ∷ rs) =
      flat_map-append of_definition (in_document executable_in file r) (executables_from (file + 1) rs)
      ∙ ap (λ (xs : List A). xs ++ flat_map of_definition (executables_from (file + 1) rs)) (in_tree file (definitions_read r))
      ∙ ap (λ (xs : List A). in_document what file r ++ xs) (in_readings (file + 1) rs)

pub fragments_same : (readings : List ParsedOf) → fragments_among (executables readings) ≡ fragments_of readings
fragments_same readings = in_readings fragment_in (λ file definition. refl) 0 readings

pub operations_same : (readings : List ParsedOf) → flat_map (λ (d : DefinitionOf). operation_in d.file d.definition) (executables readings) ≡ operations_of readings
operations_same readings = in_readings operation_in (λ file definition. refl) 0 readings

module _ (readings : List ParsedOf) (d : DefinitionOf) (there : Contains (executables readings) d) where
  pub operation_there : (o : OperationOf) → Contains (operation_in d.file d.definition) o → Contains (operations_of readings) o
  operation_there o is = subst (λ l. Contains l o) (operations_same readings) (to_flat (λ (e : DefinitionOf). operation_in e.file e.definition) (executables readings) d o there is)

  pub fragment_there : (f : FragmentOf) → Contains (fragment_in d.file d.definition) f → Contains (fragments_of readings) f
  fragment_there f is = subst (λ l. Contains l f) (fragments_same readings) (to_flat (λ (e : DefinitionOf). fragment_in e.file e.definition) (executables readings) d f there is)

-- what a number is, is one of all
pub operation_stands : (readings : List ParsedOf) (n : ℕ) (o : OperationOf) → IsOperationAt (executables readings) n o → Contains (operations_of readings) o
operation_stands readings n o at =
    operation_there readings at.definition (stands (executables readings) n at.definition at.at) o (subst (λ l. Contains l o) (sym at.is) (first o o [] refl))

pub fragment_stands : (readings : List ParsedOf) (n : ℕ) (f : FragmentOf) → IsFragmentAt (executables readings) n f → Contains (fragments_of readings) f
fragment_stands readings n f at =
    fragment_there readings at.definition (stands (executables readings) n at.definition at.at) f (subst (λ l. Contains l f) (sym at.is) (first f f [] refl))
