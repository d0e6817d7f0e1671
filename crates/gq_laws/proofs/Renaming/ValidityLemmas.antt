-- What the validity of a project says of its executable definitions (section 5). That nothing is demanded of a valid
-- project is a premise, and that its uses of variables are those of the rules.
use Rattle.std.proofs.Common.{◌≡◌, ℕ, true, List, Option, Some, None, refl}
use Rattle.std.specs.Prelude.{slice_get}
use Rattle.std.specs.List.{list_any}
use Rattle.std.proofs.lemmas.Grind.{not_there}
use Rattle.gq_text.specs.declared.place.Span.{Span}
use Rattle.gq_tree.specs.Plain.{VariableOf, TypeSystemOf}
use Rattle.gq_project.specs.declared.document.Doc.{Doc}
use Rattle.gq_fault.specs.declared.code.Code.TheVariants.{MixedFile}
use Rattle.gq_fault.specs.declared.fault.Fault.{Fault}
use Rattle.gq_parse.specs.Parsed.{AreParsed}
use Rattle.gq_fault.specs.FaultPlaces.{fault_over}
use Rattle.gq_type_system.specs.DefinedTwice.{definition_place}
use Rattle.gq_tree.specs.Readings.{ParsedOf, definitions_read}
use Rattle.gq_document.specs.Definitions.{OperationOf}
use Rattle.gq_index.specs.Occurrences.{executables}
use Rattle.gq_index.specs.VariableGroups.{IsOperationAt}
use Rattle.gq_laws.specs.Renaming.Uses.{UsesAreThoseOfTheRules}
use Rattle.gq_rules.specs.Project.{type_system_of, executable_of}
use Rattle.gq_rules.specs.RuleFaults.{IsRuleFault}
use Rattle.gq_rules.specs.Faults.{IsFaultOf, mixed, first as told_first, rule, is_executable, first_of_type_system}
use Rattle.gq_rules.specs.Validity.{IsValid}
use Rattle.gq_laws.proofs.Renaming.Promises.{NothingIsDemanded}
use Rattle.gq_laws.specs.Renaming.Helping.Paired.{VariablesAreDefined, SpreadsAreDefined}
use Rattle.gq_laws.proofs.Renaming.RuleLemmas.{defines_variables, defines_spreads, one_place}

module _ (nothing : NothingIsDemanded) (documents : List Doc) (readings : List ParsedOf) (valid : ∥ IsValid documents ∥₁) (are : AreParsed documents readings) where
  -- nothing is demanded, so no rule finds anything
  pub none_demanded : (item : Fault) → IsFaultOf readings item → ⊥
  none_demanded item demanded = not_there valid (λ v. nothing documents v readings are item demanded)

  pub no_rule : (item : Fault) → IsRuleFault (executable_of readings) item → ⊥
  no_rule item fault = none_demanded item (rule (λ other told. none_demanded other (told_first told)) fault)

  -- an operation defines the variables that it uses, and each spread names a fragment
  pub variables_are_defined : UsesAreThoseOfTheRules → VariablesAreDefined (executables readings)
  variables_are_defined uses = defines_variables (type_system_of readings) readings no_rule documents are uses

  pub spreads_are_defined : SpreadsAreDefined (executables readings)
  spreads_are_defined = defines_spreads (type_system_of readings) readings no_rule

  -- no two variables of an operation have one name
  pub variable_names_differ : (n : ℕ) (o : OperationOf) → IsOperationAt (executables readings) n o → (i j : ℕ) (v w : VariableOf Span) → slice_get o.variables i ≡ Some v → slice_get o.variables j ≡ Some w → v.name.text ≡ w.name.text → i ≡ j
  variable_names_differ = one_place (type_system_of readings) readings no_rule

  -- no document has an operation or a fragment beside a definition of the type system
  pub no_document_is_mixed : (n : ℕ) (reading : ParsedOf) → slice_get readings n ≡ Some reading → list_any is_executable (definitions_read reading) ≡ true → first_of_type_system (definitions_read reading) ≡ None
  no_document_is_mixed n reading at executable = by_first (first_of_type_system (definitions_read reading)) refl
    where
      by_first : (o : Option (TypeSystemOf Span)) → first_of_type_system (definitions_read reading) ≡ o → o ≡ None
      by_first None e = refl
      by_first (Some definition) e = absurd (none_demanded (fault_over n MixedFile (definition_place definition)) (told_first (mixed (record {
        file = n;
        reading = reading;
        at = at;
        executable = executable;
        definition = definition;
        first = e;
        is = refl;
      }))))
