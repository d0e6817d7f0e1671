-- What validity promises of the names of fields (sections 5.3.2 and 6.3.2).
use Rattle.std.proofs.Common.{List, [], sym, ap, subst, Contains}
use Rattle.std.specs.Prelude.{unwrap_or}
use Rattle.gq_fault.specs.declared.fault.Fault.{Fault}
use Rattle.gq_document.specs.Definitions.{OperationOf}
use Rattle.gq_document.specs.Executable.{ExecutableOf}
use Rattle.gq_type_system.specs.SchemaFaults.{IsSchemaFault}
use Rattle.gq_fields.specs.FieldFaults.{unknown_field}
use Rattle.gq_rules.specs.RuleFaults.{IsRuleFault, of_operations, of_fields, of_merging}
use Rattle.gq_rules.specs.Faults.{IsToldFirst, type_system, first, rule}
use Rattle.gq_rules.specs.Project.{executable_of}
use Rattle.gq_table.specs.Rows.{RowOf}
use Rattle.gq_meaning.specs.Values.{Values}
use Rattle.gq_meaning.specs.Selected.{set_of}
use Rattle.gq_meaning.specs.Response.{root}
use Rattle.gq_meaning.specs.Rewritten.{HasSubtypes}
use Rattle.gq_collect.specs.Given.{given_in}
use Rattle.gq_executor.specs.Operations.{fragments_in}
use Rattle.gq_laws.specs.Rewriting.Validity.{NothingIsDemanded}
use Rattle.gq_laws.specs.Rewriting.Agree.{static_of, NamesAgree, OperationAgrees, NamesAgreeInValid}
use Rattle.gq_laws.proofs.Rewriting.ParentsAgree.{coincide}
use Rattle.gq_laws.proofs.Rewriting.KnownFields.{field_known}
use Rattle.gq_laws.proofs.Rewriting.PlacesAgree.{Promises, operation_agrees}
use Rattle.gq_laws.proofs.Rewriting.RootTypes.{operation_root}

module _ (x : ExecutableOf) (no_schema : (fault : Fault) → IsSchemaFault x.entries fault → ⊥) (no_rule : (fault : Fault) → IsRuleFault x fault → ⊥) where
  pub promised : (rows : List RowOf) (values : Values) → HasSubtypes (static_of x.entries) (given_in x.entries rows values) → Promises x (given_in x.entries rows values)
  promised rows values subtypes = record {
    coincide = coincide x.entries;
    are_known = field_known x (λ fault f. no_rule fault (of_fields (unknown_field f)));
    merge = λ fault f. no_rule fault (of_merging f);
    subtypes = subtypes;
  }

  pub agreed : (o : OperationOf) → Contains x.operations o → (rows : List RowOf) (values : Values) → OperationAgrees x o rows values
  agreed o c rows values subtypes =
      let g = given_in x.entries rows values in
      let t = operation_root x no_schema (λ fault f. no_rule fault (of_operations f)) o c in
      subst (λ z. NamesAgree g (fragments_in x) (root z (set_of o.set))) (sym (ap (λ z. unwrap_or z []) t.1)) (operation_agrees x g (promised rows values subtypes) o c t.0 t.1)

pub agree_in_valid : NothingIsDemanded → NamesAgreeInValid
agree_in_valid nothing documents valid readings are o c rows values =
    let none = nothing documents valid readings are in
    let no_first : (other : Fault) → IsToldFirst readings other → ⊥ = λ other told. none other (first told) in
    agreed (executable_of readings) (λ fault f. none fault (first (type_system f))) (λ fault f. none fault (rule no_first f)) o c rows values
