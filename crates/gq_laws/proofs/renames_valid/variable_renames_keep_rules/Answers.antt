use Rattle.gq_fields.specs.FieldFaults.{IsFieldFault}
use Rattle.gq_fragments.specs.FragmentFaults.{IsFragmentFault}
use Rattle.gq_fragments.specs.OperationFaults.{IsOperationFault}
use Rattle.gq_spreads.specs.SpreadFaults.{IsSpreadFault}
use Rattle.gq_rules.specs.RuleFaults.{of_fields, of_operations, of_fragments, of_spreads}
use Rattle.gq_laws.proofs.Renaming.Promises.{nothing_demanded}
use Rattle.gq_laws.proofs.RenamedValid.VariablesStay.{keeps_rule, keeps_variables, keeps_merging}
use Rattle.gq_laws.proofs.renames_valid.variable_renames_keep_rules.Goals as goal

pub returns : goal.returns
returns c =
    let nothing = nothing_demanded c.no_project_is_valid_and_invalid.ensures in
    let whatever = c.renames_keep_what_is_faultless.ensures in
    let law = c.variable_renames_keep_what_is_faultless.ensures in record {
      fields = keeps_rule c.one_tree.ensures nothing IsFieldFault (λ x f h. of_fields h) (λ es rule new before after stay e none. whatever.fields es rule new before after e none);
      operations = keeps_rule c.one_tree.ensures nothing IsOperationFault (λ x f h. of_operations h) (λ es rule new before after stay e none. whatever.operations es rule new before after e none);
      fragments = keeps_rule c.one_tree.ensures nothing IsFragmentFault (λ x f h. of_fragments h) law.fragments;
      spreads = keeps_rule c.one_tree.ensures nothing IsSpreadFault (λ x f h. of_spreads h) law.spreads;
      variables = keeps_variables c.one_tree.ensures nothing c.uses_are_those_of_the_rules.ensures c.places_do_not_matter_to_variable_faults.ensures;
      merging = keeps_merging c.one_tree.ensures nothing c.places_do_not_matter_to_merging_faults.ensures;
    }
