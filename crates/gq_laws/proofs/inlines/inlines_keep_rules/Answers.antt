use Rattle.gq_laws.proofs.RewrittenValid.Inlined.{fields_kept, operations_kept, fragments_kept, spreads_kept, variables_kept}
use Rattle.gq_laws.proofs.inlines.inlines_keep_rules.Goals as goal

pub returns : goal.returns
returns c =
    let law = c.trees_say_what_is_faultless.ensures in record {
      fields = fields_kept law.fields;
      operations = operations_kept law.operations;
      fragments = fragments_kept law.fragments;
      spreads = spreads_kept law.spreads;
      variables = variables_kept law.variables;
    }
