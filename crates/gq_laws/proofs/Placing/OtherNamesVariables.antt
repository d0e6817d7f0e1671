-- The faults of variables, where fragments are called otherwise: they are the same.
use Rattle.std.proofs.Common.{subst}
use Rattle.gq_fault.specs.declared.fault.Fault.{Fault}
use Rattle.gq_types.specs.Entries.{Text}
use Rattle.gq_document.specs.Definitions.{OperationOf}
use Rattle.gq_document.specs.Executable.{ExecutableOf}
use Rattle.gq_variables.specs.VariableFaults.{IsFaultOfOperation, not_unique, not_of_input_type, not_defined, not_used, not_allowed, IsVariableFault}
use Rattle.gq_laws.proofs.Placing.OtherNames.{other_operation, other_names, KeepsApart, from_map}
use Rattle.gq_laws.proofs.Placing.OtherNamesUses.{reached_use_to, reached_use_from}

module _ (shown : Text → Text) (apart : KeepsApart shown) (x : ExecutableOf) where
  in_operation : (o : OperationOf) (f : Fault) → IsFaultOfOperation (other_names shown x) (other_operation shown o) f → IsFaultOfOperation x o f
  in_operation o f (not_unique h) = not_unique (record { variable = h.variable; repeated = h.repeated; is = h.is })
  in_operation o f (not_of_input_type h) = not_of_input_type (record { variable = h.variable; defined = h.defined; no_input = h.no_input; is = h.is })
  in_operation o f (not_defined h) = not_defined (record { one = h.one; reached = reached_use_from shown apart x o h.one h.reached; undefined = h.undefined; is = h.is })
  in_operation o f (not_used h) = not_used (record { variable = h.variable; defined = h.defined; unused = λ u r. h.unused u (reached_use_to shown x o u r); is = h.is })
  in_operation o f (not_allowed h) = not_allowed (record {
    one = h.one;
    reached = reached_use_from shown apart x o h.one h.reached;
    variable = h.variable;
    defined = h.defined;
    names_it = h.names_it;
    location = h.location;
    read_at = h.read_at;
    variable_known = h.variable_known;
    location_known = h.location_known;
    not_allowed = h.not_allowed;
    is = h.is;
  })

  pub variables_from : (f : Fault) → IsVariableFault (other_names shown x) f → IsVariableFault x f
  variables_from f h =
      let k = from_map (other_operation shown) x.operations h.operation h.stands in
      record { operation = k.0; stands = k.1; fault = in_operation k.0 f (subst (λ z. IsFaultOfOperation (other_names shown x) z f) k.2 h.fault) }
