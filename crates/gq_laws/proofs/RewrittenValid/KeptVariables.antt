-- Rules of variables where selections were moved, all places kept.
use Rattle.std.proofs.Common.{◌≡◌, List, Contains, sym, ap, ◌∙◌, subst}
use Rattle.gq_fault.specs.declared.fault.Fault.{Fault}
use Rattle.gq_fault.specs.FaultPlaces.{fault_at}
use Rattle.gq_fault.specs.declared.code.Code.TheVariants.{VariableNotUnique, VariableNotOfInputType, VariableNotUsed}
use Rattle.gq_types.specs.Entries.{EntryOf}
use Rattle.gq_names.specs.Repeats.{IsRepeated}
use Rattle.gq_document.specs.Definitions.{OperationOf, FragmentOf}
use Rattle.gq_document.specs.Executable.{ExecutableOf}
use Rattle.gq_variables.specs.Uses.{UseOf}
use Rattle.gq_variables.specs.ReachedUses.{ReachesUse}
use Rattle.gq_variables.specs.VariableFaults.{IsFaultOfOperation, not_unique, not_of_input_type, not_defined, not_used, not_allowed, IsVariableFault}
use Rattle.gq_laws.specs.Placing.Types.{IsFaultless}
use Rattle.gq_laws.proofs.RewrittenValid.Kept.{bare_operation}

-- An operation before that has the same variables, and the same uses of them.
pub record HasUsesOf (x y : ExecutableOf) (p : OperationOf) : Type 0 where
  pub operation : OperationOf
  pub stands : Contains x.operations operation
  pub bare : bare_operation p ≡ bare_operation operation
  pub were : (u : UseOf) → ReachesUse y p u → ReachesUse x operation u
  pub are : (u : UseOf) → ReachesUse x operation u → ReachesUse y p u

module _ (es : List EntryOf) (os ps : List OperationOf) (fs gs : List FragmentOf) where
  abbrev x : ExecutableOf
  x = record { entries = es; operations = os; fragments = fs }

  abbrev y : ExecutableOf
  y = record { entries = es; operations = ps; fragments = gs }

  of_operation_was : (p : OperationOf) (w : HasUsesOf x y p) (f : Fault) → IsFaultOfOperation y p f → IsFaultOfOperation x w.operation f
  of_operation_was p w f (not_unique h) =
      not_unique (record {
        variable = h.variable;
        repeated = subst (λ z. IsRepeated (λ v. v.name.text) z h.variable) (ap (λ z. z.variables) w.bare) h.repeated;
        is = h.is
            ∙ ap (λ z. fault_at z.file VariableNotUnique h.variable.name) w.bare;
      })
  of_operation_was p w f (not_of_input_type h) =
      not_of_input_type (record {
        variable = h.variable;
        defined = subst (λ z. Contains z h.variable) (ap (λ z. z.variables) w.bare) h.defined;
        no_input = h.no_input;
        is = h.is
            ∙ ap (λ z. fault_at z.file VariableNotOfInputType h.variable.name) w.bare;
      })
  of_operation_was p w f (not_defined h) =
      not_defined (record { one = h.one; reached = w.were h.one h.reached; undefined = λ v c e. h.undefined v (subst (λ z. Contains z v) (ap (λ z. z.variables) (sym w.bare)) c) e; is = h.is })
  of_operation_was p w f (not_used h) =
      not_used (record {
        variable = h.variable;
        defined = subst (λ z. Contains z h.variable) (ap (λ z. z.variables) w.bare) h.defined;
        unused = λ u r e. h.unused u (w.are u r) e;
        is = h.is
            ∙ ap (λ z. fault_at z.file VariableNotUsed h.variable.name) w.bare;
      })
  of_operation_was p w f (not_allowed h) =
      not_allowed (record {
        one = h.one;
        reached = w.were h.one h.reached;
        variable = h.variable;
        defined = subst (λ z. Contains z h.variable) (ap (λ z. z.variables) w.bare) h.defined;
        names_it = h.names_it;
        location = h.location;
        read_at = h.read_at;
        variable_known = h.variable_known;
        location_known = h.location_known;
        not_allowed = h.not_allowed;
        is = h.is;
      })

  pub variables_kept : ((p : OperationOf) → Contains ps p → HasUsesOf x y p) → IsFaultless IsVariableFault x → IsFaultless IsVariableFault y
  variables_kept all none f h =
      let w = all h.operation h.stands in
      none f (record { operation = w.operation; stands = w.stands; fault = of_operation_was h.operation w f h.fault })
