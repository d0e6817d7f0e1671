-- What is told of variables is told of them under other numbers: an operation reaches the same uses there, each in the document of another number.
use Rattle.std.proofs.Common.{ℕ, List, refl}
use Rattle.gq_fault.specs.declared.code.Code.TheVariants.{VariableNotUnique, VariableNotOfInputType, VariableNotDefined, VariableNotUsed, VariableNotAllowedHere}
use Rattle.gq_fault.specs.declared.fault.Fault.{Fault}
use Rattle.gq_fault.specs.FaultPlaces.{fault_at}
use Rattle.gq_types.specs.Entries.{EntryOf}
use Rattle.gq_document.specs.Definitions.{OperationOf, FragmentOf}
use Rattle.gq_variables.specs.Uses.{UseOf, IsUsedInOperation, IsUsedInFragment, in_selection, in_directive, in_variable, within_selection, within_directive}
use Rattle.gq_variables.specs.ReachedUses.{ReachesUse, of_itself, of_fragment}
use Rattle.gq_variables.specs.VariableFaults.{IsFaultOfOperation, IsVariableFault, not_unique, not_of_input_type, not_defined, not_used, not_allowed}
use Rattle.gq_by_file.proofs.OneFile.Numbers.{operation_to, fragment_to}
use Rattle.gq_by_file.proofs.Closed.Renumbered.{made, AreRenumbered, HasOfCode, TellsOfRenumbered}
use Rattle.gq_by_file.proofs.Closed.RenumberedSpreads.{same_code, selected_to, reaches_to, reaches_back}

-- the same use in the document of another number
abbrev use_at : ℕ → UseOf → UseOf
use_at n u = record u { file = n }

-- a definition uses the same under another number
operation_uses : {es : List EntryOf} {o : OperationOf} {u : UseOf} (n : ℕ) → IsUsedInOperation es o u → IsUsedInOperation es (operation_to n o) (use_at n u)
operation_uses n (in_selection {s} w e h) = in_selection {s = selected_to n s} (refl, w.1) refl h
operation_uses n (in_directive e h) = in_directive refl h
operation_uses n (in_variable e c h) = in_variable refl c h

fragment_uses : {es : List EntryOf} {g : FragmentOf} {u : UseOf} (n : ℕ) → IsUsedInFragment es g u → IsUsedInFragment es (fragment_to n g) (use_at n u)
fragment_uses n (within_selection {s} w e h) = within_selection {s = selected_to n s} (refl, w.1) refl h
fragment_uses n (within_directive e h) = within_directive refl h

module _ (es : List EntryOf) (Is : ℕ → ℕ → Type 0) (os ps : List OperationOf) (gs hs : List FragmentOf) (renumbered : AreRenumbered Is os ps gs hs) where
  -- uses that an operation reaches
  use_to : {o : OperationOf} {u : UseOf} (n : ℕ) → ReachesUse (made es os gs) o u → (m : ℕ) × ReachesUse (made es ps hs) (operation_to n o) (use_at m u)
  use_to n (of_itself h) = (n, of_itself (operation_uses n h))
  use_to n (of_fragment r h) = let t = reaches_to Is os ps gs hs renumbered r in (t.0, of_fragment t.2 (fragment_uses t.0 h))

  use_back : {u : UseOf} (n : ℕ) (o : OperationOf) → ReachesUse (made es ps hs) (operation_to n o) u → (m : ℕ) × ReachesUse (made es os gs) o (use_at m u)
  use_back n o (of_itself h) = (o.file, of_itself (operation_uses o.file h))
  use_back n o (of_fragment r h) = let t = reaches_back Is os ps gs hs renumbered r in (t.0, of_fragment t.2 (fragment_uses t.0 h))

  fault_to : {f : Fault} (n : ℕ) (o : OperationOf) → IsFaultOfOperation (made es os gs) o f → HasOfCode (IsFaultOfOperation (made es ps hs) (operation_to n o)) f.code
  fault_to n o (not_unique h) = (
    fault_at n VariableNotUnique h.variable.name,
    same_code h.is,
    not_unique (record { variable = h.variable; repeated = h.repeated; is = refl }),
  )
  fault_to n o (not_of_input_type h) = (
    fault_at n VariableNotOfInputType h.variable.name,
    same_code h.is,
    not_of_input_type (record {
      variable = h.variable;
      defined = h.defined;
      no_input = h.no_input;
      is = refl;
    }),
  )
  fault_to n o (not_defined h) =
      let t = use_to n h.reached in (
        fault_at t.0 VariableNotDefined h.one.name,
        same_code h.is,
        not_defined (record {
          one = use_at t.0 h.one;
          reached = t.1;
          undefined = h.undefined;
          is = refl;
        }),
      )
  fault_to n o (not_used h) = (
    fault_at n VariableNotUsed h.variable.name,
    same_code h.is,
    not_used (record {
      variable = h.variable;
      defined = h.defined;
      unused = λ u r. let t = use_back n o r in h.unused (use_at t.0 u) t.1;
      is = refl;
    }),
  )
  fault_to n o (not_allowed h) =
      let t = use_to n h.reached in (
        fault_at t.0 VariableNotAllowedHere h.one.name,
        same_code h.is,
        not_allowed (record {
          one = use_at t.0 h.one;
          reached = t.1;
          variable = h.variable;
          defined = h.defined;
          names_it = h.names_it;
          location = h.location;
          read_at = h.read_at;
          variable_known = h.variable_known;
          location_known = h.location_known;
          not_allowed = h.not_allowed;
          is = refl;
        }),
      )

pub variable_renumbered : TellsOfRenumbered IsVariableFault
variable_renumbered es Is os ps gs hs renumbered f h =
    let d = renumbered.operation h.operation h.stands in
    let t = fault_to es Is os ps gs hs renumbered d.0 h.operation h.fault in
    (t.0, t.1, record { operation = operation_to d.0 h.operation; stands = d.2; fault = t.2 })
