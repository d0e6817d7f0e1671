-- What is told of the variables of a closed set of files, and of those of all files: an operation of the set reaches the same
-- uses there as among all files, and all of them stand in the set.
use Rattle.std.proofs.Common.{◌≡◌, ℕ, List, Contains, refl, ap, ◌∙◌}
use Rattle.gq_fault.specs.declared.fault.Fault.{Fault}
use Rattle.gq_types.specs.Entries.{EntryOf}
use Rattle.gq_document.specs.Definitions.{OperationOf, FragmentOf}
use Rattle.gq_document.specs.Executable.{ExecutableOf}
use Rattle.gq_document.specs.Reaches.{Reaches, at_once, through}
use Rattle.gq_variables.specs.Uses.{UseOf, IsUsedInOperation, IsUsedInFragment, in_selection, in_directive, in_variable, within_selection, within_directive}
use Rattle.gq_variables.specs.ReachedUses.{ReachesUse, of_itself, of_fragment}
use Rattle.gq_variables.specs.VariableFaults.{IsFaultOfOperation, IsVariableFault, not_unique, not_of_input_type, not_defined, not_used, not_allowed}
use Rattle.gq_by_file.specs.Closed.Closed.{within, IsClosed, of_operation}
use Rattle.gq_by_file.proofs.Closed.Within.{operation_from, operation_to, fragment_from, reached_from, reached_to, operation_inside}
use Rattle.gq_by_file.proofs.Closed.Spreading.{AreSound, AreComplete, in_files}

-- the file of a use
operation_file : {es : List EntryOf} {o : OperationOf} {u : UseOf} → IsUsedInOperation es o u → u.file ≡ o.file
operation_file (in_selection w e h) = e ∙ w.0
operation_file (in_directive e h) = e
operation_file (in_variable e c h) = e

fragment_file : {es : List EntryOf} {g : FragmentOf} {u : UseOf} → IsUsedInFragment es g u → u.file ≡ g.file
fragment_file (within_selection w e h) = e ∙ w.0
fragment_file (within_directive e h) = e

module _ (files : List ℕ) (x : ExecutableOf) where
  reached_file : (o : OperationOf) {g : FragmentOf} → Reaches (within files x).fragments o.set g → Contains files g.file
  reached_file o (at_once {f = g} c h) = (fragment_from files x g c).1
  reached_file o (through {f = g} r c h) = (fragment_from files x g c).1

  -- uses that an operation of the files reaches
  use_file : {o : OperationOf} {u : UseOf} → Contains files o.file → ReachesUse (within files x) o u → Contains files u.file
  use_file c (of_itself h) = in_files files (operation_file h) c
  use_file {o} c (of_fragment r h) = in_files files (fragment_file h) (reached_file o r)

  use_from : {o : OperationOf} {u : UseOf} → ReachesUse (within files x) o u → ReachesUse x o u
  use_from (of_itself h) = of_itself h
  use_from (of_fragment r h) = of_fragment (reached_from files x r) h

  module _ (closed : IsClosed files x) where
    use_to : {o : OperationOf} {u : UseOf} → Contains (within files x).operations o → ReachesUse x o u → ReachesUse (within files x) o u
    use_to c (of_itself h) = of_itself h
    use_to {o} c (of_fragment r h) = of_fragment ((reached_to files x closed (operation_inside files x closed o c) r).0) h

    fault_from : {o : OperationOf} {f : Fault} → Contains (within files x).operations o → IsFaultOfOperation (within files x) o f → Contains files f.file × IsFaultOfOperation x o f
    fault_from {o} c (not_unique h) = (in_files files (ap (λ z. z.file) h.is) ((operation_from files x o c).1), not_unique h)
    fault_from {o} c (not_of_input_type h) = (in_files files (ap (λ z. z.file) h.is) ((operation_from files x o c).1), not_of_input_type h)
    fault_from {o} c (not_defined h) = (
      in_files files (ap (λ z. z.file) h.is) (use_file ((operation_from files x o c).1) h.reached),
      not_defined (record {
        one = h.one;
        reached = use_from h.reached;
        undefined = h.undefined;
        is = h.is;
      }),
    )
    fault_from {o} c (not_used h) = (
      in_files files (ap (λ z. z.file) h.is) ((operation_from files x o c).1),
      not_used (record {
        variable = h.variable;
        defined = h.defined;
        unused = λ u r. h.unused u (use_to c r);
        is = h.is;
      }),
    )
    fault_from {o} c (not_allowed h) = (
      in_files files (ap (λ z. z.file) h.is) (use_file ((operation_from files x o c).1) h.reached),
      not_allowed (record {
        one = h.one;
        reached = use_from h.reached;
        variable = h.variable;
        defined = h.defined;
        names_it = h.names_it;
        location = h.location;
        read_at = h.read_at;
        variable_known = h.variable_known;
        location_known = h.location_known;
        not_allowed = h.not_allowed;
        is = h.is;
      }),
    )

    fault_to : {o : OperationOf} {f : Fault} → Contains (within files x).operations o → IsFaultOfOperation x o f → IsFaultOfOperation (within files x) o f
    fault_to c (not_unique h) = not_unique h
    fault_to c (not_of_input_type h) = not_of_input_type h
    fault_to c (not_defined h) = not_defined (record {
      one = h.one;
      reached = use_to c h.reached;
      undefined = h.undefined;
      is = h.is;
    })
    fault_to c (not_used h) = not_used (record {
      variable = h.variable;
      defined = h.defined;
      unused = λ u r. h.unused u (use_from r);
      is = h.is;
    })
    fault_to c (not_allowed h) = not_allowed (record {
      one = h.one;
      reached = use_to c h.reached;
      variable = h.variable;
      defined = h.defined;
      names_it = h.names_it;
      location = h.location;
      read_at = h.read_at;
      variable_known = h.variable_known;
      location_known = h.location_known;
      not_allowed = h.not_allowed;
      is = h.is;
    })

pub variable_faults_sound : AreSound IsVariableFault
variable_faults_sound files x closed f h =
    let t = fault_from files x closed h.stands h.fault in
    (t.0, record { operation = h.operation; stands = (operation_from files x h.operation h.stands).0; fault = t.1 })

pub variable_faults_complete : AreComplete IsVariableFault
variable_faults_complete x f h = (
  h.operation.file,
  of_operation h.stands refl,
  λ files closed i.
      let c = operation_to files x h.operation h.stands i in
      record { operation = h.operation; stands = c; fault = fault_to files x closed c h.fault },
)
