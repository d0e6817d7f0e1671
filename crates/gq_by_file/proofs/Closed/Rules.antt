-- The faults that rest on spreads are those of five rules, each of which looks at closed sets of files alone.
use Rattle.std.proofs.Common.{◌≡◌, ℕ, Bool, true, false, List, [], ◌∷◌, Contains, filter, refl, sym, ap, ◌∙◌, subst}
use Rattle.gq_fault.specs.declared.fault.Fault.{Fault}
use Rattle.gq_document.specs.Definitions.{OperationOf, FragmentOf}
use Rattle.gq_document.specs.Executable.{ExecutableOf}
use Rattle.gq_fragments.specs.FragmentFaults.{IsFragmentFault}
use Rattle.gq_fragments.specs.FragmentFaults as fragments
use Rattle.gq_fragments.specs.FragmentSpreadIsPossible.{IsSpreadNotPossible}
use Rattle.gq_fragments.specs.OperationFaults.{IsOperationFault}
use Rattle.gq_fragments.specs.OperationFaults as operations
use Rattle.gq_merging.specs.FieldsMerge.{IsMergingFault}
use Rattle.gq_spreads.specs.FragmentSpreadTargetDefined.{IsUnknownFragment}
use Rattle.gq_spreads.specs.FragmentSpreadsMustNotFormCycles.{IsFragmentCycle}
use Rattle.gq_spreads.specs.SpreadFaults.{IsSpreadFault}
use Rattle.gq_spreads.specs.SpreadFaults as spreads
use Rattle.gq_variables.specs.VariableFaults.{IsVariableFault}
use Rattle.gq_rules.specs.RuleFaults.{IsRuleFault, of_operations, of_fields, of_fragments, of_spreads, of_variables, of_merging}
use Rattle.gq_rules.specs.RestsOnFile.{rests_on_file}
use Rattle.gq_by_file.specs.Closed.Closed.{is_among, within, IsClosed, StandsInFile}
use Rattle.gq_by_file.specs.Closed.Laws.{FaultsOfClosedSetsAreFaults, FaultsAreOfClosedSets, FaultsStayInLargerSets}
use Rattle.gq_by_file.specs.Closed.RestsOnNames.{rests_on_names, IsFaultBySpreads}
use Rattle.gq_by_file.proofs.Closed.ByNames.{field_rests}
use Rattle.gq_by_file.proofs.Closed.Merging.{merging_sound, merging_complete}
use Rattle.gq_by_file.proofs.Closed.Spreading.{unknown_fragments_sound, unknown_fragments_complete, fragment_cycles_sound, fragment_cycles_complete, impossible_spreads_sound, impossible_spreads_complete}
use Rattle.gq_by_file.proofs.Closed.Variables.{variable_faults_sound, variable_faults_complete}
use Rattle.gq_by_file.proofs.Closed.Within.{from_among, to_among, operation_from, fragment_from}

-- one of the five
pub data IsSpreading (x : ExecutableOf) (f : Fault) : Type 0 where
  unknown : IsUnknownFragment x f → IsSpreading x f
  cycle : IsFragmentCycle x f → IsSpreading x f
  impossible : IsSpreadNotPossible x f → IsSpreading x f
  variable : IsVariableFault x f → IsSpreading x f
  merging : IsMergingFault x f → IsSpreading x f

module _ (x : ExecutableOf) (f : Fault) (file : rests_on_file f.code ≡ false) (names : rests_on_names f.code ≡ false) where
  -- no such fault has a code that rests on a file, or on names
  on_file : {g : Fault} {A : Type 0} → f ≡ g → rests_on_file g.code ≡ true → A
  on_file {g} is rests = let e : rests_on_file f.code ≡ rests_on_file g.code = ap (λ (z : Fault). rests_on_file z.code) is in absurd (cc)

  on_names : {g : Fault} {A : Type 0} → f ≡ g → rests_on_names g.code ≡ true → A
  on_names {g} is rests = let e : rests_on_names f.code ≡ rests_on_names g.code = ap (λ (z : Fault). rests_on_names z.code) is in absurd (cc)

  of_operation : IsOperationFault x f → IsSpreading x f
  of_operation (operations.subscription h) = on_file h.is refl
  of_operation (operations.no_root_type h) = on_file h.is refl
  of_operation (operations.repeated_operation_name h) = on_names h.is refl
  of_operation (operations.not_alone h) = on_names h.is refl

  of_fragment : IsFragmentFault x f → IsSpreading x f
  of_fragment (fragments.repeated_fragment_name h) = on_names h.is refl
  of_fragment (fragments.unknown_condition h) = on_file h.is refl
  of_fragment (fragments.condition_not_composite h) = on_file h.is refl
  of_fragment (fragments.spread_not_possible h) = impossible h

  of_spread : IsSpreadFault x f → IsSpreading x f
  of_spread (spreads.fragment_not_used h) = on_names h.is refl
  of_spread (spreads.unknown_fragment h) = unknown h
  of_spread (spreads.fragment_cycle h) = cycle h

  pub of_rule : IsRuleFault x f → IsSpreading x f
  of_rule (of_operations h) = of_operation h
  of_rule (of_fields h) = let e : rests_on_file f.code ≡ true = field_rests x f h in absurd (cc)
  of_rule (of_fragments h) = of_fragment h
  of_rule (of_spreads h) = of_spread h
  of_rule (of_variables h) = variable h
  of_rule (of_merging h) = merging h

pub from_spreading : (x : ExecutableOf) (f : Fault) → IsSpreading x f → IsRuleFault x f
from_spreading x f (unknown h) = of_spreads (spreads.unknown_fragment h)
from_spreading x f (cycle h) = of_spreads (spreads.fragment_cycle h)
from_spreading x f (impossible h) = of_fragments (fragments.spread_not_possible h)
from_spreading x f (variable h) = of_variables h
from_spreading x f (merging h) = of_merging h

spreading_sound : (files : List ℕ) (x : ExecutableOf) → IsClosed files x → (f : Fault) → IsSpreading (within files x) f → Contains files f.file × IsSpreading x f
spreading_sound files x closed f (unknown h) = let t = unknown_fragments_sound files x closed f h in (t.0, unknown t.1)
spreading_sound files x closed f (cycle h) = let t = fragment_cycles_sound files x closed f h in (t.0, cycle t.1)
spreading_sound files x closed f (impossible h) = let t = impossible_spreads_sound files x closed f h in (t.0, impossible t.1)
spreading_sound files x closed f (variable h) = let t = variable_faults_sound files x closed f h in (t.0, variable t.1)
spreading_sound files x closed f (merging h) = let t = merging_sound files x closed f h in (t.0, merging t.1)

spreading_complete : (x : ExecutableOf) (f : Fault) → IsSpreading x f → (n : ℕ) × StandsInFile x n × ((files : List ℕ) → IsClosed files x → Contains files n → IsSpreading (within files x) f)
spreading_complete x f (unknown h) = let t = unknown_fragments_complete x f h in (t.0, t.1, λ files closed c. unknown (t.2 files closed c))
spreading_complete x f (cycle h) = let t = fragment_cycles_complete x f h in (t.0, t.1, λ files closed c. cycle (t.2 files closed c))
spreading_complete x f (impossible h) = let t = impossible_spreads_complete x f h in (t.0, t.1, λ files closed c. impossible (t.2 files closed c))
spreading_complete x f (variable h) = let t = variable_faults_complete x f h in (t.0, t.1, λ files closed c. variable (t.2 files closed c))
spreading_complete x f (merging h) = let t = merging_complete x f h in (t.0, t.1, λ files closed c. merging (t.2 files closed c))

pub closed_faults : FaultsOfClosedSetsAreFaults
closed_faults x files closed f h =
    let t = spreading_sound files x closed f (of_rule (within files x) f h.0 h.1 h.2) in
    (t.0, (h.0, h.1, from_spreading x f t.1))

pub caused : FaultsAreOfClosedSets
caused x f h =
    let t = spreading_complete x f (of_rule x f h.0 h.1 h.2) in
    (t.0, t.1, λ files closed c. (h.0, h.1, from_spreading (within files x) f (t.2 files closed c)))

-- ---- one set in another one

filter_twice : {A : Type 0} (p q : A → Bool) → ((a : A) → p a ≡ true → q a ≡ true) → (xs : List A) → filter p (filter q xs) ≡ filter p xs
filter_twice p q so [] = refl
filter_twice {A} p q so (x ∷ xs) = by (filter_twice p q so xs) (p x) (q x) refl refl
  where
    by : filter p (filter q xs) ≡ filter p xs → (a b : Bool) → p x ≡ a → q x ≡ b → filter p (filter q (x ∷ xs)) ≡ filter p (x ∷ xs)
    by again true true e h = rw (h, e) (ap (λ (z : List A). x ∷ z) again)
    by again true false e h = absurd (let k = so x e in cc)
    by again false true e h = rw (h, e) again
    by again false false e h = rw (h, e) again

module _ (small large : List ℕ) (so : (n : ℕ) → Contains small n → Contains large n) (x : ExecutableOf) where
  among_too : (n : ℕ) → is_among small n ≡ true → is_among large n ≡ true
  among_too n e = to_among large n (so n (from_among small n e))

  one_in_another : within small (within large x) ≡ within small x
  one_in_another =
      ap (λ (os : List OperationOf). record { entries = x.entries; operations = os; fragments = (within small (within large x)).fragments })
      (filter_twice (λ (o : OperationOf). is_among small o.file) (λ (o : OperationOf). is_among large o.file) (λ o e. among_too o.file e) x.operations)
      ∙ ap (λ (gs : List FragmentOf). record { entries = x.entries; operations = (within small x).operations; fragments = gs })
      (filter_twice (λ (g : FragmentOf). is_among small g.file) (λ (g : FragmentOf). is_among large g.file) (λ g e. among_too g.file e) x.fragments)

  still_closed : IsClosed small x → IsClosed small (within large x)
  still_closed closed = record {
    of_operations = λ o c h f d s. closed.of_operations o ((operation_from large x o c).0) h f ((fragment_from large x f d).0) s;
    of_fragments = λ g c h f d s. closed.of_fragments g ((fragment_from large x g c).0) h f ((fragment_from large x f d).0) s;
  }

pub stay_in_larger : FaultsStayInLargerSets
stay_in_larger x small large so closed f h =
    closed_faults (within large x) small (still_closed small large so x closed) f (subst (λ (z : ExecutableOf). IsFaultBySpreads z f) (sym (one_in_another small large so x)) h)
