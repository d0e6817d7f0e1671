-- What is put for each operation is what is wrong with its variables.
use Rattle.std.proofs.Common.{◌≡◌, ◌↔◌, ℕ, ◌+◌, ◌<◌, ◌≤◌, Bool, true, false, length, get_or, map, List, [], ◌++◌, Some, ◌⊎◌, inl, inr, refl, sym, ap, subst, ◌∙◌, Contains, arith, zero, suc, Vec, Global}
use Rattle.std.specs.Prelude.{slice_get}
use Rattle.std.specs.Option.{option_map}
use Rattle.std.proofs.lemmas.List.{length-map, map-append}
use Rattle.std.proofs.lemmas.List.Elements.{Contains-append_left, Contains-append_right, Contains-append_cases}
use Rattle.std.proofs.lemmas.Option.{same_Some, slice_get-map, slice_get-get_or, slice_get_within, get_or_from_slice_get}
use Rattle.gq_fault.specs.declared.fault.Fault.{Fault}
use Rattle.gq_fault.specs.Adds.{AddsExactly}
use Rattle.gq_fault.proofs.PutLemmas.{puts_as}
use Rattle.gq_text.specs.declared.place.Span.{Span}
use Rattle.gq_tree.specs.Plain.{VariableOf}
use Rattle.gq_types.specs.Entries.{Text, EntryOf}
use Rattle.gq_types.proofs.Gathered.{nothing_in}
use Rattle.gq_values.proofs.Steps.{both_done}
use Rattle.gq_document.specs.Definitions.{OperationOf, operation_view}
use Rattle.gq_document.specs.declared.definitions.OperationEntry.{OperationEntry}
use Rattle.gq_document.specs.Executable.{ExecutableOf}
use Rattle.gq_spreads.specs.declared.spreads.Spreads.{Spreads}
use Rattle.gq_graph.specs.Reach.{row}
use Rattle.gq_variables.specs.Uses.{UseOf}
use Rattle.gq_variables.specs.ReachedUses.{ReachesUse}
use Rattle.gq_variables.specs.AllVariableUsesDefined.{IsNotDefined}
use Rattle.gq_variables.specs.AllVariableUsagesAreAllowed.{IsNotAllowed}
use Rattle.gq_variables.specs.Helping.UsesPlaces.{operation_uses, fragment_uses, unless}
use Rattle.gq_variables.specs.Helping.Alike.{AreAsBefore}
use Rattle.gq_variables.specs.Helping.Behind.{AreBehindStarts, AreBehind, FollowsItsLike}
use Rattle.gq_variables.specs.Helping.Leading.{AreLeadingInParts}
use Rattle.gq_variables.specs.VariableFaults.{IsFaultOfOperation, IsVariableFault}
use Rattle.gq_variables.specs.VariableFaults as rule
use Rattle.gq_variables.specs.Helping.VariablePlaces.{variable_texts, use_texts, repeated_variables, not_unique, not_of_input_type, not_defined, not_used, not_allowed, definition_faults, use_faults, operation_faults, IsFaultAt, IsFaultBefore, AreFaultsBefore}
use Rattle.gq_variables.proofs.UseLemmas.{behind_as, from_behind, reached_are}
use Rattle.gq_variables.proofs.RuleLemmas.{not_unique_are, not_of_input_type_are, from_not_defined, to_not_defined, not_used_are, from_not_allowed, to_not_allowed}
use Rattle.gq_variables.proofs.AlikeLemmas.{not_defined_too, not_allowed_too}

-- What is told of an operation is wrong with it, where `all` are the uses that it reaches, and some of them are `told`. What is wrong with it
-- is told, if what is wrong at the others is excused.
module _ (x : ExecutableOf) (o : OperationOf) (all told : List UseOf) (are : (u : UseOf) → Contains all u ↔ ReachesUse x o u) (fault : Fault) where
  abbrev Unique : List Fault
  Unique = not_unique o.file (repeated_variables [] o.variables)

  abbrev Input : List Fault
  Input = not_of_input_type x.entries o.file o.variables

  abbrev Used : List Fault
  Used = not_used o.file (use_texts all) o.variables

  abbrev Defined : List Fault
  Defined = not_defined (variable_texts o.variables) told

  abbrev Allowed : List Fault
  Allowed = not_allowed x.entries o.variables (repeated_variables [] o.variables) told

  from_definitions : Contains (Unique ++ Input) fault → IsFaultOfOperation x o fault
  from_definitions c = elim (Contains-append_cases Unique Input fault c) [
    | inl a ↦ rule.not_unique ((not_unique_are o fault).0 a)
    | inr b ↦ rule.not_of_input_type ((not_of_input_type_are x.entries o fault).0 b)
  ]

  from_uses : ((u : UseOf) → Contains told u → ReachesUse x o u) → Contains (Used ++ (Defined ++ Allowed)) fault → IsFaultOfOperation x o fault
  from_uses reach c = elim (Contains-append_cases Used (Defined ++ Allowed) fault c) [
    | inl a ↦ rule.not_used ((not_used_are x o all are fault).0 a)
    | inr d ↦ elim (Contains-append_cases Defined Allowed fault d) [
      | inl a ↦ rule.not_defined (from_not_defined x o told fault reach a)
      | inr b ↦ rule.not_allowed (from_not_allowed x o told fault reach b)
    ]
  ]

  from_all : ((u : UseOf) → Contains told u → ReachesUse x o u) → Contains (operation_faults x.entries o all told) fault → IsFaultOfOperation x o fault
  from_all reach c = elim (Contains-append_cases (Unique ++ Input) (Used ++ (Defined ++ Allowed)) fault c) [ inl a ↦ from_definitions a | inr b ↦ from_uses reach b ]

  of_definitions : Contains (Unique ++ Input) fault → Contains (operation_faults x.entries o all told) fault
  of_definitions c = Contains-append_left (Unique ++ Input) (Used ++ (Defined ++ Allowed)) fault c

  of_uses : Contains (Used ++ (Defined ++ Allowed)) fault → Contains (operation_faults x.entries o all told) fault
  of_uses c = Contains-append_right (Unique ++ Input) (Used ++ (Defined ++ Allowed)) fault c

  of_told : Contains (Defined ++ Allowed) fault → Contains (operation_faults x.entries o all told) fault
  of_told c = of_uses (Contains-append_right Used (Defined ++ Allowed) fault c)

  module _ (Excused : Type 0) (defined : (w : IsNotDefined x o fault) → Contains told w.one ⊎ Excused) (allowed : (w : IsNotAllowed x o fault) → Contains told w.one ⊎ Excused) where
    to_all : IsFaultOfOperation x o fault → Contains (operation_faults x.entries o all told) fault ⊎ Excused
    to_all (rule.not_unique w) = inl (of_definitions (Contains-append_left Unique Input fault ((not_unique_are o fault).1 w)))
    to_all (rule.not_of_input_type w) = inl (of_definitions (Contains-append_right Unique Input fault ((not_of_input_type_are x.entries o fault).1 w)))
    to_all (rule.not_used w) = inl (of_uses (Contains-append_left Used (Defined ++ Allowed) fault ((not_used_are x o all are fault).1 w)))
    to_all (rule.not_defined w) = elim (defined w) [
      | inl there ↦ inl (of_told (Contains-append_left Defined Allowed fault (to_not_defined x o told fault w there)))
      | inr other ↦ inr other
    ]
    to_all (rule.not_allowed w) = elim (allowed w) [
      | inl there ↦ inl (of_told (Contains-append_right Defined Allowed fault (to_not_allowed x o told fault w there)))
      | inr other ↦ inr other
    ]

-- what is put for an operation
pub operation_put : (es : List EntryOf) (o : OperationOf) (all told given : List UseOf) (used : List Text) (one two three first second : List (VariableOf Span)) (old definitions middle new : List Fault) →
    one ≡ o.variables → first ≡ repeated_variables [] o.variables → three ≡ o.variables → used ≡ use_texts all → two ≡ o.variables → second ≡ repeated_variables [] o.variables → given ≡ told →
    definitions ≡ old ++ definition_faults es o.file one first → middle ≡ definitions ++ not_used o.file used three → new ≡ middle ++ use_faults es two second given → new ≡ old ++ operation_faults es o all told
operation_put es o all told given used one two three first second old definitions middle new e f m n g h k put next then =
    both_done old definitions new (definition_faults es o.file o.variables (repeated_variables [] o.variables)) (not_used o.file (use_texts all) o.variables ++ use_faults es o.variables (repeated_variables [] o.variables) told)
    (put ∙ ap (λ vs. old ++ definition_faults es o.file vs first) e ∙ ap (λ vs. old ++ definition_faults es o.file o.variables vs) f)
    (both_done definitions middle new (not_used o.file (use_texts all) o.variables) (use_faults es o.variables (repeated_variables [] o.variables) told)
    (next ∙ ap (λ vs. definitions ++ not_used o.file used vs) m ∙ ap (λ texts. definitions ++ not_used o.file texts o.variables) n)
    (then ∙ ap (λ vs. middle ++ use_faults es vs second given) g ∙ ap (λ vs. middle ++ use_faults es o.variables vs given) h
    ∙ ap (λ us. middle ++ use_faults es o.variables (repeated_variables [] o.variables) us) k))

-- the names of all uses
pub all_names : (own behind : List UseOf) → use_texts own ++ use_texts behind ≡ use_texts (own ++ behind)
all_names own behind = sym (map-append (λ (u : UseOf). u.name.text) own behind)

-- the operation of a number
pub operation_at : (entries : List OperationEntry) (k : ℕ) (d : OperationEntry) → k < length (map operation_view entries) →
    slice_get (map operation_view entries) k ≡ Some (operation_view (get_or entries k d))
operation_at entries k d inside =
    let same = length-map entries operation_view in
    slice_get-map operation_view entries k ∙ ap (option_map operation_view) (slice_get-get_or entries k d (omega (arith, inside, same)))

below_or_at : (k n : ℕ) → k < n + 1 → (k < n) ⊎ (k ≡ n)
below_or_at zero zero h = inr refl
below_or_at zero (suc n) h = inl (omega arith)
below_or_at (suc k) zero h = absurd (omega (arith, h))
below_or_at (suc k) (suc n) h = elim (below_or_at k n (omega (arith, h))) [ inl less ↦ inl (omega (arith, less)) | inr is ↦ inr (ap suc is) ]

-- the faults of one more operation
module _ (x : ExecutableOf) (s : Spreads) (own_rows : List (Vec ℕ Global)) (lead : AreLeadingInParts x s own_rows) (number : ℕ) (o : OperationOf) (is : slice_get x.operations number ≡ Some o)
    (own behind : List UseOf) (own_are : AreBehindStarts (map (fragment_uses x.entries) x.fragments) s.of_fragments.items (row own_rows number) own)
    (are : AreBehind (map (fragment_uses x.entries) x.fragments) s number behind) (fault : Fault) where
  abbrev Own : List UseOf
  Own = operation_uses x.entries o ++ own

  all_are : (u : UseOf) → Contains (Own ++ behind) u ↔ ReachesUse x o u
  all_are u = reached_are x s own_rows lead number o is own behind own_are are u

  told_are : (known : Bool) (u : UseOf) → Contains (Own ++ unless known behind) u → ReachesUse x o u
  told_are true u c = elim (Contains-append_cases Own [] u c) [
    | inl own ↦ (all_are u).0 (Contains-append_left Own behind u own)
    | inr nothing ↦ nothing_in u nothing
  ]
  told_are false u c = (all_are u).0 c

  is_fault : (known : Bool) → Contains (operation_faults x.entries o (Own ++ behind) (Own ++ unless known behind)) fault → IsFaultAt x number fault
  is_fault known c = record { operation = o; at = is; fault = from_all x o (Own ++ behind) (Own ++ unless known behind) all_are fault (told_are known) c }

  module _ (follows : FollowsItsLike x.operations s (use_texts behind) number) where
    behind_both : AreBehind (map (fragment_uses x.entries) x.fragments) s follows.before behind
    behind_both = behind_as (map (fragment_uses x.entries) x.fragments) s number follows.before behind (sym follows.same) are

    reached_before : (u : UseOf) → Contains behind u → ReachesUse x follows.earlier u
    reached_before u there = from_behind x follows.earlier s.of_fragments.items (row s.of_operations.items follows.before) (λ k below. lead.sound follows.before follows.earlier k follows.at_before below) behind behind_both u there

    alike : AreAsBefore (use_texts behind) follows.earlier.variables o.variables
    alike = subst (λ (p : OperationOf). AreAsBefore (use_texts behind) follows.earlier.variables p.variables) (same_Some follows.now o (sym follows.at ∙ is)) follows.alike

    fault_before : IsFaultOfOperation x follows.earlier fault → IsFaultBefore x number fault
    fault_before w = record { earlier = follows.before; is_earlier = follows.is_before; fault = record { operation = follows.earlier; at = follows.at_before; fault = w } }

    told_or_before : (u : UseOf) → ReachesUse x o u → (Contains behind u → IsFaultBefore x number fault) → Contains (Own ++ []) u ⊎ IsFaultBefore x number fault
    told_or_before u reached before = elim (Contains-append_cases Own behind u ((all_are u).1 reached)) [
      | inl own ↦ inl (Contains-append_left Own [] u own)
      | inr there ↦ inr (before there)
    ]

    known_told : IsFaultOfOperation x o fault → Contains (operation_faults x.entries o (Own ++ behind) (Own ++ [])) fault ⊎ IsFaultBefore x number fault
    known_told = to_all x o (Own ++ behind) (Own ++ []) all_are fault (IsFaultBefore x number fault)
        (λ w. told_or_before w.one w.reached (λ there. fault_before (rule.not_defined (not_defined_too x follows.earlier o behind alike fault w there (reached_before w.one there)))))
        (λ w. told_or_before w.one w.reached (λ there. fault_before (rule.not_allowed (not_allowed_too x follows.earlier o behind alike fault w there (reached_before w.one there)))))

  is_told : (known : Bool) → (known ≡ true → FollowsItsLike x.operations s (use_texts behind) number) → IsFaultOfOperation x o fault →
      Contains (operation_faults x.entries o (Own ++ behind) (Own ++ unless known behind)) fault ⊎ IsFaultBefore x number fault
  is_told true follows w = known_told (follows refl) w
  is_told false follows w = to_all x o (Own ++ behind) (Own ++ behind) all_are fault (IsFaultBefore x number fault)
      (λ v. inl ((all_are v.one).1 v.reached)) (λ v. inl ((all_are v.one).1 v.reached)) w

  module _ (known : Bool) (follows : known ≡ true → FollowsItsLike x.operations s (use_texts behind) number) (old new : List Fault) (before : Contains old fault ↔ IsFaultBefore x number fault)
      (put : new ≡ old ++ operation_faults x.entries o (Own ++ behind) (Own ++ unless known behind)) where
    abbrev Added : List Fault
    Added = operation_faults x.entries o (Own ++ behind) (Own ++ unless known behind)

    in_new : Contains (old ++ Added) fault → Contains new fault
    in_new c = subst (λ faults. Contains faults fault) (sym put) c

    from_more : Contains new fault → IsFaultBefore x (number + 1) fault
    from_more c = elim (Contains-append_cases old Added fault (subst (λ faults. Contains faults fault) put c)) [
      | inl early ↦ (let w = before.0 early in record { earlier = w.earlier; is_earlier = omega (arith, w.is_earlier); fault = w.fault })
      | inr late ↦ record { earlier = number; is_earlier = omega arith; fault = is_fault known late }
    ]

    of_now : IsFaultOfOperation x o fault → Contains new fault
    of_now w = elim (is_told known follows w) [
      | inl there ↦ in_new (Contains-append_right old Added fault there)
      | inr early ↦ in_new (Contains-append_left old Added fault (before.1 early))
    ]

    to_more : (w : IsFaultBefore x (number + 1) fault) → (w.earlier < number) ⊎ (w.earlier ≡ number) → Contains new fault
    to_more w (inl less) = in_new (Contains-append_left old Added fault (before.1 (record { earlier = w.earlier; is_earlier = less; fault = w.fault })))
    to_more w (inr now) =
        let at = subst (λ n. slice_get x.operations n ≡ Some w.fault.operation) now w.fault.at in
        of_now (subst (λ (p : OperationOf). IsFaultOfOperation x p fault) (same_Some w.fault.operation o (sym at ∙ is)) w.fault.fault)

    pub one_more : Contains new fault ↔ IsFaultBefore x (number + 1) fault
    one_more = (from_more, λ w. to_more w (below_or_at w.earlier number w.is_earlier))

-- the uses behind the operation before
pub behind_next : (rows : List (List UseOf)) (s : Spreads) (number : ℕ) (uses : List UseOf) → AreBehind rows s number uses → (before : ℕ) → before + 1 ≡ number + 1 → AreBehind rows s before uses
behind_next rows s number uses are before next = (let same : number ≡ before = omega (arith, next) in subst (λ n. AreBehind rows s n uses) same are)

module _ (x : ExecutableOf) where
  pub finds_none : (found : List Fault) → found ≡ [] → (fault : Fault) → Contains found fault ↔ IsFaultBefore x 0 fault
  finds_none found is fault = (λ c. nothing_in fault (subst (λ faults. Contains faults fault) is c), λ w. absurd (omega (arith, w.is_earlier)))

  -- the same where what was found is put in order
  pub finds_same : (number : ℕ) (middle new : List Fault) → AreFaultsBefore x number middle → ((fault : Fault) → Contains new fault ↔ Contains middle fault) → AreFaultsBefore x number new
  finds_same number middle new are same fault = (λ c. (are fault).0 ((same fault).0 c), λ w. (same fault).1 ((are fault).1 w))

  -- those of all operations
  pub puts_all : (number : ℕ) (old new : List Fault) → length x.operations ≤ number → AddsExactly (IsFaultBefore x number) old new → AddsExactly (IsVariableFault x) old new
  puts_all number old new end before = puts_as (IsFaultBefore x number) (IsVariableFault x) old new same before
    where
      same : (fault : Fault) → IsFaultBefore x number fault ↔ IsVariableFault x fault
      same fault = (
        λ w. record {
          operation = w.fault.operation;
          stands = (w.earlier, slice_get_within x.operations w.earlier w.fault.operation w.fault.at, get_or_from_slice_get x.operations w.earlier w.fault.operation w.fault.operation w.fault.at);
          fault = w.fault.fault;
        },
        λ w. record {
          earlier = w.stands.0;
          is_earlier = omega (arith, w.stands.1, end);
          fault = record { operation = w.operation; at = slice_get-get_or x.operations w.stands.0 w.operation w.stands.1 ∙ ap Some w.stands.2; fault = w.fault };
        },
      )
