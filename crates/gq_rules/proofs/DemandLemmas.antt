-- All faults together are what is demanded.
use Rattle.std.proofs.Common.{◌≡◌, ◌↔◌, ◌⊎◌, inl, inr, List, [], ◌∷◌, ◌++◌, Contains, refl, sym, subst, ap, ◌∙◌, ⊎_elim}
use Rattle.std.proofs.lemmas.List.Elements.{Contains-append_left, Contains-append_right, Contains-append_cases}
use Rattle.gq_names.proofs.RepeatLemmas.{contains_none, contains_first}
use Rattle.gq_fault.specs.declared.fault.Fault.{Fault}
use Rattle.gq_fault.specs.Adds.{AddsExactly}
use Rattle.gq_tree.specs.Readings.{ParsedOf}
use Rattle.gq_type_system.specs.SchemaFaults.{IsSchemaFault}
use Rattle.gq_types.specs.Entries.{EntryOf}
use Rattle.gq_document.specs.Definitions.{OperationOf, FragmentOf, operations_of, fragments_of}
use Rattle.gq_document.specs.Executable.{ExecutableOf}
use Rattle.gq_rules.specs.Project.{type_system_of, executable_of}
use Rattle.gq_rules.specs.RuleFaults.{IsRuleFault}
use Rattle.gq_rules.specs.Unread.{IsUnread}
use Rattle.gq_rules.specs.Faults.{IsMixed, IsToldFirst, unread, mixed, type_system, IsFaultOf}
use Rattle.gq_rules.specs.Faults as demand
use Rattle.gq_rules.specs.Helping.Places.{unread_at, mixed_at, each_from}
use Rattle.gq_rules.specs.Helping.Wrongs.{PutsWrong}
use Rattle.gq_rules.proofs.ItemLemmas.{unread_are, mixed_are}

-- what is told of the texts
pub of_texts : (readings : List ParsedOf) (fault : Fault) → Contains (each_from unread_at 0 readings ++ each_from mixed_at 0 readings) fault
    ↔ (IsUnread readings fault ⊎ IsMixed readings fault)
of_texts readings fault = (
  (λ c. ⊎_elim (λ u. inl ((unread_are readings fault).0 u)) (λ m. inr ((mixed_are readings fault).0 m)) (Contains-append_cases (each_from unread_at 0 readings) (each_from mixed_at 0 readings) fault c)),
  (λ h. ⊎_elim
      (λ u. Contains-append_left (each_from unread_at 0 readings) (each_from mixed_at 0 readings) fault ((unread_are readings fault).1 u))
      (λ m. Contains-append_right (each_from unread_at 0 readings) (each_from mixed_at 0 readings) fault ((mixed_are readings fault).1 m))
      h),
)

module _ (readings : List ParsedOf) (schema : List Fault) (are : (fault : Fault) → Contains schema fault ↔ IsSchemaFault (type_system_of readings) fault) where
  -- what is told whatever else is wrong
  abbrev pub told_first : List Fault
  told_first = (each_from unread_at 0 readings ++ each_from mixed_at 0 readings) ++ schema

  pub told_first_are : (fault : Fault) → Contains told_first fault ↔ IsToldFirst readings fault
  told_first_are fault = (
    (λ c. ⊎_elim
        (λ a. ⊎_elim unread mixed ((of_texts readings fault).0 a))
        (λ s. type_system ((are fault).0 s))
        (Contains-append_cases (each_from unread_at 0 readings ++ each_from mixed_at 0 readings) schema fault c)),
    back,
  )
    where
      back : IsToldFirst readings fault → Contains told_first fault
      back (unread u) = Contains-append_left (each_from unread_at 0 readings ++ each_from mixed_at 0 readings) schema fault ((of_texts readings fault).1 (inl u))
      back (mixed m) = Contains-append_left (each_from unread_at 0 readings ++ each_from mixed_at 0 readings) schema fault ((of_texts readings fault).1 (inr m))
      back (type_system s) = Contains-append_right (each_from unread_at 0 readings ++ each_from mixed_at 0 readings) schema fault ((are fault).1 s)

  -- where there is something of the first sort, that is all
  pub demanded_first : (told_first ≡ [] → ⊥) → (fault : Fault) → Contains told_first fault ↔ IsFaultOf readings fault
  demanded_first n fault = ((λ c. demand.first ((told_first_are fault).0 c)), back)
    where
      nothing : (xs : List Fault) → (xs ≡ [] → ⊥) → ((other : Fault) → Contains xs other → ⊥) → ⊥
      nothing [] k h = k refl
      nothing (x ∷ xs) k h = h x (contains_first x xs x refl)

      back : IsFaultOf readings fault → Contains told_first fault
      back (demand.first f) = (told_first_are fault).1 f
      back (demand.rule none r) = absurd (nothing told_first n (λ other c. none other ((told_first_are other).0 c)))

  -- where there is none, the rules are told
  pub demanded_rules : (all : List Fault) → told_first ≡ [] → AddsExactly (IsRuleFault (executable_of readings)) told_first all → (fault : Fault) → Contains all fault ↔ IsFaultOf readings fault
  demanded_rules all e p fault = (
    (λ c. demand.rule none ((p.exactly fault).0 (subst (λ xs. Contains xs fault) is c))),
    back,
  )
    where
      is : all ≡ p.added
      is = p.is ∙ ap (λ xs. xs ++ p.added) e

      none : (other : Fault) → IsToldFirst readings other → ⊥
      none other f = contains_none other (subst (λ xs. Contains xs other) e ((told_first_are other).1 f))

      back : IsFaultOf readings fault → Contains all fault
      back (demand.first f) = absurd (none fault f)
      back (demand.rule h r) = subst (λ xs. Contains xs fault) (sym is) ((p.exactly fault).1 r)

-- the same, step by step as the code has it
module _ (readings : List ParsedOf) (es : List EntryOf) (is : es ≡ type_system_of readings) (schema : List Fault)
    (exact : (fault : Fault) → Contains schema fault ↔ IsSchemaFault es fault) (texts all : List Fault)
    (one : texts ≡ each_from unread_at 0 readings ++ each_from mixed_at 0 readings) (two : all ≡ texts ++ schema) where
  of_project : (fault : Fault) → Contains schema fault ↔ IsSchemaFault (type_system_of readings) fault
  of_project fault = subst (λ t. Contains schema fault ↔ IsSchemaFault t fault) is (exact fault)

  all_is : all ≡ told_first readings schema of_project
  all_is = two ∙ ap (λ xs. xs ++ schema) one

  pub first_alone : (all ≡ [] → ⊥) → (fault : Fault) → Contains all fault ↔ IsFaultOf readings fault
  first_alone n fault = subst (λ xs. Contains xs fault ↔ IsFaultOf readings fault) (sym all_is)
      (demanded_first readings schema of_project (λ e. n (all_is ∙ e)) fault)

  pub rules_too : (x : ExecutableOf) → x ≡ executable_of readings → all ≡ [] → (final : List Fault) → AddsExactly (IsRuleFault x) all final →
      (fault : Fault) → Contains final fault ↔ IsFaultOf readings fault
  rules_too x same e final p = demanded_rules readings schema of_project final (sym all_is ∙ e)
      (subst (λ y. AddsExactly (IsRuleFault y) (told_first readings schema of_project) final) same (subst (λ xs. AddsExactly (IsRuleFault x) xs final) all_is p))

-- what the code has is what is read
pub executable_is : (readings : List ParsedOf) (es : List EntryOf) (os : List OperationOf) (fs : List FragmentOf) →
    es ≡ type_system_of readings → os ≡ operations_of readings → fs ≡ fragments_of readings →
    record { entries = es; operations = os; fragments = fs } ≡ executable_of readings
executable_is readings es os fs a b c =
    ap (λ e. record { entries = e; operations = os; fragments = fs }) a
    ∙ ap (λ o. record { entries = type_system_of readings; operations = o; fragments = fs }) b
    ∙ ap (λ f. record { entries = type_system_of readings; operations = operations_of readings; fragments = f }) c

is_one : (x : Fault) (xs : List Fault) → x ∷ xs ≡ [] → ⊥
is_one x xs e = cc

-- what is told of the texts, and what is put behind it
pub all_are : (readings : List ParsedOf) (x : ExecutableOf) → x ≡ executable_of readings → (texts final : List Fault) →
    texts ≡ each_from unread_at 0 readings ++ each_from mixed_at 0 readings → PutsWrong x texts final →
    (fault : Fault) → Contains final fault ↔ IsFaultOf readings fault
all_are readings x same texts final one w fault = cases (texts ++ w.schema) refl
  where
    cases : (xs : List Fault) → texts ++ w.schema ≡ xs → Contains final fault ↔ IsFaultOf readings fault
    cases [] e = rules_too readings x.entries (ap (λ y. y.entries) same) w.schema w.exact texts (texts ++ w.schema)
        one refl x same e final (w.rules e) fault
    cases (y ∷ ys) e = subst (λ zs. Contains zs fault ↔ IsFaultOf readings fault) (sym (w.alone some))
        (first_alone readings x.entries (ap (λ z. z.entries) same) w.schema w.exact texts (texts ++ w.schema)
        one refl some fault)
      where
        some : texts ++ w.schema ≡ [] → ⊥
        some n = is_one y ys (sym e ∙ n)
