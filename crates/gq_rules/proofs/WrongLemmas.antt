-- What is found wrong where nothing is told yet, and what is put behind what is told.
use Rattle.std.proofs.Common.{◌≡◌, ◌↔◌, List, [], ◌∷◌, ◌++◌, Contains, refl, sym, subst, ap, ◌∙◌}
use Rattle.gq_names.proofs.RepeatLemmas.{contains_none, contains_first}
use Rattle.gq_fault.specs.declared.fault.Fault.{Fault}
use Rattle.gq_fault.specs.Adds.{AddsExactly}
use Rattle.gq_type_system.specs.SchemaFaults.{IsSchemaFault}
use Rattle.gq_document.specs.Executable.{ExecutableOf}
use Rattle.gq_rules.specs.RuleFaults.{IsRuleFault}
use Rattle.gq_rules.specs.WrongOver.{IsWrongOver}
use Rattle.gq_rules.specs.WrongOver as over
use Rattle.gq_rules.specs.Helping.Wrongs.{PutsWrong}

module _ (x : ExecutableOf) where
  -- something is wrong with the type system
  pub schema_wrong : (schema : List Fault) → ((fault : Fault) → Contains schema fault ↔ IsSchemaFault x.entries fault) → (schema ≡ [] → ⊥) → PutsWrong x [] schema
  schema_wrong schema exact some = record { schema = schema; exact = exact; alone = λ _. refl; rules = λ none. absurd (some none) }

  -- nothing is, and the rules tell that
  pub rules_wrong : (found : List Fault) → ((fault : Fault) → IsSchemaFault x.entries fault → ⊥) → AddsExactly (IsRuleFault x) [] found → PutsWrong x [] found
  rules_wrong found none told = record {
    schema = [];
    exact = λ fault. ((λ c. absurd (contains_none fault c)), (λ f. absurd (none fault f)));
    alone = λ some. absurd (some refl);
    rules = λ _. told;
  }

  -- it is put where nothing stands
  pub put_behind_none : (old found new : List Fault) → old ≡ [] → PutsWrong x [] found → new ≡ old ++ found → PutsWrong x old new
  put_behind_none old found new none wrong put =
      let is : new ≡ found = put ∙ ap (λ xs. xs ++ found) none in
      subst (λ xs. PutsWrong x xs new) (sym none) (subst (PutsWrong x []) (sym is) wrong)

  -- the same, by what is told over them
  pub schema_over : (schema : List Fault) → ((fault : Fault) → Contains schema fault ↔ IsSchemaFault x.entries fault) → (schema ≡ [] → ⊥) →
      (fault : Fault) → Contains schema fault ↔ IsWrongOver x fault
  schema_over [] exact some fault = absurd (some refl)
  schema_over (y ∷ ys) exact some fault = ((λ c. over.type_system ((exact fault).0 c)), (λ h. back h))
    where
      back : IsWrongOver x fault → Contains (y ∷ ys) fault
      back (over.type_system s) = (exact fault).1 s
      back (over.rule none r) = absurd (none y ((exact y).0 (contains_first y ys y refl)))

  pub rules_over : (found : List Fault) → ((fault : Fault) → IsSchemaFault x.entries fault → ⊥) → AddsExactly (IsRuleFault x) [] found → (fault : Fault) → Contains found fault ↔ IsWrongOver x fault
  rules_over found none told fault = (
    (λ c. over.rule none ((told.exactly fault).0 (subst (λ (xs : List Fault). Contains xs fault) told.is c))),
    (λ h. back h),
  )
    where
      back : IsWrongOver x fault → Contains found fault
      back (over.type_system s) = absurd (none fault s)
      back (over.rule _ r) = subst (λ (xs : List Fault). Contains xs fault) (sym told.is) ((told.exactly fault).1 r)
