use Rattle.std.proofs.Common.{rules, ◌≡◌, ℕ, Bool, true, Contains, subst, sym, ◌∙◌, length, arith}
use Rattle.std.specs.Bool.{◌==◌}
use Rattle.std.specs.Vec.{vec_len}
use Rattle.std.proofs.lemmas.List.{nil_from_length}
use Rattle.std.proofs.lemmas.Bool.Decides.{nat_tests}
use Rattle.gq_names.proofs.RepeatLemmas.{contains_none}
use Rattle.gq_rules.proofs.wrong_by_threads.wrong_fields.Goals as goal

-- as many as none
none_told : (n : ℕ) (b : Bool) → b ≡ (n == 0) → b ≡ true → n ≡ 0
none_told n b is holds = grind (arith, nat_tests)

-- nothing is wrong with the type system
pub returns-then-is_empty : goal.returns-then-is_empty
returns-then-is_empty g c =
    let count : vec_len c.in_ok-wrong.wrong ≡ length c.in_ok-wrong.wrong.items = search rules in
    let none = nil_from_length c.in_ok-wrong.wrong.items (sym count ∙ none_told (vec_len c.in_ok-wrong.wrong) c.is_empty.result c.is_empty.ensures c.if-is_empty.true) in (
      (λ fault f. contains_none fault (subst (λ xs. Contains xs fault) none ((c.in_ok-wrong.ensures.exact fault).1 f))),
      c.in_ok-field_faults_by_threads.ensures,
    )
