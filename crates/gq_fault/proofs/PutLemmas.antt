-- Faults that were put one after the other.
use Rattle.std.proofs.Common.{◌≡◌, ◌↔◌, ◌⊎◌, ⊎_elim, List, ◌++◌, append_assoc, Contains, sym, ◌∙◌, ap, subst, inl, inr}
use Rattle.std.proofs.lemmas.List.Elements.{Contains-append_left, Contains-append_right, Contains-append_cases}
use Rattle.gq_fault.specs.declared.fault.Fault.{Fault}
use Rattle.gq_fault.specs.Adds.{AddsExactly}

-- what a list equation puts
pub puts_list : (Is : Fault → Type 0) (old new added : List Fault) → new ≡ old ++ added → ((fault : Fault) → Contains added fault ↔ Is fault) → AddsExactly Is old new
puts_list Is old new added e h = record { added = added; is = e; exactly = h }

-- one after the other puts both
pub puts_both : (A B : Fault → Type 0) (old middle new : List Fault) → AddsExactly A old middle → AddsExactly B middle new → AddsExactly (λ fault. A fault ⊎ B fault) old new
puts_both A B old middle new a b = record {
  added = a.added ++ b.added;
  is = b.is ∙ ap (λ xs. xs ++ b.added) a.is ∙ append_assoc old a.added b.added;
  exactly = λ fault. (
    (λ c. ⊎_elim (λ l. inl ((a.exactly fault).0 l)) (λ r. inr ((b.exactly fault).0 r)) (Contains-append_cases a.added b.added fault c)),
    (λ s. ⊎_elim (λ l. Contains-append_left a.added b.added fault ((a.exactly fault).1 l)) (λ r. Contains-append_right a.added b.added fault ((b.exactly fault).1 r)) s),
  );
}

-- what is put may be said in other words
pub puts_as : (A B : Fault → Type 0) (old new : List Fault) → ((fault : Fault) → A fault ↔ B fault) → AddsExactly A old new → AddsExactly B old new
puts_as A B old new h a = record {
  added = a.added;
  is = a.is;
  exactly = λ fault. ((λ c. (h fault).0 ((a.exactly fault).0 c)), (λ b. (a.exactly fault).1 ((h fault).1 b)));
}
