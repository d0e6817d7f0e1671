-- Documents are read in one way, so a project has but one report, and is not both valid and invalid.
use Rattle.std.proofs.Common.{◌≡◌, ◌↔◌, List, [], ◌∷◌, Contains, refl, sym, ◌∙◌, ap, subst, inl, inr}
use Rattle.std.proofs.lemmas.Cmp.{nat_cmp_total, on_total, then_total}
use Rattle.std.proofs.lemmas.List.Elements.{All-from_recursion, All-contains}
use Rattle.std.proofs.lemmas.Map.Keys.{sorted_head, sorted_tail}
use Rattle.std.specs.Cmp.{IsTotalOrder}
use Rattle.std.specs.List.Sorted.{IsStrictlySortedBy}
use Rattle.std.specs.declared.cmp.Ordering.{Ordering}
use Rattle.std.specs.declared.cmp.Ordering.TheVariants.{Less}
use Rattle.gq_names.proofs.RepeatLemmas.{contains_none, contains_later, contains_first, contains_cases}
use Rattle.gq_project.specs.declared.document.Doc.{Doc}
use Rattle.gq_fault.specs.declared.found.Found.{Found}
use Rattle.gq_fault.specs.declared.fault.Fault.{Fault}
use Rattle.gq_fault.specs.Codes.{number_of}
use Rattle.gq_fault.specs.Order.{fault_cmp}
use Rattle.gq_fault.specs.Tells.{told}
use Rattle.gq_tree.specs.Readings.{ParsedOf}
use Rattle.gq_parse.specs.Parsed.{AreParsed}
use Rattle.gq_rules.specs.Faults.{IsFaultOf}
use Rattle.gq_rules.specs.Validity.{IsReportOf, IsValid, IsInvalid}

-- lists in order with the same members are one
module _ {X : Type 0} {c : X → X → Ordering} (o : IsTotalOrder c) where
  never_both : (x y : X) → c x y ≡ Less → c y x ≡ Less → ⊥
  never_both x y a b = let e = o.antisymm x y in absurd (cc)

  above_head : (x : X) (xs : List X) → IsStrictlySortedBy c (x ∷ xs) → (z : X) → Contains xs z → c x z ≡ Less
  above_head x xs s z = All-contains (λ y. c x y ≡ Less) xs z (All-from_recursion (λ y. c x y ≡ Less) xs (sorted_head c x xs s))

  -- what is behind a head is behind the same head
  behind : (x y : X) (xs ys : List X) → x ≡ y → IsStrictlySortedBy c (x ∷ xs) → ((z : X) → Contains (x ∷ xs) z → Contains (y ∷ ys) z) → (z : X) → Contains xs z → Contains ys z
  behind x y xs ys e s h z k = elim (contains_cases y ys z (h z (contains_later x xs z k))) [
    | inl q ↦ let l = subst (λ w. c x w ≡ Less) (sym (e ∙ q)) (above_head x xs s z k) in absurd (never_both x x l l)
    | inr r ↦ r
  ]

  same_head : (x y : X) (xs ys : List X) → IsStrictlySortedBy c (x ∷ xs) → IsStrictlySortedBy c (y ∷ ys) → Contains (y ∷ ys) x → Contains (x ∷ xs) y → x ≡ y
  same_head x y xs ys s t a b = elim (contains_cases y ys x a) [
    | inl e ↦ sym e
    | inr l ↦ elim (contains_cases x xs y b) [
      | inl e ↦ e
      | inr r ↦ absurd (never_both x y (above_head x xs s y r) (above_head y ys t x l))
    ]
  ]

  one_list : (xs ys : List X) → IsStrictlySortedBy c xs → IsStrictlySortedBy c ys → ((z : X) → Contains xs z ↔ Contains ys z) → xs ≡ ys
  one_list [] [] s t h = refl
  one_list [] (y ∷ ys) s t h = absurd (contains_none y ((h y).1 (contains_first y ys y refl)))
  one_list (x ∷ xs) [] s t h = absurd (contains_none x ((h x).0 (contains_first x xs x refl)))
  one_list (x ∷ xs) (y ∷ ys) s t h =
      let e = same_head x y xs ys s t ((h x).0 (contains_first x xs x refl)) ((h y).1 (contains_first y ys y refl)) in
      let rest = one_list xs ys (sorted_tail c x xs s) (sorted_tail c y ys t)
      (λ z. (behind x y xs ys e s (λ w. (h w).0) z, behind y x ys xs (sym e) t (λ w. (h w).1) z)) in
      ap (λ z. z ∷ xs) e ∙ ap (λ zs. y ∷ zs) rest

item_cmp_total : IsTotalOrder fault_cmp
item_cmp_total =
    then_total (on_total (λ (i : Fault). i.file) nat_cmp_total)
    (then_total (on_total (λ (i : Fault). i.start) nat_cmp_total)
    (then_total (on_total (λ (i : Fault). number_of i.code) nat_cmp_total) (on_total (λ (i : Fault). i.end) nat_cmp_total)))

-- documents are read in one way
abbrev pub OneReadings : Type 0
OneReadings = (documents : List Doc) (a b : List ParsedOf) → AreParsed documents a → AreParsed documents b → a ≡ b

module _ (one_reading : OneReadings) where
  pub one_report : (documents : List Doc) (a b : List Found) → IsReportOf documents a → IsReportOf documents b → a ≡ b
  one_report documents a b r s =
      let same : r.readings ≡ s.readings = one_reading documents r.readings s.readings r.are_readings s.are_readings in
      let faults : r.faults ≡ s.faults = one_list item_cmp_total r.faults s.faults r.sorted s.sorted (λ z. (
        (λ k. (s.exact z).1 (subst (λ rs. IsFaultOf rs z) same ((r.exact z).0 k))),
        (λ k. (r.exact z).1 (subst (λ rs. IsFaultOf rs z) (sym same) ((s.exact z).0 k))),
      )) in
      r.are_told ∙ ap (told documents) faults ∙ sym s.are_told

  pub not_both : (documents : List Doc) → IsValid documents → IsInvalid documents → ⊥
  not_both documents v i = v.none i.some.0 (subst (λ rs. IsFaultOf rs i.some.0) (one_reading documents i.readings v.readings i.are_readings v.are_readings) i.some.1)
