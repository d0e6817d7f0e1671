-- Of fields of which any two lead on, the earliest one and the earliest that differs from it tell all that do not merge.
use Rattle.std.proofs.Common.{◌≡◌, ◌↔◌, ◌⊎◌, ⊎_elim, inl, inr, ℕ, ◌+◌, ◌<◌, true, List, [], ◌∷◌, ◌++◌, Some, None, Contains, length, take, get_or, map, refl, sym, ◌∙◌, ap, subst, arith}
use Rattle.std.proofs.lemmas.List.Elements.{Contains-push, Contains-push_cases, Contains-append_left}
use Rattle.std.proofs.lemmas.Option.{same_Some}
use Rattle.gq_names.proofs.RepeatLemmas.{contains_none, contains_cases}
use Rattle.gq_tree.specs.Views.{argument_view}
use Rattle.gq_tree.specs.declared.tree.Selection.TheViews.{out-Field}
use Rattle.gq_tree.specs.declared.value.Argument.{Argument}
use Rattle.gq_types.specs.Entries.{EntryOf}
use Rattle.gq_fault.specs.declared.fault.Fault.{Fault}
use Rattle.gq_fault.specs.Adds.{AddsExactly}
use Rattle.gq_fault.proofs.PutLemmas.{puts_both, puts_as}
use Rattle.gq_document.specs.FieldSets.{FieldAt}
use Rattle.gq_merging.specs.FieldsMerge.{Differ, in_shape, in_call}
use Rattle.gq_merging.specs.Helping.Comparisons.{may_differ}
use Rattle.gq_merging.specs.SameArguments.{SameArguments}
use Rattle.gq_merging.specs.Shapes.{shape_of}
use Rattle.gq_merging.specs.Helping.SetTables.{MemberOf}
use Rattle.gq_merging.specs.Helping.PairTables.{MetOf, LookOf, AreMet, IsGiven, IsFaultOf}
use Rattle.gq_merging.specs.Helping.SearchTables.{IsEarliest, IsWith, IsClique}
use Rattle.gq_merging.specs.Helping.Views.{field_at, member_view, members_view}
use Rattle.gq_merging.specs.declared.purpose.Purpose.{Purpose}
use Rattle.gq_merging.specs.declared.rows.Member.{Member}
use Rattle.gq_merging.proofs.DifferLemmas.{differ_may, first_differs, second_differs}
use Rattle.gq_merging.proofs.EarliestLemmas.{no_later_on}
use Rattle.gq_merging.proofs.LookLemmas.{puts_nothing}
use Rattle.gq_merging.proofs.ClassLemmas.{members_more}
use Rattle.gq_merging.proofs.CompareLemmas.{type_of}
use Rattle.gq_merging.proofs.SamenessLemmas.{same_when_erased}

-- one field with one more
pub with_more : (w : LookOf) (one : MemberOf) (xs : List Member) (i : ℕ) (d : Member) (faults middle faults' : List Fault) → i < length xs → get_or xs i d ≡ d →
    AddsExactly (IsGiven (IsWith one (members_view (take i xs))) (IsFaultOf w)) faults middle → AddsExactly (IsFaultOf w (record { left = one; right = member_view d })) middle faults' →
    AddsExactly (IsGiven (IsWith one (members_view (take (i + 1) xs))) (IsFaultOf w)) faults faults'
with_more w one xs i d faults middle faults' l e a b =
    let front = members_view (take i xs) in
    let here : MetOf = record { left = one; right = member_view d } in
    subst (λ ms. AddsExactly (IsGiven (IsWith one ms) (IsFaultOf w)) faults faults') (sym (members_more xs i d l e))
    (puts_as (λ fault. IsGiven (IsWith one front) (IsFaultOf w) fault ⊎ IsFaultOf w here fault) (IsGiven (IsWith one (front ++ member_view d ∷ [])) (IsFaultOf w)) faults faults'
    (λ fault. (
      (λ s. ⊎_elim
          (λ g. record { one = g.one; these = record { is = g.these.is; stands = Contains-append_left front (member_view d ∷ []) g.one.right g.these.stands }; gives = g.gives })
          (λ f. record { one = here; these = record { is = refl; stands = Contains-push front (member_view d) }; gives = f }) s),
      (λ g. ⊎_elim
          (λ c. inl (record { one = g.one; these = record { is = g.these.is; stands = c }; gives = g.gives }))
          (λ q. inr (subst (λ p. IsFaultOf w p fault) (is_here g.one g.these.is q) g.gives))
          (Contains-push_cases front (member_view d) g.one.right g.these.stands)),
    ))
    (puts_both (IsGiven (IsWith one front) (IsFaultOf w)) (IsFaultOf w here) faults middle faults' a b))
  where
    is_here : (p : MetOf) → p.left ≡ one → member_view d ≡ p.right → p ≡ record { left = one; right = member_view d }
    is_here p l r = λ i. record { left = l i; right = sym r i }

pub with_none : (w : LookOf) (one : MemberOf) (faults : List Fault) → AddsExactly (IsGiven (IsWith one []) (IsFaultOf w)) faults faults
with_none w one faults = puts_nothing (IsGiven (IsWith one []) (IsFaultOf w)) faults (λ i g. contains_none g.one.right g.these.stands)

-- no field of the code differs from itself
not_itself : (es : List EntryOf) (p : Purpose) (f : FieldAt) (given : List Argument) → f.arguments ≡ map argument_view given → Differ es p f f → ⊥
not_itself es p f given e (in_shape t u ht hu apart) = apart (ap (shape_of es) (same_Some t u (sym (type_of es f t ht) ∙ type_of es f u hu)))
not_itself es p f given e (in_call leads apart) =
    apart (record { one_name = refl; same_arguments = subst (λ l. SameArguments l l) (sym e) (same_when_erased given given refl) })

-- one field alone
pub alone_none : (w : LookOf) (xs : List Member) (faults : List Fault) → length xs ≡ 1 → AddsExactly (IsGiven (AreMet (members_view xs) (members_view xs)) (IsFaultOf w)) faults faults
alone_none w [] faults e = absurd (omega (arith, e))
alone_none w (x ∷ []) faults e =
    puts_nothing (IsGiven (AreMet (member_view x ∷ []) (member_view x ∷ [])) (IsFaultOf w)) faults
    (λ i g. not_itself w.entries w.purpose (field_at x.it) (out-Field x.it.field.now).arguments.items refl
    (subst (λ (m : MemberOf). Differ w.entries w.purpose m.field_at (field_at x.it)) (the_one g.one.left g.these.stands_left)
    (subst (λ (m : MemberOf). Differ w.entries w.purpose g.one.left.field_at m.field_at) (the_one g.one.right g.these.stands_right) g.gives.differ)))
  where
    the_one : (d : MemberOf) → Contains (member_view x ∷ []) d → d ≡ member_view x
    the_one d h = ⊎_elim (λ q. sym q) (λ f. absurd (contains_none d f)) (contains_cases (member_view x) [] d h)
alone_none w (x ∷ y ∷ rest) faults e = absurd (omega (arith, e))

module _ (w : LookOf) (ms : List MemberOf) (clique : IsClique w ms) where
  abbrev MayDiffer : MemberOf → Type 0
  MayDiffer m = may_differ w.entries w.purpose m.field_at ≡ true

  abbrev DiffersFrom : MemberOf → MemberOf → Type 0
  DiffersFrom first m = Differ w.entries w.purpose first.field_at m.field_at

  abbrev AreFaults : Fault → Type 0
  AreFaults = IsGiven (AreMet ms ms) (IsFaultOf w)

  -- where none can differ there is no fault
  pub no_first : (faults : List Fault) → IsEarliest MayDiffer ms None → AddsExactly AreFaults faults faults
  no_first faults h =
      puts_nothing AreFaults faults (λ i g. h.none g.one.left g.these.stands_left (differ_may w.entries w.purpose g.one.left.field_at g.one.right.field_at g.gives.differ).0)

  module _ (first : MemberOf) (is_first : IsEarliest MayDiffer ms (Some first)) where
    -- from what differs from another one that the first does not, the first differs
    from_first : (a b : MemberOf) → Contains ms a → Contains ms b → DiffersFrom a b → (DiffersFrom first b → ⊥) → DiffersFrom first a
    from_first a b ca cb d n =
        first_differs w.entries w.purpose a.field_at b.field_at first.field_at is_first.is_one.1
        (clique.lead first a is_first.is_one.0 ca) (clique.lead first b is_first.is_one.0 cb) d n

    -- where none differs from the first there is no fault
    pub no_second : (faults : List Fault) → IsEarliest (DiffersFrom first) ms None → AddsExactly AreFaults faults faults
    no_second faults h =
        puts_nothing AreFaults faults
        (λ i g. h.none g.one.left g.these.stands_left (from_first g.one.left g.one.right g.these.stands_left g.these.stands_right g.gives.differ (h.none g.one.right g.these.stands_right)))

    module _ (second : MemberOf) (is_second : IsEarliest (DiffersFrom first) ms (Some second)) where
      abbrev Either : Fault → Type 0
      Either fault = IsGiven (IsWith first ms) (IsFaultOf w) fault ⊎ IsGiven (IsWith second ms) (IsFaultOf w) fault

      with_any : (one : MemberOf) → Contains ms one → (fault : Fault) → IsGiven (IsWith one ms) (IsFaultOf w) fault → AreFaults fault
      with_any one c fault g =
          let there : Contains ms g.one.left = subst (Contains ms) (sym g.these.is) c in
          record { one = g.one; these = record { stands_left = there; stands_right = g.these.stands; one_key = clique.one_key.each g.one.left g.one.right there g.these.stands }; gives = g.gives }

      by_first : (p : MetOf) (fault : Fault) → AreMet ms ms p → IsFaultOf w p fault → DiffersFrom first p.right → Either fault
      by_first p fault met f d = inl (record {
        one = record { left = first; right = p.right };
        these = record { is = refl; stands = met.stands_right };
        gives = record {
          differ = d;
          is_no_later = is_first.no_later p.right met.stands_right (differ_may w.entries w.purpose first.field_at p.right.field_at d).1;
          is = f.is;
        };
      })

      by_second : (p : MetOf) (fault : Fault) → AreMet ms ms p → IsFaultOf w p fault → (DiffersFrom first p.right → ⊥) → Either fault
      by_second p fault met f n =
          let d = from_first p.left p.right met.stands_left met.stands_right f.differ n in
          inr (record {
            one = record { left = second; right = p.right };
            these = record { is = refl; stands = met.stands_right };
            gives = record {
              differ = second_differs w.entries w.purpose p.right.field_at first.field_at second.field_at
                  (differ_may w.entries w.purpose p.left.field_at p.right.field_at f.differ).1
                  (clique.lead second p.right is_second.is_one.0 met.stands_right) (clique.lead first p.right is_first.is_one.0 met.stands_right) is_second.is_one.1 n;
              is_no_later = no_later_on second.field_at p.left.field_at p.right.field_at (is_second.no_later p.left met.stands_left d) f.is_no_later;
              is = f.is;
            };
          })

      both_tell : (fault : Fault) → Either fault ↔ AreFaults fault
      both_tell fault = (
        (λ s. ⊎_elim (with_any first is_first.is_one.0 fault) (with_any second is_second.is_one.0 fault) s),
        (λ g. ⊎_elim (by_first g.one fault g.these g.gives) (by_second g.one fault g.these g.gives) (is_second.decided g.one.right g.these.stands_right)),
      )

      pub two_tell_all : (faults middle faults' : List Fault) → AddsExactly (IsGiven (IsWith first ms) (IsFaultOf w)) faults middle → AddsExactly (IsGiven (IsWith second ms) (IsFaultOf w)) middle faults' →
          AddsExactly AreFaults faults faults'
      two_tell_all faults middle faults' a b =
          puts_as Either AreFaults faults faults' both_tell (puts_both (IsGiven (IsWith first ms) (IsFaultOf w)) (IsGiven (IsWith second ms) (IsFaultOf w)) faults middle faults' a b)
