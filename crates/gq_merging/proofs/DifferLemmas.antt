-- Which fields differ: of two that differ, one differs from any third field.
use Rattle.std.proofs.Common.{◌≡◌, true, List, Option, Some, None, refl, sym, ◌∙◌, ap}
use Rattle.std.specs.Prelude.{is_some}
use Rattle.gq_text.specs.declared.place.Span.{Span}
use Rattle.gq_tree.specs.Plain.{TypeOf}
use Rattle.gq_types.specs.Entries.{EntryOf}
use Rattle.gq_document.specs.FieldSets.{FieldAt}
use Rattle.gq_merging.specs.FieldsMerge.{leads_on, HasType, IsSameCall, Differ, in_shape, in_call}
use Rattle.gq_merging.specs.Helping.Comparisons.{known_type, may_differ}
use Rattle.gq_merging.specs.declared.purpose.Purpose.{Purpose}
use Rattle.gq_merging.specs.declared.purpose.Purpose.TheVariants.{Shapes}
use Rattle.gq_merging.proofs.CompareLemmas.{has_type, type_of}
use Rattle.gq_merging.proofs.EquivalenceLemmas.{arguments_back, arguments_through}

-- calls
same_call_back : (a b : FieldAt) → IsSameCall a b → IsSameCall b a
same_call_back a b h = record { one_name = sym h.one_name; same_arguments = arguments_back a.arguments b.arguments h.same_arguments }

same_call_through : (a b c : FieldAt) → IsSameCall a b → IsSameCall b c → IsSameCall a c
same_call_through a b c h k = record { one_name = h.one_name ∙ k.one_name; same_arguments = arguments_through a.arguments b.arguments c.arguments h.same_arguments k.same_arguments }

-- what differs leads on, and may differ
pub differ_leads : (es : List EntryOf) (p : Purpose) (a b : FieldAt) → Differ es p a b → leads_on es p a b ≡ true
differ_leads es p a b (in_shape t u h k apart) = refl
differ_leads es p a b (in_call meet apart) = meet

pub differ_may : (es : List EntryOf) (p : Purpose) (a b : FieldAt) → Differ es p a b → (may_differ es p a ≡ true) × (may_differ es p b ≡ true)
differ_may es p a b (in_shape t u h k apart) = (ap is_some (type_of es a t h), ap is_some (type_of es b u k))
differ_may es p a b (in_call meet apart) = (refl, refl)

-- the type of a field that may differ in shape
type_known : (es : List EntryOf) (f : FieldAt) → may_differ es Shapes f ≡ true → (t : TypeOf Span) × HasType es f t
type_known es f may = by (known_type es f) refl may
  where
    by : (o : Option (TypeOf Span)) → known_type es f ≡ o → is_some o ≡ true → (t : TypeOf Span) × HasType es f t
    by None is known = absurd (cc)
    by (Some t) is known = (t, has_type es f t is)

-- of two that differ, one differs from any other: from c, which does not differ from b, a differs
pub first_differs : (es : List EntryOf) (p : Purpose) (a b c : FieldAt) → may_differ es p c ≡ true → leads_on es p c a ≡ true → leads_on es p c b ≡ true →
    Differ es p a b → (Differ es p c b → ⊥) → Differ es p c a
first_differs es p a b c may to_a to_b (in_shape t u h k apart) not_b =
    let q = type_known es c may in
    in_shape q.0 t q.1 h (λ one. not_b (in_shape q.0 u q.1 k (λ other. apart (sym one ∙ other))))
first_differs es p a b c may to_a to_b (in_call meet apart) not_b =
    in_call to_a (λ one. not_b (in_call to_b (λ other. apart (same_call_through a c b (same_call_back c a one) other))))

-- what does not differ from c differs from each s that does
pub second_differs : (es : List EntryOf) (p : Purpose) (b c s : FieldAt) → may_differ es p b ≡ true → leads_on es p s b ≡ true → leads_on es p c b ≡ true →
    Differ es p c s → (Differ es p c b → ⊥) → Differ es p s b
second_differs es p b c s may from_s from_c (in_shape t u h k apart) not_b =
    let q = type_known es b may in
    in_shape u q.0 k q.1 (λ one. not_b (in_shape t q.0 h q.1 (λ other. apart (other ∙ sym one))))
second_differs es p b c s may from_s from_c (in_call meet apart) not_b =
    in_call from_s (λ one. not_b (in_call from_c (λ other. apart (same_call_through c b s other (same_call_back s b one)))))
