-- Fields that are numbered one by one.
use Rattle.std.proofs.Common.{◌≡◌, ℕ, ◌+◌, List, [], ◌∷◌, ◌++◌, append_assoc, Option, Some, None, All, map, length, refl, sym, ◌∙◌, ap, subst, inl, inr, arith}
use Rattle.std.specs.List.{slice_get}
use Rattle.std.proofs.lemmas.List.{map-append}
use Rattle.std.proofs.lemmas.List.Elements.{All-push, All-weaker, Contains-append_left, Contains-append_right}
use Rattle.gq_names.proofs.RepeatLemmas.{contains_first}
use Rattle.gq_tree.specs.Forest.{none}
use Rattle.gq_types.specs.Entries.{EntryOf}
use Rattle.gq_document.specs.FieldSets.{SetOf, FieldAt, field_set}
use Rattle.gq_merging.specs.Helping.SetTables.{MemberOf, HasNumber, IsEmptyAt, IsOfOne, IsPut, own, shared, AreNumbered, weights}
use Rattle.gq_merging.proofs.Worklist.{get_longer, get_seam, longer_number, weights_append, field_weights_append}

wider : (es : List EntryOf) (fs : List FieldAt) (f : FieldAt) (s : SetOf) → IsOfOne es fs s → IsOfOne es (fs ++ f ∷ []) s
wider es fs f s o = record { one = o.one; stands = Contains-append_left fs (f ∷ []) o.one o.stands; is_set = o.is_set }

module _ (es : List EntryOf) (fs : List FieldAt) (sets new then : List SetOf) (ms : List MemberOf) (f : FieldAt) (number : ℕ) (n : AreNumbered es fs sets new ms) where
  abbrev member : MemberOf
  member = record { field_at = f; below = number }

  fields_then : map (λ m. m.field_at) (ms ++ member ∷ []) ≡ fs ++ f ∷ []
  fields_then = map-append (λ (m : MemberOf). m.field_at) ms (member ∷ []) ∙ ap (λ gs. gs ++ f ∷ []) n.fields

  few_then : weights (n.added ++ field_set es f ∷ []) ≡ weights n.added + weights (field_set es f ∷ [])
  few_then = weights_append n.added (field_set es f ∷ [])

  pub one_numbered : IsPut es f new then number → AreNumbered es (fs ++ f ∷ []) sets then (ms ++ member ∷ [])
  one_numbered (own grown is) =
      let seam : slice_get (new ++ field_set es f ∷ []) (length new) ≡ Some (field_set es f) = get_seam new (field_set es f) [] in
      let at : slice_get then number ≡ Some (field_set es f) = ap (λ ss. slice_get ss number) grown ∙ ap (slice_get (new ++ field_set es f ∷ [])) is ∙ seam in
      let before : All (HasNumber es then) ms =
      subst (λ ss. All (HasNumber es ss) ms) (sym grown) (All-weaker (HasNumber es new) (HasNumber es (new ++ field_set es f ∷ [])) (λ m h. longer_number es new (field_set es f ∷ []) m h) ms n.numbers) in
      let weight_is = field_weights_append fs (f ∷ []) in
      record {
        added = n.added ++ field_set es f ∷ [];
        grown = grown ∙ ap (λ ss. ss ++ field_set es f ∷ []) n.grown ∙ append_assoc sets n.added (field_set es f ∷ []);
        fields = fields_then;
        numbers = All-push (HasNumber es then) ms member before (record { set = field_set es f; is_set = at; alike = inl refl });
        each = All-push (IsOfOne es (fs ++ f ∷ [])) n.added (field_set es f) (All-weaker (IsOfOne es fs) (IsOfOne es (fs ++ f ∷ [])) (wider es fs f) n.added n.each)
            (record { one = f; stands = Contains-append_right fs (f ∷ []) f (contains_first f [] f refl); is_set = refl });
        few = omega (arith, n.few, few_then, weight_is);
      }
  one_numbered (shared {s = s} same leaf at empty) =
      let weight_is = field_weights_append fs (f ∷ []) in
      record {
        added = n.added;
        grown = same ∙ n.grown;
        fields = fields_then;
        numbers = All-push (HasNumber es then) ms member (subst (λ ss. All (HasNumber es ss) ms) (sym same) n.numbers)
            (record { set = s; is_set = ap (λ ss. slice_get ss number) same ∙ at; alike = inr (empty, leaf) });
        each = All-weaker (IsOfOne es fs) (IsOfOne es (fs ++ f ∷ [])) (wider es fs f) n.added n.each;
        few = omega (arith, n.few, weight_is);
      }

-- the set in which nothing stands keeps its number
pub empty_longer : (sets added : List SetOf) (empty : Option ℕ) → IsEmptyAt sets empty → IsEmptyAt (sets ++ added) empty
empty_longer sets added None e = tt
empty_longer sets added (Some n) e = (e.0, get_longer sets added n e.0 e.1, e.2)

pub empty_here : (sets : List SetOf) (s : SetOf) (number : ℕ) → number ≡ length sets → s.selections ≡ none → IsEmptyAt (sets ++ s ∷ []) (Some number)
empty_here sets s number is nothing = (s, ap (slice_get (sets ++ s ∷ [])) is ∙ get_seam sets s [], nothing)

pub put_shared : (es : List EntryOf) (f : FieldAt) (sets : List SetOf) (number : ℕ) (empty : Option ℕ) → empty ≡ Some number → IsEmptyAt sets empty → f.below ≡ none → IsPut es f sets sets number
put_shared es f sets number empty is e leaf = let there : IsEmptyAt sets (Some number) = subst (IsEmptyAt sets) is e in shared refl leaf there.1 there.2
