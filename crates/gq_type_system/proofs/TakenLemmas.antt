-- Which roots are taken before each entry of a schema.
use Rattle.std.proofs.Common.{◌≡◌, ℕ, ◌+◌, ◌<◌, Bool, true, false, if◌then◌else◌, List, [], ◌∷◌, ◌++◌, Option, Some, None, ◌⊎◌, inl, inr, Contains, refl, sym, ap, ◌∙◌, subst, arith, bytes_eq, nat_lt}
use Rattle.std.specs.List.{list_any}
use Rattle.std.proofs.lemmas.Bool.{ltb-true, ltb-false}
use Rattle.std.proofs.lemmas.List.{get_or_default}
use Rattle.std.proofs.lemmas.List.Elements.{Contains-append_left, Contains-append_right, Contains-append_cases, Contains-push, Contains-push_cases}
use Rattle.std.proofs.lemmas.List.Folds.{Any-from_list_any, list_any-from_Any}
use Rattle.std.proofs.lemmas.Slice.Eq.{bytes_eq-Decides}
use Rattle.gq_text.specs.declared.place.Span.{Span}
use Rattle.gq_names.specs.Repeats.{StandsAt}
use Rattle.gq_names.proofs.RepeatLemmas.{contains_none, contains_first, contains_cases}
use Rattle.gq_tree.specs.declared.tree.OperationKind.{OperationKind}
use Rattle.gq_tree.specs.declared.tree.OperationKind.TheVariants.{Query, Mutation, Subscription}
use Rattle.gq_tree.specs.Plain.{RootOf}
use Rattle.gq_tree.specs.Same.{same_kinds}
use Rattle.gq_types.specs.Entries.{Text, EntryOf}
use Rattle.gq_types.specs.Joined.{In}
use Rattle.gq_types.specs.Roots.{default_root}
use Rattle.gq_type_system.specs.RootTypes.{HasRoot, has_default, has_entry, IsFirstRoot, IsRoot, is_default, is_entry}
use Rattle.gq_type_system.specs.Helping.RootTypesPlaces.{TakenOf, has_kind, has_text, taken_default, defaults, taken_after}
use Rattle.gq_type_system.proofs.OperationLemmas.{same_operation, operation_same}

any_from : {X : Type 0} (p : X → Bool) (xs : List X) → list_any p xs ≡ true → (x : X) × Contains xs x × (p x ≡ true)
any_from p xs h = let a = Any-from_list_any p xs h in (a.1, (a.0, a.2, a.3), a.4)

any_to : {X : Type 0} (p : X → Bool) (xs : List X) (x : X) → Contains xs x → p x ≡ true → list_any p xs ≡ true
any_to p xs x c e = list_any-from_Any p xs (c.0, x, c.1, c.2, e)

kind_from : (taken : List TakenOf) (k : OperationKind) → has_kind taken k ≡ true → (t : TakenOf) × Contains taken t × (t.kind ≡ k)
kind_from taken k h = let a = any_from (λ t. same_kinds t.kind k) taken h in (a.0, a.1, same_operation a.0.kind k a.2)

kind_to : (taken : List TakenOf) (k : OperationKind) (t : TakenOf) → Contains taken t → t.kind ≡ k → has_kind taken k ≡ true
kind_to taken k t c e = any_to (λ s. same_kinds s.kind k) taken t c (operation_same t.kind k e)

text_from : (taken : List TakenOf) (text : Text) → has_text taken text ≡ true → (t : TakenOf) × Contains taken t × (t.text ≡ text)
text_from taken text h = let a = any_from (λ t. bytes_eq t.text text) taken h in (a.0, a.1, (bytes_eq-Decides a.0.text text).0 a.2)

text_to : (taken : List TakenOf) (text : Text) (t : TakenOf) → Contains taken t → t.text ≡ text → has_text taken text ≡ true
text_to taken text t c e = any_to (λ s. bytes_eq s.text text) taken t c ((bytes_eq-Decides t.text text).1 e)

-- the default roots
one_default : (k : OperationKind) (o : Option Text) (t : TakenOf) → Contains (taken_default k o) t → (t.kind ≡ k) × (o ≡ Some t.text)
one_default k None t c = absurd (contains_none t c)
one_default k (Some text) t c = elim (contains_cases (record { kind = k; text = text }) [] t c) [
  | inl e ↦ (sym (ap (λ s. s.kind) e), ap (λ s. Some s.text) e)
  | inr n ↦ absurd (contains_none t n)
]

default_there : (k : OperationKind) (o : Option Text) (text : Text) → o ≡ Some text → Contains (taken_default k o) (record { kind = k; text = text })
default_there k o text e = subst (λ p. Contains (taken_default k p) (record { kind = k; text = text })) (sym e) (contains_first (record { kind = k; text = text }) [] (record { kind = k; text = text }) refl)

module _ (es : List EntryOf) where
  from_defaults : (t : TakenOf) → Contains (defaults es) t → default_root es t.kind ≡ Some t.text
  from_defaults t c = elim (Contains-append_cases (taken_default Query (default_root es Query)) (taken_default Mutation (default_root es Mutation) ++ taken_default Subscription (default_root es Subscription)) t c) [
    | inl a ↦ let d = one_default Query (default_root es Query) t a in ap (default_root es) d.0 ∙ d.1
    | inr b ↦ elim (Contains-append_cases (taken_default Mutation (default_root es Mutation)) (taken_default Subscription (default_root es Subscription)) t b) [
      | inl m ↦ let d = one_default Mutation (default_root es Mutation) t m in ap (default_root es) d.0 ∙ d.1
      | inr s ↦ let d = one_default Subscription (default_root es Subscription) t s in ap (default_root es) d.0 ∙ d.1
    ]
  ]

  to_defaults : (k : OperationKind) (text : Text) → default_root es k ≡ Some text → Contains (defaults es) (record { kind = k; text = text })
  to_defaults Query text e =
      Contains-append_left (taken_default Query (default_root es Query)) (taken_default Mutation (default_root es Mutation) ++ taken_default Subscription (default_root es Subscription)) (record { kind = Query; text = text })
      (default_there Query (default_root es Query) text e)
  to_defaults Mutation text e =
      Contains-append_right (taken_default Query (default_root es Query)) (taken_default Mutation (default_root es Mutation) ++ taken_default Subscription (default_root es Subscription)) (record { kind = Mutation; text = text })
      (Contains-append_left (taken_default Mutation (default_root es Mutation)) (taken_default Subscription (default_root es Subscription)) (record { kind = Mutation; text = text }) (default_there Mutation (default_root es Mutation) text e))
  to_defaults Subscription text e =
      Contains-append_right (taken_default Query (default_root es Query)) (taken_default Mutation (default_root es Mutation) ++ taken_default Subscription (default_root es Subscription)) (record { kind = Subscription; text = text })
      (Contains-append_right (taken_default Mutation (default_root es Mutation)) (taken_default Subscription (default_root es Subscription)) (record { kind = Subscription; text = text }) (default_there Subscription (default_root es Subscription) text e))

  -- what the roots that are taken before a place say
  pub record Knows (roots : List (In (RootOf Span))) (place : ℕ) (taken : List TakenOf) : Type 0 where
    pub kind_taken : (k : OperationKind) → has_kind taken k ≡ true → HasRoot es roots place k
    pub takes_kind : (k : OperationKind) → HasRoot es roots place k → has_kind taken k ≡ true
    pub text_taken : (text : Text) → has_text taken text ≡ true → IsRoot es roots place text
    pub takes_text : (text : Text) → IsRoot es roots place text → has_text taken text ≡ true

  pub at_first : (roots : List (In (RootOf Span))) → Knows roots 0 (defaults es)
  at_first roots = record { kind_taken = kinds; takes_kind = takes_kinds; text_taken = texts; takes_text = takes_texts }
    where
      kinds : (k : OperationKind) → has_kind (defaults es) k ≡ true → HasRoot es roots 0 k
      kinds k h = let a = kind_from (defaults es) k h in has_default (ap (default_root es) (sym a.2) ∙ from_defaults a.0 a.1)

      takes_kinds : (k : OperationKind) → HasRoot es roots 0 k → has_kind (defaults es) k ≡ true
      takes_kinds k (has_default {text} e) = kind_to (defaults es) k (record { kind = k; text = text }) (to_defaults k text e) refl
      takes_kinds k (has_entry s lt e) = absurd (omega (arith, lt))

      texts : (text : Text) → has_text (defaults es) text ≡ true → IsRoot es roots 0 text
      texts text h = let a = text_from (defaults es) text h in is_default a.0.kind (from_defaults a.0 a.1 ∙ ap Some a.2)

      takes_texts : (text : Text) → IsRoot es roots 0 text → has_text (defaults es) text ≡ true
      takes_texts text (is_default operation e) = text_to (defaults es) text (record { kind = operation; text = text }) (to_defaults operation text e) refl
      takes_texts text (is_entry f lt e) = absurd (omega (arith, lt))

  pub later_kind : (roots : List (In (RootOf Span))) (place : ℕ) (k : OperationKind) → HasRoot es roots place k → HasRoot es roots (place + 1) k
  later_kind roots place k (has_default e) = has_default e
  later_kind roots place k (has_entry s lt e) = has_entry s (omega (arith, lt)) e

  later_text : (roots : List (In (RootOf Span))) (place : ℕ) (text : Text) → IsRoot es roots place text → IsRoot es roots (place + 1) text
  later_text roots place text (is_default operation e) = is_default operation e
  later_text roots place text (is_entry f lt e) = is_entry f (omega (arith, lt)) e

  same_place : (roots : List (In (RootOf Span))) (i : ℕ) (x y : In (RootOf Span)) → StandsAt roots i x → StandsAt roots i y → x ≡ y
  same_place roots i x y s t = sym s.1 ∙ get_or_default roots i x y s.0 ∙ t.1

  here_or_earlier : (earlier place : ℕ) → earlier < place + 1 → (earlier < place) ⊎ (earlier ≡ place)
  here_or_earlier earlier place lt = by_order (nat_lt earlier place) refl
    where
      by_order : (b : Bool) → nat_lt earlier place ≡ b → (earlier < place) ⊎ (earlier ≡ place)
      by_order true e = inl (ltb-true earlier place e)
      by_order false e = let late = ltb-false earlier place e in inr (omega (arith, late, lt))

  module _ (roots : List (In (RootOf Span))) (place : ℕ) (root : In (RootOf Span)) (taken : List TakenOf) where
    -- the kind of operation has a root: nothing is taken
    kept : StandsAt roots place root → Knows roots place taken → has_kind taken root.it.kind ≡ true → Knows roots (place + 1) taken
    kept stands knows has = record { kind_taken = kinds; takes_kind = takes_kinds; text_taken = texts; takes_text = takes_texts }
      where
        kinds : (k : OperationKind) → has_kind taken k ≡ true → HasRoot es roots (place + 1) k
        kinds k h = later_kind roots place k (knows.kind_taken k h)

        takes_kinds : (k : OperationKind) → HasRoot es roots (place + 1) k → has_kind taken k ≡ true
        takes_kinds k (has_default e) = knows.takes_kind k (has_default e)
        takes_kinds k (has_entry {earlier} {other} s lt e) = elim (here_or_earlier earlier place lt) [
          | inl before ↦ knows.takes_kind k (has_entry s before e)
          | inr at ↦
              let same = same_place roots place other root (subst (λ i. StandsAt roots i other) at s) stands in
              subst (λ o. has_kind taken o ≡ true) (ap (λ r. r.it.kind) (sym same) ∙ e) has
        ]

        texts : (text : Text) → has_text taken text ≡ true → IsRoot es roots (place + 1) text
        texts text h = later_text roots place text (knows.text_taken text h)

        takes_texts : (text : Text) → IsRoot es roots (place + 1) text → has_text taken text ≡ true
        takes_texts text (is_default operation e) = knows.takes_text text (is_default operation e)
        takes_texts text (is_entry {earlier} {other} f lt e) = elim (here_or_earlier earlier place lt) [
          | inl before ↦ knows.takes_text text (is_entry f before e)
          | inr at ↦
              let same = same_place roots place other root (subst (λ i. StandsAt roots i other) at f.stands) stands in
              let of_other = subst (λ r. has_kind taken r.it.kind ≡ true) (sym same) has in
              absurd (f.is_first (subst (λ i. HasRoot es roots i other.it.kind) (sym at) (knows.kind_taken other.it.kind of_other)))
        ]

    -- it has none: the entry is taken
    added : StandsAt roots place root → Knows roots place taken → has_kind taken root.it.kind ≡ false → Knows roots (place + 1) (taken ++ record { kind = root.it.kind; text = root.it.name.text } ∷ [])
    added stands knows has_none = record { kind_taken = kinds; takes_kind = takes_kinds; text_taken = texts; takes_text = takes_texts }
      where
        here : place < place + 1
        here = omega arith

        grown_kind : (k : OperationKind) → has_kind taken k ≡ true → has_kind (taken ++ record { kind = root.it.kind; text = root.it.name.text } ∷ []) k ≡ true
        grown_kind k h =
            let a = kind_from taken k h in
            kind_to (taken ++ record { kind = root.it.kind; text = root.it.name.text } ∷ []) k a.0 (Contains-append_left taken (record { kind = root.it.kind; text = root.it.name.text } ∷ []) a.0 a.1) a.2

        grown_text : (text : Text) → has_text taken text ≡ true → has_text (taken ++ record { kind = root.it.kind; text = root.it.name.text } ∷ []) text ≡ true
        grown_text text h =
            let a = text_from taken text h in
            text_to (taken ++ record { kind = root.it.kind; text = root.it.name.text } ∷ []) text a.0 (Contains-append_left taken (record { kind = root.it.kind; text = root.it.name.text } ∷ []) a.0 a.1) a.2

        kinds : (k : OperationKind) → has_kind (taken ++ record { kind = root.it.kind; text = root.it.name.text } ∷ []) k ≡ true → HasRoot es roots (place + 1) k
        kinds k h =
            let a = kind_from (taken ++ record { kind = root.it.kind; text = root.it.name.text } ∷ []) k h in
            elim (Contains-push_cases taken (record { kind = root.it.kind; text = root.it.name.text }) a.0 a.1) [
              | inl before ↦ later_kind roots place k (knows.kind_taken k (kind_to taken k a.0 before a.2))
              | inr is ↦ has_entry stands here (ap (λ t. t.kind) is ∙ a.2)
            ]

        takes_kinds : (k : OperationKind) → HasRoot es roots (place + 1) k → has_kind (taken ++ record { kind = root.it.kind; text = root.it.name.text } ∷ []) k ≡ true
        takes_kinds k (has_default e) = grown_kind k (knows.takes_kind k (has_default e))
        takes_kinds k (has_entry {earlier} {other} s lt e) = elim (here_or_earlier earlier place lt) [
          | inl before ↦ grown_kind k (knows.takes_kind k (has_entry s before e))
          | inr at ↦
              let same = same_place roots place other root (subst (λ i. StandsAt roots i other) at s) stands in
              kind_to (taken ++ record { kind = root.it.kind; text = root.it.name.text } ∷ []) k (record { kind = root.it.kind; text = root.it.name.text }) (Contains-push taken (record { kind = root.it.kind; text = root.it.name.text })) (ap (λ r. r.it.kind) (sym same) ∙ e)
        ]

        texts : (text : Text) → has_text (taken ++ record { kind = root.it.kind; text = root.it.name.text } ∷ []) text ≡ true → IsRoot es roots (place + 1) text
        texts text h =
            let a = text_from (taken ++ record { kind = root.it.kind; text = root.it.name.text } ∷ []) text h in
            elim (Contains-push_cases taken (record { kind = root.it.kind; text = root.it.name.text }) a.0 a.1) [
              | inl before ↦ later_text roots place text (knows.text_taken text (text_to taken text a.0 before a.2))
              | inr is ↦
                  let first : IsFirstRoot es roots place root = record { stands = stands; is_first = λ r. let yes = knows.takes_kind root.it.kind r in cc } in
                  is_entry first here (ap (λ t. t.text) is ∙ a.2)
            ]

        takes_texts : (text : Text) → IsRoot es roots (place + 1) text → has_text (taken ++ record { kind = root.it.kind; text = root.it.name.text } ∷ []) text ≡ true
        takes_texts text (is_default operation e) = grown_text text (knows.takes_text text (is_default operation e))
        takes_texts text (is_entry {earlier} {other} f lt e) = elim (here_or_earlier earlier place lt) [
          | inl before ↦ grown_text text (knows.takes_text text (is_entry f before e))
          | inr at ↦
              let same = same_place roots place other root (subst (λ i. StandsAt roots i other) at f.stands) stands in
              text_to (taken ++ record { kind = root.it.kind; text = root.it.name.text } ∷ []) text (record { kind = root.it.kind; text = root.it.name.text }) (Contains-push taken (record { kind = root.it.kind; text = root.it.name.text })) (ap (λ r. r.it.name.text) (sym same) ∙ e)
        ]

    pub next : StandsAt roots place root → Knows roots place taken → Knows roots (place + 1) (taken_after taken root)
    next stands knows = by_test (has_kind taken root.it.kind) refl
      where
        by_test : (b : Bool) → has_kind taken root.it.kind ≡ b → Knows roots (place + 1) (if b then taken else taken ++ record { kind = root.it.kind; text = root.it.name.text } ∷ [])
        by_test true e = kept stands knows e
        by_test false e = added stands knows e
