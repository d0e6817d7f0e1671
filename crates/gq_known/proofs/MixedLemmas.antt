-- A document that defines no types is not mixed, so of documents over a type system those that have none of its definitions need no look.
use Rattle.std.proofs.Common.{◌≡◌, ℕ, zero, suc, ◌+◌, ◌<◌, Bool, true, false, List, [], ◌∷◌, ◌++◌, Option, Some, None, Contains, flat_map, length, refl, sym, subst, ap, ◌∙◌, arith, slice_get, slice_index_or, if◌then◌else◌}
use Rattle.std.proofs.lemmas.List.Elements.{Contains-append_left, Contains-append_right}
use Rattle.std.proofs.lemmas.Option.{slice_get_within}
use Rattle.std.specs.List.{list_any, enumerate_from}
use Rattle.gq_text.specs.declared.place.Span.{Span}
use Rattle.gq_tree.specs.Plain.{Def, operation, fragment, type_system, TypeSystemOf}
use Rattle.gq_tree.specs.Readings.{ParsedOf, definitions_read, in_document}
use Rattle.gq_fault.specs.declared.fault.Fault.{Fault}
use Rattle.gq_types.specs.BuiltIn.{built_in}
use Rattle.gq_types.specs.Entries.{EntryOf}
use Rattle.gq_types.proofs.Gathered.{first}
use Rattle.gq_document.specs.Definitions.{entry_in, entries_of}
use Rattle.gq_known.specs.ExecutableDefinitions.{is_executable, first_of_type_system}
use Rattle.gq_known.specs.MixedFaults.{mixed_fault, mixed_at, each_from}
use Rattle.gq_known.specs.Helping.Marked.{marked_mixed_at}

-- the first definition of types is an entry of its document
entry_of : (file : ℕ) (ds : List (Def Span)) (d : TypeSystemOf Span) → first_of_type_system ds ≡ Some d → (e : EntryOf) × (e.file ≡ file) × Contains (flat_map (entry_in file) ds) e
entry_of file [] d h = absurd (cc)
entry_of file (operation kind name variables directives set braces place ∷ ds) d h = entry_of file ds d h
entry_of file (fragment name on directives set braces place ∷ ds) d h = entry_of file ds d h
entry_of file (type_system definition ∷ ds) d h = (record { file = file; definition = definition }, refl, first _ _ _ refl)

-- and one of all documents, the first of which has the number k
among : (k : ℕ) (rs : List ParsedOf) (n : ℕ) (r : ParsedOf) (e : EntryOf) → slice_get rs n ≡ Some r → Contains (in_document entry_in (k + n) r) e →
    Contains (flat_map (λ (z : ℕ × ParsedOf). in_document entry_in z.0 z.1) (enumerate_from k rs)) e
among k [] n r e h c = absurd (cc)
among k (s ∷ rs) zero r e h c =
    Contains-append_left (in_document entry_in k s) (flat_map (λ (z : ℕ × ParsedOf). in_document entry_in z.0 z.1) (enumerate_from (k + 1) rs)) e
    (subst (λ m. Contains (in_document entry_in m s) e) (omega arith) (subst (λ x. Contains (in_document entry_in (k + zero) x) e) (sym (some_is s r h)) c))
  where
    some_is : (a b : ParsedOf) → Some a ≡ Some b → a ≡ b
    some_is a b q = cc
among k (s ∷ rs) (suc n) r e h c =
    Contains-append_right (in_document entry_in k s) (flat_map (λ (z : ℕ × ParsedOf). in_document entry_in z.0 z.1) (enumerate_from (k + 1) rs)) e
    (among (k + 1) rs n r e h (subst (λ m. Contains (in_document entry_in m r) e) (omega arith) c))

-- what is told of each reading, in two ways that come to one
each_same : (f g : ℕ → ParsedOf → List Fault) (k : ℕ) (rs : List ParsedOf) → ((n : ℕ) (r : ParsedOf) → slice_get rs n ≡ Some r → f (k + n) r ≡ g (k + n) r) →
    each_from f k rs ≡ each_from g k rs
each_same f g k [] same = refl
each_same f g k (r ∷ rs) same =
    let here : f k r ≡ g k r = let number : k + zero ≡ k = omega arith in subst (λ m. f m r ≡ g m r) number (same zero r refl) in
    let rest : each_from f (k + 1) rs ≡ each_from g (k + 1) rs =
    each_same f g (k + 1) rs (λ n q e. let number : k + suc n ≡ k + 1 + n = omega arith in subst (λ m. f m q ≡ g m q) number (same (suc n) q e)) in
    ap (λ (xs : List Fault). xs ++ each_from f (k + 1) rs) here ∙ ap (λ (ys : List Fault). g k r ++ ys) rest

module _ (es : List EntryOf) (rs : List ParsedOf) (marks : List Bool) (is : es ≡ built_in ++ entries_of rs)
    (marked : (e : EntryOf) → Contains es e → e.file < length rs → slice_index_or marks e.file false ≡ true) where
  no_types : (file : ℕ) (r : ParsedOf) → first_of_type_system (definitions_read r) ≡ None → mixed_at file r ≡ []
  no_types file r none = ap (λ (o : Option (TypeSystemOf Span)). if list_any is_executable (definitions_read r) then mixed_fault file o else []) none ∙ either (list_any is_executable (definitions_read r))
    where
      either : (b : Bool) → (if b then mixed_fault file None else []) ≡ []
      either true = refl
      either false = refl

  is_marked : (n : ℕ) (r : ParsedOf) (d : TypeSystemOf Span) → slice_get rs n ≡ Some r → first_of_type_system (definitions_read r) ≡ Some d → slice_index_or marks n false ≡ true
  is_marked n r d there one =
      let e = entry_of n (definitions_read r) d one in
      let number : 0 + n ≡ n = omega arith in
      let stands : Contains es e.0 = subst (λ (us : List EntryOf). Contains us e.0) (sym is)
      (Contains-append_right built_in (entries_of rs) e.0 (among 0 rs n r e.0 there (subst (λ m. Contains (in_document entry_in m r) e.0) (sym number) e.2))) in
      subst (λ m. slice_index_or marks m false ≡ true) e.1 (marked e.0 stands (subst (λ m. m < length rs) (sym e.1) (slice_get_within rs n r there)))

  looked_at : (n : ℕ) (r : ParsedOf) → slice_get rs n ≡ Some r → marked_mixed_at marks n r ≡ mixed_at n r
  looked_at n r there = by (slice_index_or marks n false) (first_of_type_system (definitions_read r)) refl refl
    where
      by : (b : Bool) (o : Option (TypeSystemOf Span)) → slice_index_or marks n false ≡ b → first_of_type_system (definitions_read r) ≡ o → marked_mixed_at marks n r ≡ mixed_at n r
      by true o e one = ap (λ (b : Bool). if b then mixed_at n r else []) e
      by false None e one = ap (λ (b : Bool). if b then mixed_at n r else []) e ∙ sym (no_types n r one)
      by false (Some d) e one = absurd (let yes = is_marked n r d there one in cc)

  -- where each document with an entry is marked, no other one is mixed
  pub marked_are : each_from (marked_mixed_at marks) 0 rs ≡ each_from mixed_at 0 rs
  marked_are = each_same (marked_mixed_at marks) mixed_at 0 rs (λ n r there. let number : n ≡ 0 + n = omega arith in subst (λ m. marked_mixed_at marks m r ≡ mixed_at m r) number (looked_at n r there))
