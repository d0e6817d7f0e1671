-- In a project with which nothing is wrong each operation has a root type (sections 2.3 and 3.3.1).
use Rattle.std.proofs.Common.{◌≡◌, ℕ, zero, suc, ◌<◌, ◌≤◌, Bool, true, false, cond, List, [], ◌∷◌, Option, Some, None, is_some, length, inl, inr, refl, sym, ap, ◌∙◌, subst, arith, Contains}
use Rattle.std.specs.Prelude.{if◌then◌else◌, find, position, option_and_then, nat_eq, not}
use Rattle.std.specs.Option.{option_map, option_map_or}
use Rattle.std.proofs.lemmas.Option.{none-some, same_Some}
use Rattle.gq_text.specs.declared.place.Span.{Span}
use Rattle.gq_tree.specs.declared.tree.OperationKind.{OperationKind}
use Rattle.gq_tree.specs.declared.tree.OperationKind.TheVariants.{Query, Mutation, Subscription}
use Rattle.gq_tree.specs.Plain.{RootOf, TypeSystemOf, schema, type_definition, directive_definition}
use Rattle.gq_tree.specs.Same.{same_kinds}
use Rattle.gq_fault.specs.declared.code.Code.TheVariants.{UnknownType, WrongKindOfType, NoRootType, SubscriptionOperation}
use Rattle.gq_fault.specs.declared.fault.Fault.{Fault}
use Rattle.gq_names.specs.Repeats.{StandsAt}
use Rattle.gq_types.specs.declared.entry.TypeKind.{TypeKind}
use Rattle.gq_types.specs.declared.entry.TypeKind.TheVariants as kind
use Rattle.gq_types.specs.Entries.{Text, EntryOf, numbered}
use Rattle.gq_types.specs.BuiltIn.{defines_built_in}
use Rattle.gq_types.specs.Kinds.{same_kind}
use Rattle.gq_types.specs.Joined.{In, put_in, is_schema, kind_named, schema_number, owner, joined}
use Rattle.gq_types.specs.Roots.{roots_in, roots_of, is_object, default_name, default_root, entry_for, named_root, root_of}
use Rattle.gq_types.proofs.Gathered.{nothing_in, from_flat, from_map, to_map, from_filter, to_filter, cases_cons, found}
use Rattle.gq_types.proofs.Searches.{place_or_length, first_within}
use Rattle.gq_fault.specs.FaultPlaces.{fault_at, fault_over}
use Rattle.gq_type_system.specs.Uses.{root_use, used_types}
use Rattle.gq_type_system.specs.UnknownType.{IsUnknownType}
use Rattle.gq_type_system.specs.RootTypes.{HasRoot, has_default, has_entry, IsNoObject}
use Rattle.gq_type_system.specs.QueryRoot.{no_query_root_fault, HasNoQueryRoot}
use Rattle.gq_type_system.specs.SchemaFaults.{IsSchemaFault}
use Rattle.gq_type_system.specs.SchemaFaults as schema_fault
use Rattle.gq_document.specs.Definitions.{OperationOf}
use Rattle.gq_document.specs.Executable.{ExecutableOf}
use Rattle.gq_fragments.specs.OperationPlace.{operation_place}
use Rattle.gq_fragments.specs.OperationFaults.{IsOperationFault}
use Rattle.gq_fragments.specs.OperationFaults as operation_fault

-- the first of a list that passes a test
record IsFirst {A : Type 0} (p : A → Bool) (xs : List A) (a : A) : Type 0 where
  place : ℕ
  stands : StandsAt xs place a
  passes : p a ≡ true
  is_first : (i : ℕ) (b : A) → StandsAt xs i b → i < place → p b ≡ true → ⊥

find_first : {A : Type 0} (p : A → Bool) (xs : List A) (a : A) → find p xs ≡ Some a → IsFirst p xs a
find_first p [] a e = cc
find_first {A} p (x ∷ xs) a e = by_test (p x) refl e (find_first p xs a)
  where
    none_before : p x ≡ false → (r : IsFirst p xs a) → (i : ℕ) (b : A) → StandsAt (x ∷ xs) i b → i < suc r.place → p b ≡ true → ⊥
    none_before t r zero b s l q = let h : p b ≡ false = subst (λ z. p z ≡ false) s.1 t in cc
    none_before t r (suc i) b s l q = r.is_first i b (omega (arith, s.0), s.1) (omega (arith, l)) q

    by_test : (b : Bool) → p x ≡ b → cond b (Some x) (find p xs) ≡ Some a → (find p xs ≡ Some a → IsFirst p xs a) → IsFirst p (x ∷ xs) a
    by_test true t e rest = let same = same_Some x a e in record {
      place = 0;
      stands = (omega arith, same);
      passes = subst (λ z. p z ≡ true) same t;
      is_first = λ i b s l q. omega (arith, l);
    }
    by_test false t e rest = let r = rest e in record {
      place = suc r.place;
      stands = (omega (arith, r.stands.0), r.stands.1);
      passes = r.passes;
      is_first = none_before t r;
    }

none_passes : {A : Type 0} (p : A → Bool) (xs : List A) → find p xs ≡ None → (a : A) → Contains xs a → p a ≡ true → ⊥
none_passes p [] e a c q = nothing_in a c
none_passes p (x ∷ xs) e a c q = by_test (p x) refl e (λ f d. none_passes p xs f a d q)
  where
    by_test : (b : Bool) → p x ≡ b → cond b (Some x) (find p xs) ≡ None → (find p xs ≡ None → Contains xs a → ⊥) → ⊥
    by_test true t e rest = none-some x (sym e)
    by_test false t e rest = elim (cases_cons x a xs c) [
      | inl same ↦ let h : p a ≡ false = subst (λ z. p z ≡ false) same t in cc
      | inr d ↦ rest e d
    ]

is_query : (k : OperationKind) → same_kinds Query k ≡ true → k ≡ Query
is_query Query e = refl
is_query Mutation e = cc
is_query Subscription e = cc

-- a root operation type of a schema is used there
root_used : (definition : TypeSystemOf Span) (root : RootOf Span) → Contains (roots_in definition) root → (defines_built_in definition ≡ false) × Contains (used_types definition) (root_use root)
root_used (schema extends description directives roots place) root c = (refl, to_map root_use roots root c)
root_used (type_definition extends description name directives body place) root c = nothing_in root c
root_used (directive_definition description name arguments repeatable locations place) root c = nothing_in root c

module _ (es : List EntryOf) (has_root : (fault : Fault) → HasNoQueryRoot es fault → ⊥) (objects : (fault : Fault) → IsNoObject es fault → ⊥) (known : (fault : Fault) → IsUnknownType es fault → ⊥) where
  abbrev roots : List (In (RootOf Span))
  roots = roots_of es (schema_number es)

  abbrev is_for_queries : In (RootOf Span) → Bool
  is_for_queries r = same_kinds Query r.it.kind

  abbrev HasQueryRoot : Type 0
  HasQueryRoot = (t : Text) × (root_of es Query ≡ Some t)

  -- the type of a root that stands is defined
  root_known : (r : In (RootOf Span)) → Contains roots r → kind_named es r.it.name.text ≡ None → ⊥
  root_known r c none =
      let n = from_flat (λ n. put_in n.entry.file (roots_in n.entry.definition)) (joined es (schema_number es)) r c in
      let own = from_map (λ root. record { file = n.0.entry.file; it = root }) (roots_in n.0.entry.definition) r n.2 in
      let used = root_used n.0.entry.definition own.0 own.1 in
      let stands = (from_filter (λ m. nat_eq (owner es m) (schema_number es)) (numbered es) n.0 n.1).0 in
      known (fault_at n.0.entry.file UnknownType own.0.name) (record {
        entry = n.0;
        is_judged = to_filter (λ m. not (defines_built_in m.entry.definition)) (numbered es) n.0 stands (ap not used.0);
        one = root_use own.0;
        is_used = used.1;
        is_unknown = ap (λ z. kind_named es z.it.name.text) own.2 ∙ none;
        is = refl;
      })

  in_range : schema_number es ≤ length es
  in_range = omega (arith, place_or_length (λ e. is_schema e.definition) es, first_within (λ e. is_schema e.definition) es)

  -- the first root for queries is of an object type
  first_object : default_root es Query ≡ None → (r : In (RootOf Span)) → IsFirst is_for_queries roots r → (k : TypeKind) → kind_named es r.it.name.text ≡ Some k → (k ≡ kind.Object → ⊥) → ⊥
  first_object none r at k e other = objects (fault_at r.file WrongKindOfType r.it.name) (record {
    number = schema_number es;
    is_number = in_range;
    place = at.place;
    root = r;
    counts = record { stands = at.stands; is_first = is_first };
    of_kind = k;
    is_known = e;
    is_no_object = other;
    is = refl;
  })
    where
      for_query : r.it.kind ≡ Query
      for_query = is_query r.it.kind at.passes

      is_first : HasRoot es roots at.place r.it.kind → ⊥
      is_first (has_default {text = text} d) = none-some text (sym none ∙ ap (default_root es) (sym for_query) ∙ d)
      is_first (has_entry {earlier = i} {other = other} s l e) = at.is_first i other s l (ap (same_kinds Query) (e ∙ for_query))

  root_is : (t : Text) → named_root es Query ≡ Some t → is_object es t ≡ true → root_of es Query ≡ Some t
  root_is t e q = ap (λ n. option_and_then (λ text. if is_object es text then Some text else None) n) e ∙ ap (λ b. if b then Some t else None) q

  default_is_object : (t : Text) → default_root es Query ≡ Some t → is_object es t ≡ true
  default_is_object t e = by_tests (is_some (position (λ e. is_schema e.definition) es)) (is_object es (default_name Query)) refl e
    where
      by_tests : (b c : Bool) → is_object es (default_name Query) ≡ c → (if b then None else if c then Some (default_name Query) else None) ≡ Some t → is_object es t ≡ true
      by_tests true c q e = absurd (none-some t e)
      by_tests false true q e = subst (λ z. is_object es z ≡ true) (same_Some (default_name Query) t e) q
      by_tests false false q e = absurd (none-some t e)

  by_entry : default_root es Query ≡ None → (o : Option (In (RootOf Span))) → find is_for_queries roots ≡ o → HasQueryRoot
  by_entry none None e = absurd (has_root no_query_root_fault (record {
    no_default = none;
    no_entry = λ root c is. none_passes is_for_queries roots e root c (ap (same_kinds Query) is);
    is = refl;
  }))
  by_entry none (Some r) e = by_object (is_object es r.it.name.text) refl
    where
      at : IsFirst is_for_queries roots r
      at = find_first is_for_queries roots r e

      by_kind : is_object es r.it.name.text ≡ false → (o : Option TypeKind) → kind_named es r.it.name.text ≡ o → ⊥
      by_kind q None u = root_known r (found is_for_queries roots r e).0 u
      by_kind q (Some k) u = first_object none r at k u (λ is. let yes : is_object es r.it.name.text ≡ true = ap (λ z. option_map_or (same_kind kind.Object) z false) u ∙ ap (same_kind kind.Object) is in cc)

      by_object : (b : Bool) → is_object es r.it.name.text ≡ b → HasQueryRoot
      by_object true q = (r.it.name.text, root_is r.it.name.text (ap (λ z. if is_some z then z else entry_for es Query) none ∙ ap (option_map (λ z. z.it.name.text)) e) q)
      by_object false q = absurd (by_kind q (kind_named es r.it.name.text) refl)

  query_root : HasQueryRoot
  query_root = by_default (default_root es Query) refl
    where
      by_default : (o : Option Text) → default_root es Query ≡ o → HasQueryRoot
      by_default (Some t) e = (t, root_is t (ap (λ z. if is_some z then z else entry_for es Query) e) (default_is_object t e))
      by_default None e = by_entry e (find is_for_queries roots) refl

-- Each operation has a root type.
pub operation_root : (x : ExecutableOf) → ((fault : Fault) → IsSchemaFault x.entries fault → ⊥) → ((fault : Fault) → IsOperationFault x fault → ⊥) → (o : OperationOf) → Contains x.operations o → (t : Text) × (root_of x.entries o.kind ≡ Some t)
operation_root x no_schema no_fault o c = by_kind o.kind refl
  where
    by_root : o.kind ≡ Mutation → (r : Option Text) → root_of x.entries Mutation ≡ r → (t : Text) × (root_of x.entries Mutation ≡ Some t)
    by_root k (Some t) e = (t, e)
    by_root k None e = absurd (no_fault (fault_over o.file NoRootType (operation_place o)) (operation_fault.no_root_type (record {
      operation = o;
      stands = c;
      is_mutation = k;
      has_no_root = e;
      is = refl;
    })))

    by_kind : (k : OperationKind) → o.kind ≡ k → (t : Text) × (root_of x.entries k ≡ Some t)
    by_kind Query e = query_root x.entries (λ fault f. no_schema fault (schema_fault.no_query_root f)) (λ fault f. no_schema fault (schema_fault.no_object f)) (λ fault f. no_schema fault (schema_fault.unknown_type f))
    by_kind Mutation e = by_root e (root_of x.entries Mutation) refl
    by_kind Subscription e = absurd (no_fault (fault_over o.file SubscriptionOperation (operation_place o)) (operation_fault.subscription (record { operation = o; stands = c; is_subscription = e; is = refl })))
