-- The root types of operations, where nothing is wrong with a type system (section 3.3.1).
use Rattle.std.proofs.Common.{◌≡◌, inl, inr, ℕ, zero, suc, ◌<◌, ◌≤◌, Bool, true, false, List, [], ◌∷◌, Option, Some, None, refl, sym, ap, ◌∙◌, subst, arith, length, is_some, Contains}
use Rattle.std.specs.Prelude.{nat_eq, find, position, option_and_then, if◌then◌else◌}
use Rattle.std.specs.Option.{option_map}
use Rattle.std.proofs.lemmas.Option.{same_Some}
use Rattle.gq_text.specs.declared.place.Span.{Span}
use Rattle.gq_fault.specs.declared.code.Code.TheVariants.{UnknownType, WrongKindOfType}
use Rattle.gq_fault.specs.declared.fault.Fault.{Fault}
use Rattle.gq_names.specs.Repeats.{StandsAt}
use Rattle.gq_tree.specs.declared.tree.OperationKind.{OperationKind}
use Rattle.gq_tree.specs.declared.tree.OperationKind.TheVariants.{Query}
use Rattle.gq_tree.specs.Plain.{RootOf, TypeSystemOf, schema, type_definition, directive_definition}
use Rattle.gq_tree.specs.Same.{same_kinds}
use Rattle.gq_types.specs.declared.entry.TypeKind.{TypeKind}
use Rattle.gq_types.specs.declared.entry.TypeKind.TheVariants as kind
use Rattle.gq_types.specs.BuiltIn.{defines_built_in}
use Rattle.gq_types.specs.Entries.{Text, EntryOf, Numbered, numbered}
use Rattle.gq_types.specs.Kinds.{same_kind}
use Rattle.gq_types.specs.Joined.{In, put_in, is_schema, kind_named, schema_number, owner, joined}
use Rattle.gq_types.specs.Roots.{roots_in, roots_of, is_object, default_name, default_root, entry_for, named_root, root_of}
use Rattle.gq_types.proofs.Gathered.{nothing_in, cases_cons, from_flat, from_map, to_map, from_filter}
use Rattle.gq_types.proofs.KindLemmas.{kinds_decide, has_kind_decides}
use Rattle.gq_types.proofs.Searches.{place_or_length, first_within}
use Rattle.gq_fault.specs.FaultPlaces.{fault_at}
use Rattle.gq_type_system.specs.Uses.{root_use, used_types}
use Rattle.gq_type_system.specs.UnknownType.{IsUnknownType}
use Rattle.gq_type_system.specs.RootTypes.{HasRoot, has_default, has_entry, IsFirstRoot, IsNoObject}
use Rattle.gq_type_system.specs.QueryRoot.{no_query_root_fault, HasNoQueryRoot}
use Rattle.gq_type_system.proofs.OperationLemmas.{same_operation, operation_same}
use Rattle.gq_laws.proofs.Rewriting.FieldLemmas.{chained, put_from}
use Rattle.gq_laws.proofs.Rewriting.TypeLemmas.{is_judged}

-- the first item that passes a test, and its place
record StandsFirst {A : Type 0} (test : A → Bool) (xs : List A) (x : A) : Type 0 where
  place : ℕ
  stands : StandsAt xs place x
  passes : test x ≡ true
  none_before : (i : ℕ) (y : A) → StandsAt xs i y → i < place → test y ≡ true → ⊥

first_found : {A : Type 0} (test : A → Bool) (xs : List A) (x : A) → find test xs ≡ Some x → StandsFirst test xs x
first_found test [] x h = absurd (cc)
first_found {A} test (y ∷ ys) x h = by_test (test y) refl h (first_found test ys x)
  where
    before : test y ≡ false → (rest : StandsFirst test ys x) → (i : ℕ) (z : A) → StandsAt (y ∷ ys) i z → i < suc rest.place → test z ≡ true → ⊥
    before fails rest zero z s lt passes = let same = ap test s.1 in cc
    before fails rest (suc i) z s lt passes = rest.none_before i z (omega (arith, s.0), s.1) (omega (arith, lt)) passes

    by_test : (b : Bool) → test y ≡ b → (if b then Some y else find test ys) ≡ Some x → (find test ys ≡ Some x → StandsFirst test ys x) → StandsFirst test (y ∷ ys) x
    by_test true e h later =
        let same = same_Some y x h in
        record { place = 0; stands = (omega arith, same); passes = subst (λ z. test z ≡ true) same e; none_before = λ i z s lt passes. absurd (omega (arith, lt)) }
    by_test false e h later =
        let rest = later h in
        record { place = suc rest.place; stands = (omega (arith, rest.stands.0), rest.stands.1); passes = rest.passes; none_before = before e rest }

none_passes : {A : Type 0} (test : A → Bool) (xs : List A) → find test xs ≡ None → (x : A) → Contains xs x → test x ≡ true → ⊥
none_passes test [] h x c passes = nothing_in x c
none_passes {A} test (y ∷ ys) h x c passes = by_test (test y) refl h (λ rest d. none_passes test ys rest x d passes)
  where
    by_test : (b : Bool) → test y ≡ b → (if b then Some y else find test ys) ≡ None → (find test ys ≡ None → Contains ys x → ⊥) → ⊥
    by_test true e h later = cc
    by_test false e h later = elim (cases_cons y x ys c) [
      | inl same ↦ let other = ap test same in cc
      | inr d ↦ later h d
    ]

found_stands : {A : Type 0} (xs : List A) (i : ℕ) (x : A) → StandsAt xs i x → Contains xs x
found_stands xs i x s = (i, s.0, s.1)

-- the name of an object type where one stands
object_root : (es : List EntryOf) (text : Text) → is_object es text ≡ true → ◌≡◌ {A = Option Text} (if is_object es text then Some text else None) (Some text)
object_root es text h = ap (λ (b : Bool). if b then Some text else None) h

pub root_is_object : (es : List EntryOf) (operation : OperationKind) (text : Text) → root_of es operation ≡ Some text → kind_named es text ≡ Some kind.Object
root_is_object es operation text h =
    let named = chained (λ (t : Text). if is_object es t then Some t else None) (named_root es operation) text h in
    (has_kind_decides es kind.Object text).0 (by_test named.0 (is_object es named.0) refl named.2)
  where
    by_test : (t : Text) (b : Bool) → is_object es t ≡ b → ◌≡◌ {A = Option Text} (if b then Some t else None) (Some text) → is_object es text ≡ true
    by_test t true e h = subst (λ s. is_object es s ≡ true) (same_Some t text h) e
    by_test t false e h = absurd (cc)

module _ (es : List EntryOf) (no_unknown : (fault : Fault) → IsUnknownType es fault → ⊥) (no_other : (fault : Fault) → IsNoObject es fault → ⊥) where
  -- the type of a root operation is used where it is named
  root_used : (d : TypeSystemOf Span) (r : RootOf Span) → Contains (roots_in d) r → (defines_built_in d ≡ false) × Contains (used_types d) (root_use r)
  root_used (schema extends description directives roots place) r c = (refl, to_map root_use roots r c)
  root_used (type_definition extends description name directives body place) r c = nothing_in r c
  root_used (directive_definition description name arguments repeatable locations place) r c = nothing_in r c

  root_known : (number : ℕ) (r : In (RootOf Span)) → Contains (roots_of es number) r → (k : TypeKind) × (kind_named es r.it.name.text ≡ Some k)
  root_known number r c = by_kind (kind_named es r.it.name.text) refl
    where
      by_kind : (o : Option TypeKind) → kind_named es r.it.name.text ≡ o → (k : TypeKind) × (kind_named es r.it.name.text ≡ Some k)
      by_kind None e =
          let at = from_flat (λ (n : Numbered). put_in n.entry.file (roots_in n.entry.definition)) (joined es number) r c in
          let kept = from_filter (λ (n : Numbered). nat_eq (owner es n) number) (numbered es) at.0 at.1 in
          let one = from_map (λ (x : RootOf Span). let q : In (RootOf Span) = record { file = at.0.entry.file; it = x } in q) (roots_in at.0.entry.definition) r at.2 in
          let used = root_used at.0.entry.definition r.it (put_from at.0.entry.file (roots_in at.0.entry.definition) one.0 r.it r one.1 one.2 refl) in
          absurd (no_unknown (fault_at at.0.entry.file UnknownType r.it.name) (record {
            entry = at.0;
            is_judged = is_judged es at.0 kept.0 used.0;
            one = root_use r.it;
            is_used = used.1;
            is_unknown = e;
            is = refl;
          }))
      by_kind (Some k) e = (k, e)

  schema_within : schema_number es ≤ length es
  schema_within =
      let same = place_or_length (λ (e : EntryOf). is_schema e.definition) es in
      let within = first_within (λ (e : EntryOf). is_schema e.definition) es in
      subst (λ n. n ≤ length es) (sym same) within

  -- without a default root, the first entry of a kind names an object type
  entry_is_object : (operation : OperationKind) → default_root es operation ≡ None → (r : In (RootOf Span)) → StandsFirst (λ (x : In (RootOf Span)). same_kinds operation x.it.kind) (roots_of es (schema_number es)) r → is_object es r.it.name.text ≡ true
  entry_is_object operation no_default r s = by_kind (root_known (schema_number es) r (found_stands (roots_of es (schema_number es)) s.place r s.stands))
    where
      of_it : r.it.kind ≡ operation
      of_it = sym (same_operation operation r.it.kind s.passes)

      is_first : HasRoot es (roots_of es (schema_number es)) s.place r.it.kind → ⊥
      is_first (has_default {text = text} e) = let none = subst (λ o. default_root es o ≡ None) (sym of_it) no_default in cc
      is_first (has_entry {earlier = earlier} {other = other} stands lt same) = s.none_before earlier other stands lt (operation_same operation other.it.kind (sym (same ∙ of_it)))

      counts : IsFirstRoot es (roots_of es (schema_number es)) s.place r
      counts = record { stands = s.stands; is_first = is_first }

      by_test : (k : TypeKind) → kind_named es r.it.name.text ≡ Some k → (b : Bool) → same_kind k kind.Object ≡ b → is_object es r.it.name.text ≡ true
      by_test k known true e = (has_kind_decides es kind.Object r.it.name.text).1 (known ∙ ap Some ((kinds_decide k kind.Object).0 e))
      by_test k known false e = absurd (no_other (fault_at r.file WrongKindOfType r.it.name) (record {
        number = schema_number es;
        is_number = schema_within;
        place = s.place;
        root = r;
        counts = counts;
        of_kind = k;
        is_known = known;
        is_no_object = λ same. let yes = (kinds_decide k kind.Object).1 same in cc;
        is = refl;
      }))

      by_kind : (k : TypeKind) × (kind_named es r.it.name.text ≡ Some k) → is_object es r.it.name.text ≡ true
      by_kind (k, known) = by_test k known (same_kind k kind.Object) refl

  -- there is a root for queries
  module _ (no_missing : (fault : Fault) → HasNoQueryRoot es fault → ⊥) where
    from_named : (text : Text) → named_root es Query ≡ Some text → is_object es text ≡ true → (t : Text) × (root_of es Query ≡ Some t)
    from_named text e is = (text, ap (λ (o : Option Text). option_and_then (λ (t : Text). if is_object es t then Some t else None) o) e ∙ object_root es text is)

    default_is_object : (text : Text) → default_root es Query ≡ Some text → is_object es text ≡ true
    default_is_object text e = by_schema (is_some (position (λ (x : EntryOf). is_schema x.definition) es)) e
      where
        by_object : (b : Bool) → is_object es (default_name Query) ≡ b → ◌≡◌ {A = Option Text} (if b then Some (default_name Query) else None) (Some text) → is_object es text ≡ true
        by_object true is h = subst (λ t. is_object es t ≡ true) (same_Some (default_name Query) text h) is
        by_object false is h = absurd (cc)

        by_schema : (b : Bool) → ◌≡◌ {A = Option Text} (if b then None else if is_object es (default_name Query) then Some (default_name Query) else None) (Some text) → is_object es text ≡ true
        by_schema true h = absurd (cc)
        by_schema false h = by_object (is_object es (default_name Query)) refl h

    abbrev roots : List (In (RootOf Span))
    roots = roots_of es (schema_number es)

    by_entry : default_root es Query ≡ None → (o : Option (In (RootOf Span))) → find (λ (x : In (RootOf Span)). same_kinds Query x.it.kind) roots ≡ o → (t : Text) × (root_of es Query ≡ Some t)
    by_entry none None e = absurd (no_missing no_query_root_fault (record {
      no_default = none;
      no_entry = λ root stands is_query. none_passes (λ (x : In (RootOf Span)). same_kinds Query x.it.kind) roots e root stands (operation_same Query root.it.kind (sym is_query));
      is = refl;
    }))
    by_entry none (Some r) e =
        let is = entry_is_object Query none r (first_found (λ (x : In (RootOf Span)). same_kinds Query x.it.kind) roots r e) in
        let named : named_root es Query ≡ Some r.it.name.text =
        ap (λ (o : Option Text). if is_some o then o else entry_for es Query) none ∙ ap (λ (o : Option (In (RootOf Span))). option_map (λ (x : In (RootOf Span)). x.it.name.text) o) e in
        from_named r.it.name.text named is

    pub query_root : (t : Text) × (root_of es Query ≡ Some t)
    query_root = by_default (default_root es Query) refl
      where
        by_default : (o : Option Text) → default_root es Query ≡ o → (t : Text) × (root_of es Query ≡ Some t)
        by_default None e = by_entry e (find (λ (x : In (RootOf Span)). same_kinds Query x.it.kind) roots) refl
        by_default (Some text) e = from_named text (ap (λ (o : Option Text). if is_some o then o else entry_for es Query) e) (default_is_object text e)
