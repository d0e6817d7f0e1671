-- What is kept of a type system stays where one type has other fields, but for what is kept of these.
use Rattle.std.proofs.Common.{◌≡◌, ◌⊎◌, ⊎_elim, inl, inr, ℕ, zero, suc, ◌<◌, true, false, List, [], ◌∷◌, Option, Some, None, Box, Vec, map, length, refl, sym, ap, ◌∙◌, subst, Contains, slice_get, set, arith}
use Rattle.std.specs.Option.{option_map, option_map_or}
use Rattle.std.specs.Prelude.{nat_eq}
use Rattle.std.specs.declared.alloc.Global.{Global}
use Rattle.std.proofs.lemmas.List.{length-set}
use Rattle.std.proofs.Props.{props}
use Rattle.std.proofs.Math.Logic.{∥∥₁_elim}
use mathlib.Core.Logic.{∥∥₁_map, ∥∥₁_map₂}
use Rattle.gq_text.specs.declared.place.Span.{Span}
use Rattle.gq_tree.specs.declared.types.TypeRef.{TypeRef}
use Rattle.gq_tree.specs.Plain.{TypeSystemOf, schema, type_definition, directive_definition, place_type_system}
use Rattle.gq_names.specs.UnderNames.{UnderNames}
use Rattle.gq_types.specs.declared.argument_names.ArgumentNames.{ArgumentNames}
use Rattle.gq_types.specs.declared.parts.Parts.{Parts}
use Rattle.gq_types.specs.declared.parts.Place.{Place}
use Rattle.gq_types.specs.declared.table.Table.{Table}
use Rattle.gq_types.specs.declared.uses.Uses.{Uses}
use Rattle.gq_types.specs.Entries.{EntryOf, Numbered, numbered}
use Rattle.gq_types.specs.ErasedEntries.{erase_entry}
use Rattle.gq_types.specs.Outlines.{DiffersAt, defines_type, outline}
use Rattle.gq_types.specs.Joined.{owner, owner_of, joined}
use Rattle.gq_types.specs.Look.{joined_numbers}
use Rattle.gq_types.specs.Helping.FieldTables.{AreFieldTables, IsKeptFor}
use Rattle.gq_types.specs.Helping.Index.{AreArgumentNames, AreFieldsAt, AreNamesOfEach, IsIndex, argument_lists}
use Rattle.gq_types.specs.Helping.Tables.{lists_of}
use Rattle.gq_types.proofs.Gathered.{from_filter, from_map}
use Rattle.gq_types.proofs.PartLemmas.{numbered_at}
use Rattle.gq_types.proofs.Placing.Alike.{back}
use Rattle.gq_types.proofs.Placing.Lists.{lengths}
use Rattle.gq_types.proofs.Placing.Outlines.{blind, numbers_stay, outline_of}
use Rattle.gq_types.proofs.Placing.Names.{names_of_each_stay}
use Rattle.gq_types.proofs.Placing.Parts.{got_alike, kept_stays}
use Rattle.gq_types.proofs.Placing.Index.{arguments_prop, field_tables_prop, with_fields}

-- what stands in lists
within : {A : Type 0} (xs : List A) (i : ℕ) (x : A) → slice_get xs i ≡ Some x → i < length xs
within [] i x e = absurd (cc)
within (a ∷ xs) zero x e = omega arith
within (a ∷ xs) (suc i) x e =
    let rest = within xs i x e in
    omega (arith, rest)

set_cases : {A : Type 0} (xs : List A) (n : ℕ) (y : A) (k : ℕ) (t : A) → slice_get (set xs n y) k ≡ Some t → ((k ≡ n) × (y ≡ t)) ⊎ ((k ≡ n → ⊥) × (slice_get xs k ≡ Some t))
set_cases [] n y k t e = absurd (cc)
set_cases (x ∷ xs) zero y zero t e =
    let is : y ≡ t = cc in
    inl (refl, is)
set_cases (x ∷ xs) zero y (suc k) t e = inr (λ z. absurd (omega (arith, z)), e)
set_cases (x ∷ xs) (suc n) y zero t e = inr (λ z. absurd (omega (arith, z)), e)
set_cases (x ∷ xs) (suc n) y (suc k) t e = ⊎_elim
    (λ p. inl (ap suc p.0, p.1))
    (λ p. inr (λ z. p.0 (omega (arith, z)), p.1))
    (set_cases xs n y k t e)

pub lists_set : {A Z : Type 0} (vs : List (Vec A Z)) (n : ℕ) (v : Vec A Z) → lists_of (set vs n v) ≡ set (lists_of vs) n v.items
lists_set [] n v = refl
lists_set (w ∷ vs) zero v = refl
lists_set (w ∷ vs) (suc n) v = ap (λ z. w.items ∷ z) (lists_set vs n v)

list_there : {A Z : Type 0} (vs : List (Vec A Z)) (k : ℕ) (v : Vec A Z) → slice_get vs k ≡ Some v → slice_get (lists_of vs) k ≡ Some v.items
list_there [] k v e = absurd (cc)
list_there {A = A} {Z = Z} (w ∷ vs) zero v e =
    let is : w ≡ v = cc in
    ap (λ (z : Vec A Z). Some z.items) is
list_there (w ∷ vs) (suc k) v e = list_there vs k v e

there_too : {A K : Type 0} (h : A → K) (o : Option A) (u : A) → option_map h o ≡ option_map h (Some u) → (x : A) × (o ≡ Some x) × (h x ≡ h u)
there_too h None u e = absurd (cc)
there_too h (Some x) u e =
    let is : h x ≡ h u = cc in
    (x, refl, is)

-- the definition of a type belongs to itself
owns_itself : (es : List EntryOf) (number : ℕ) (d : TypeSystemOf Span) → defines_type d ≡ true → owner_of es number d ≡ number
owns_itself es number (schema extends description directives roots place) is = absurd (cc)
owns_itself es number (type_definition true description name directives body place) is = absurd (cc)
owns_itself es number (type_definition false description name directives body place) is = refl
owns_itself es number (directive_definition description name arguments repeatable locations place) is = absurd (cc)

type_seen : (d : TypeSystemOf Span) → defines_type d ≡ defines_type (place_type_system back (outline_of d))
type_seen (schema extends description directives roots place) = refl
type_seen (type_definition true description name directives body place) = refl
type_seen (type_definition false description name directives body place) = refl
type_seen (directive_definition description name arguments repeatable locations place) = refl

abbrev DefinesAt : List EntryOf → ℕ → Type 0
DefinesAt es number = option_map_or (λ e. defines_type e.definition) (slice_get es number) false ≡ true

type_there : (o : Option EntryOf) → option_map_or (λ e. defines_type e.definition) o false ≡ true → (e : EntryOf) × (o ≡ Some e) × (defines_type e.definition ≡ true)
type_there None is = absurd (cc)
type_there (Some e) is = (e, refl, is)

equal_numbers : (a b : ℕ) → nat_eq a b ≡ true → a ≡ b
equal_numbers a b e = grind (arith)

-- so it is among what belongs to no other number
not_among : (es : List EntryOf) (number : ℕ) → DefinesAt es number → (k : ℕ) → (k ≡ number → ⊥) → (m : ℕ) → Contains (joined_numbers es k) m → m ≡ number → ⊥
not_among es number defines k other m among is =
    let from = from_map (λ n. n.number) (joined es k) m among in
    let n : Numbered = from.0 in
    let kept = from_filter (λ n. nat_eq (owner es n) k) (numbered es) n from.1 in
    let at : n.number ≡ number = from.2 ∙ is in
    let there : slice_get es number ≡ Some n.entry = ap (slice_get es) (sym at) ∙ numbered_at es n kept.0 in
    let is_type : defines_type n.entry.definition ≡ true = sym (ap (λ o. option_map_or (λ e. defines_type e.definition) o false) there) ∙ defines in
    let own : owner es n ≡ k = equal_numbers (owner es n) k kept.1 in
    other (sym own ∙ owns_itself es n.number n.entry.definition is_type ∙ at)

-- the other way round
pub differs_back : (number : ℕ) (es us : List EntryOf) → DiffersAt number es us → DiffersAt number us es
differs_back number es us is =
    let d = type_there (slice_get es number) is.defines in
    let o = there_too outline (slice_get us number) d.0 (sym (got_alike outline es us is.outlines number) ∙ ap (option_map outline) d.1) in
    record {
      outlines = sym is.outlines;
      others = λ k other. sym (is.others k other);
      defines = ap (λ z. option_map_or (λ e. defines_type e.definition) z false) o.1 ∙ blind defines_type type_seen o.0 d.0 o.2 ∙ d.2;
    }

module _ (number : ℕ) (es us : List EntryOf) (is : DiffersAt number es us) where
  tables_differ : (tables : List (Option (Box (Table Place) Global))) (table : Option (Box (Table Place) Global)) → AreFieldTables es tables → IsKeptFor us number (joined_numbers us number) table → AreFieldTables us (set tables number table)
  tables_differ tables table are here = record {
    count = length-set tables number table ∙ are.count ∙ lengths outline es us is.outlines;
    each = λ k t at. ⊎_elim
        (λ p. subst (λ z. IsKeptFor us k (joined_numbers us k) z) p.1 (subst (λ n. IsKeptFor us n (joined_numbers us n) table) (sym p.0) here))
        (λ p. subst (λ ns. IsKeptFor us k ns t) (numbers_stay es us is.outlines k)
        (kept_stays es us k (joined_numbers es k) (λ m c. is.others m (not_among es number is.defines k p.0 m c)) t (are.each k t p.1)))
        (set_cases tables number table k t at);
  }

  arguments_differ : (lists : List (List ArgumentNames)) (names : List ArgumentNames) → AreArgumentNames es lists
      → ((e : EntryOf) → slice_get us number ≡ Some e → AreNamesOfEach (argument_lists e.definition) names) → AreArgumentNames us (set lists number names)
  arguments_differ lists names are here k kept at e there = ⊎_elim
      (λ p. subst (λ z. AreNamesOfEach (argument_lists e.definition) z) p.1 (here e (ap (slice_get us) (sym p.0) ∙ there)))
      (λ p.
      let d = there_too erase_entry (slice_get es k) e (is.others k p.0 ∙ ap (option_map erase_entry) there) in
      names_of_each_stay d.0 e d.2 kept (are k kept p.1 d.0 d.1))
      (set_cases lists number names k kept at)

module _ (number : ℕ) (es us : List EntryOf) (is : ∥ DiffersAt number es us ∥₁) where
  pub outlines_differ : ∥ map outline es ≡ map outline us ∥₁
  outlines_differ = ∥∥₁_map is (λ d. d.outlines)

  pub differ_inside : number < length es
  differ_inside = ∥∥₁_elim is (hlevel props) (λ d. let e = type_there (slice_get es number) d.defines in within es number e.0 e.1)

  pub index_exchanged : {Z : Type 0} (joined : List (Vec ℕ Z)) (fields kept : List (Option (Box (Table Place) Global))) (parts : List Parts) (declarers : UnderNames ℕ) (uses used : Uses) (of_typename : TypeRef)
      (table : Option (Box (Table Place) Global)) (names : Vec ArgumentNames Global)
      → ∥ AreFieldsAt us number table names.items ∥₁ → kept ≡ set fields number table → used.required ≡ uses.required → used.locations ≡ uses.locations → used.roots ≡ uses.roots
      → used.arguments.items ≡ set uses.arguments.items number names → IsIndex es joined fields parts declarers uses of_typename → IsIndex us joined kept parts declarers used of_typename
  index_exchanged joined fields kept parts declarers uses used of_typename table names at kept_is required locations roots arguments are =
      with_fields es us outlines_differ joined fields kept parts declarers uses used of_typename
      (subst (AreFieldTables us) (sym kept_is)
      (∥∥₁_elim (∥∥₁_map₂ is at (λ d a. tables_differ number es us d fields table are.fields_are a.table_is)) (field_tables_prop us (set fields number table)) (λ r. r)))
      required locations roots (ap length arguments ∙ length-set uses.arguments.items number names)
      (subst (λ vs. AreArgumentNames us vs) (sym (ap lists_of arguments ∙ lists_set uses.arguments.items number names))
      (∥∥₁_elim (∥∥₁_map₂ is at (λ d a. arguments_differ number es us d (lists_of uses.arguments.items) names.items are.uses_are.arguments_are a.arguments_are))
      (arguments_prop us (set (lists_of uses.arguments.items) number names.items)) (λ r. r))) are

-- what was kept of these fields
pub fields_were : {Z : Type 0} (es : List EntryOf) (number : ℕ) (joined : List (Vec ℕ Z)) (fields : List (Option (Box (Table Place) Global))) (parts : List Parts) (declarers : UnderNames ℕ) (uses : Uses) (of_typename : TypeRef)
    (table : Option (Box (Table Place) Global)) (names : Vec ArgumentNames Global) → slice_get fields number ≡ Some table → slice_get uses.arguments.items number ≡ Some names
    → IsIndex es joined fields parts declarers uses of_typename → AreFieldsAt es number table names.items
fields_were es number joined fields parts declarers uses of_typename table names field_there names_there are = record {
  table_is = are.fields_are.each number table field_there;
  arguments_are = are.uses_are.arguments_are number names.items (list_there uses.arguments.items number names names_there);
}
