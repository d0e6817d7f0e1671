-- What is told of types without parts and of parts that stand twice is what the relations say.
use Rattle.std.proofs.Common.{◌≡◌, suc, ◌+◌, true, false, List, [], ◌∷◌, ◌++◌, Option, Some, None, ◌⊎◌, inl, inr, ◌↔◌, Contains, sym, ap, refl, subst, arith, length, eqb-true}
use Rattle.std.proofs.lemmas.List.Elements.{Contains-append_left, Contains-append_right, Contains-append_cases}
use Rattle.gq_text.specs.declared.place.Span.{Span}
use Rattle.gq_fault.specs.declared.code.Code.TheVariants.{EmptyOrRepeated}
use Rattle.gq_fault.specs.declared.fault.Fault.{Fault}
use Rattle.gq_names.specs.Repeats.{repeated}
use Rattle.gq_names.proofs.RepeatLemmas.{contains_none, repeated_is}
use Rattle.gq_tree.specs.Plain.{NameOf, DirectiveOf, BodyOf, TypeSystemOf, schema, type_definition, directive_definition}
use Rattle.gq_type_system.specs.declared.parts.Part.{Part}
use Rattle.gq_type_system.specs.declared.parts.Part.TheVariants.{Fields, Interfaces, Members, Values, InputFields}
use Rattle.gq_types.specs.Entries.{EntryOf, Numbered}
use Rattle.gq_types.specs.Joined.{judged}
use Rattle.gq_fault.specs.FaultPlaces.{fault_at}
use Rattle.gq_type_system.specs.Parts.{part_names, required_part}
use Rattle.gq_type_system.specs.EmptyOrRepeated.{IsEmptyType, IsRepeatedPart, IsRepeatedArgument, argument_lists}
use Rattle.gq_type_system.specs.Helping.EmptyOrRepeatedPlaces.{is_nothing, empty_part, empty_type, empty_type_at, empty_types, repeated_fault, repeated_part, repeated_parts_of, repeated_parts, all_parts, repeated_argument, repeated_arguments_in, repeated_arguments_at, repeated_arguments, empty_or_repeated}
use Rattle.gq_type_system.proofs.WalkLemmas.{from_numbers, to_numbers}
use Rattle.gq_types.proofs.Gathered.{from_flat, to_flat, from_map_as as from_map, to_map_as as to_map, from_if as from_test, to_if as to_test}

nothing_then : {A : Type 0} (xs : List A) → is_nothing xs ≡ true → xs ≡ []
nothing_then [] h = refl
nothing_then (x ∷ xs) h = let none : suc (length xs) ≡ 0 = eqb-true (suc (length xs)) 0 h in absurd (omega arith)

-- types without parts
from_part : (es : List EntryOf) (n : Numbered) (fault : Fault) → Contains (judged es) n → (description : Option (NameOf Span)) (name : NameOf Span) (directives : List (DirectiveOf Span)) (body : BodyOf Span) (place : Span) →
    n.entry.definition ≡ type_definition false description name directives body place → (o : Option Part) → required_part body ≡ o → Contains (empty_part es n.number n.entry.file name o) fault → IsEmptyType es fault
from_part es n fault j description name directives body place e None r c = absurd (contains_none fault c)
from_part es n fault j description name directives body place e (Some part) r c =
    let t = from_test (is_nothing (part_names part es n.number)) (fault_at n.entry.file EmptyOrRepeated name) fault c in
    record {
      entry = n;
      is_judged = j;
      description = description;
      name = name;
      directives = directives;
      body = body;
      place = place;
      defines = e;
      part = part;
      is_required = r;
      is_empty = nothing_then (part_names part es n.number) t.0;
      is = t.1;
    }

from_entry : (es : List EntryOf) (n : Numbered) (fault : Fault) → Contains (judged es) n → (d : TypeSystemOf Span) → n.entry.definition ≡ d → Contains (empty_type es n.number n.entry.file d) fault → IsEmptyType es fault
from_entry es n fault j (schema extends description directives roots place) e c = absurd (contains_none fault c)
from_entry es n fault j (type_definition true description name directives body place) e c = absurd (contains_none fault c)
from_entry es n fault j (type_definition false description name directives body place) e c = from_part es n fault j description name directives body place e (required_part body) refl c
from_entry es n fault j (directive_definition description name arguments repeatable locations place) e c = absurd (contains_none fault c)

-- what is told of the entry that breaks the rule
pub told_empty_type : (es : List EntryOf) (fault : Fault) (w : IsEmptyType es fault) → Contains (empty_type_at es w.entry) fault
told_empty_type es fault w =
    let told = to_test (is_nothing (part_names w.part es w.entry.number)) (fault_at w.entry.entry.file EmptyOrRepeated w.name) fault (ap is_nothing w.is_empty) w.is in
    let by_part = subst (λ o. Contains (empty_part es w.entry.number w.entry.entry.file w.name o) fault) (sym w.is_required) told in
    subst (λ d. Contains (empty_type es w.entry.number w.entry.entry.file d) fault) (sym w.defines) by_part

pub empty_types_are : (es : List EntryOf) (fault : Fault) → Contains (empty_types es) fault ↔ IsEmptyType es fault
empty_types_are es fault = (from, to)
  where
    from : Contains (empty_types es) fault → IsEmptyType es fault
    from c = let r = from_flat (empty_type_at es) (judged es) fault c in from_entry es r.0 fault r.1 r.0.entry.definition refl r.2

    to : IsEmptyType es fault → Contains (empty_types es) fault
    to w = to_flat (empty_type_at es) (judged es) w.entry fault w.is_judged (told_empty_type es fault w)

-- parts that stand twice
every_part : (part : Part) → Contains all_parts part
every_part Fields = (0, omega arith, refl)
every_part Interfaces = (1, omega arith, refl)
every_part Members = (2, omega arith, refl)
every_part Values = (3, omega arith, refl)
every_part InputFields = (4, omega arith, refl)

-- what is told of the number at which the rule is broken
pub told_repeated_part : (es : List EntryOf) (fault : Fault) (w : IsRepeatedPart es fault) → Contains (repeated_parts_of es w.number) fault
told_repeated_part es fault w =
    let twice = (repeated_is (λ name. name.it.text) (part_names w.part es w.number) w.one).1 w.is_repeated in
    to_flat (repeated_part es w.number) all_parts w.part fault (every_part w.part) (to_map repeated_fault (repeated (λ name. name.it.text) (part_names w.part es w.number)) w.one fault twice w.is)

pub repeated_parts_are : (es : List EntryOf) (fault : Fault) → Contains (repeated_parts es) fault ↔ IsRepeatedPart es fault
repeated_parts_are es fault = (from, to)
  where
    from : Contains (repeated_parts es) fault → IsRepeatedPart es fault
    from c =
        let r = from_numbers (repeated_parts_of es) 0 es fault c in
        let p = from_flat (repeated_part es (r.0 + 0)) all_parts fault r.2 in
        let m = from_map repeated_fault (repeated (λ name. name.it.text) (part_names p.0 es (r.0 + 0))) fault p.2 in
        record {
          number = r.0 + 0;
          is_number = omega (arith, r.1);
          part = p.0;
          one = m.0;
          is_repeated = (repeated_is (λ name. name.it.text) (part_names p.0 es (r.0 + 0)) m.0).0 m.1;
          is = m.2;
        }

    to : IsRepeatedPart es fault → Contains (repeated_parts es) fault
    to w =
        let same : w.number ≡ w.number + 0 = omega arith in
        to_numbers (repeated_parts_of es) 0 es fault w.number w.is_number (subst (λ n. Contains (repeated_parts_of es n) fault) same (told_repeated_part es fault w))

-- Arguments that stand twice: what is told of the entry that breaks the rule.
pub told_repeated_argument : (es : List EntryOf) (fault : Fault) (w : IsRepeatedArgument es fault) → Contains (repeated_arguments_at w.entry) fault
told_repeated_argument es fault w =
    let twice = (repeated_is (λ a. a.name.text) w.arguments w.one).1 w.is_repeated in
    let told = to_map (repeated_argument w.entry.entry.file) (repeated (λ a. a.name.text) w.arguments) w.one fault twice w.is in
    to_flat (repeated_arguments_in w.entry.entry.file) (argument_lists w.entry.entry.definition) w.arguments fault w.has told

pub repeated_arguments_are : (es : List EntryOf) (fault : Fault) → Contains (repeated_arguments es) fault ↔ IsRepeatedArgument es fault
repeated_arguments_are es fault = (from, to)
  where
    from : Contains (repeated_arguments es) fault → IsRepeatedArgument es fault
    from c =
        let r = from_flat repeated_arguments_at (judged es) fault c in
        let p = from_flat (repeated_arguments_in r.0.entry.file) (argument_lists r.0.entry.definition) fault r.2 in
        let m = from_map (repeated_argument r.0.entry.file) (repeated (λ a. a.name.text) p.0) fault p.2 in
        record {
          entry = r.0;
          is_judged = r.1;
          arguments = p.0;
          has = p.1;
          one = m.0;
          is_repeated = (repeated_is (λ a. a.name.text) p.0 m.0).0 m.1;
          is = m.2;
        }

    to : IsRepeatedArgument es fault → Contains (repeated_arguments es) fault
    to w = to_flat repeated_arguments_at (judged es) w.entry fault w.is_judged (told_repeated_argument es fault w)

pub empty_or_repeated_are : (es : List EntryOf) (fault : Fault) → Contains (empty_or_repeated es) fault ↔ IsEmptyType es fault ⊎ (IsRepeatedPart es fault ⊎ IsRepeatedArgument es fault)
empty_or_repeated_are es fault = (from, to)
  where
    from : Contains (empty_or_repeated es) fault → IsEmptyType es fault ⊎ (IsRepeatedPart es fault ⊎ IsRepeatedArgument es fault)
    from c = elim (Contains-append_cases (empty_types es) (repeated_parts es ++ repeated_arguments es) fault c) [
      | inl a ↦ inl ((empty_types_are es fault).0 a)
      | inr b ↦ elim (Contains-append_cases (repeated_parts es) (repeated_arguments es) fault b) [
        | inl p ↦ inr (inl ((repeated_parts_are es fault).0 p))
        | inr q ↦ inr (inr ((repeated_arguments_are es fault).0 q))
      ]
    ]

    to : IsEmptyType es fault ⊎ (IsRepeatedPart es fault ⊎ IsRepeatedArgument es fault) → Contains (empty_or_repeated es) fault
    to (inl a) = Contains-append_left (empty_types es) (repeated_parts es ++ repeated_arguments es) fault ((empty_types_are es fault).1 a)
    to (inr (inl p)) = Contains-append_right (empty_types es) (repeated_parts es ++ repeated_arguments es) fault (Contains-append_left (repeated_parts es) (repeated_arguments es) fault ((repeated_parts_are es fault).1 p))
    to (inr (inr q)) = Contains-append_right (empty_types es) (repeated_parts es ++ repeated_arguments es) fault (Contains-append_right (repeated_parts es) (repeated_arguments es) fault ((repeated_arguments_are es fault).1 q))
