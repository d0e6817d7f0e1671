-- What is told of definitions that stand twice is what the relation says.
use Rattle.std.proofs.Common.{◌≡◌, ℕ, ◌≤◌, Bool, true, false, List, Option, Some, None, ◌↔◌, Contains, sym, ap, refl, subst, position, unwrap_or, length, nat_lt, arith, not}
use Rattle.std.proofs.lemmas.Bool.{ltb-true}
use Rattle.std.proofs.lemmas.Slice.Eq.{bytes_eq-Decides}
use Rattle.gq_text.specs.declared.place.Span.{Span}
use Rattle.gq_fault.specs.declared.code.Code.TheVariants.{DefinedTwice}
use Rattle.gq_fault.specs.declared.fault.Fault.{Fault}
use Rattle.gq_tree.specs.Plain.{TypeSystemOf, schema, type_definition, directive_definition}
use Rattle.gq_types.specs.Entries.{EntryOf, Numbered, numbered}
use Rattle.gq_types.specs.BuiltIn.{defines_built_in}
use Rattle.gq_types.specs.Joined.{is_type_named, is_directive_named, is_schema, judged}
use Rattle.gq_fault.specs.FaultPlaces.{fault_over}
use Rattle.gq_type_system.specs.DefinedTwice.{Defined, a_type, a_directive, the_schema, defined_by, definition_place, IsDefinedTwice}
use Rattle.gq_type_system.specs.Helping.DefinedTwicePlaces.{is_before, is_defined_before, defined_twice_at, all_defined_twice}
use Rattle.gq_type_system.proofs.NumberLemmas.{from_before, to_before, stands_at_number}
use Rattle.gq_types.proofs.Gathered.{from_flat, to_flat, from_filter, from_if as from_test, to_if as to_test}

-- the test of what defines a thing
abbrev defines : Defined → EntryOf → Bool
defines (a_type text) e = is_type_named text e.definition
defines (a_directive text) e = is_directive_named text e.definition
defines the_schema e = is_schema e.definition

from_defines : (what : Defined) (file : ℕ) (d : TypeSystemOf Span) → defines what (record { file = file; definition = d }) ≡ true → defined_by d ≡ Some what
from_defines (a_type text) file (schema extends description directives roots place) h = absurd (cc)
from_defines (a_type text) file (type_definition true description name directives body place) h = absurd (cc)
from_defines (a_type text) file (type_definition false description name directives body place) h = ap (λ t. Some (a_type t)) (sym ((bytes_eq-Decides text name.text).0 h))
from_defines (a_type text) file (directive_definition description name arguments repeatable locations place) h = absurd (cc)
from_defines (a_directive text) file (schema extends description directives roots place) h = absurd (cc)
from_defines (a_directive text) file (type_definition extends description name directives body place) h = absurd (cc)
from_defines (a_directive text) file (directive_definition description name arguments repeatable locations place) h = ap (λ t. Some (a_directive t)) (sym ((bytes_eq-Decides text name.text).0 h))
from_defines the_schema file (schema true description directives roots place) h = absurd (cc)
from_defines the_schema file (schema false description directives roots place) h = refl
from_defines the_schema file (type_definition extends description name directives body place) h = absurd (cc)
from_defines the_schema file (directive_definition description name arguments repeatable locations place) h = absurd (cc)

to_defines : (what : Defined) (file : ℕ) (d : TypeSystemOf Span) → defined_by d ≡ Some what → defines what (record { file = file; definition = d }) ≡ true
to_defines what file (schema true description directives roots place) e = absurd (cc)
to_defines what file (schema false description directives roots place) e =
    let is : the_schema ≡ what = cc in
    subst (λ w. defines w (record { file = file; definition = schema false description directives roots place }) ≡ true) is refl
to_defines what file (type_definition true description name directives body place) e = absurd (cc)
to_defines what file (type_definition false description name directives body place) e =
    let is : a_type name.text ≡ what = cc in
    subst (λ w. defines w (record { file = file; definition = type_definition false description name directives body place }) ≡ true) is ((bytes_eq-Decides name.text name.text).1 refl)
to_defines what file (directive_definition description name arguments repeatable locations place) e =
    let is : a_directive name.text ≡ what = cc in
    subst (λ w. defines w (record { file = file; definition = directive_definition description name arguments repeatable locations place }) ≡ true) is ((bytes_eq-Decides name.text name.text).1 refl)

-- the first schema definition stands before a number that is no greater than the number of entries
schema_before : (o : Option ℕ) (m number : ℕ) → number ≤ m → nat_lt (unwrap_or o m) number ≡ true → is_before o number ≡ true
schema_before None m number le h = let lt = ltb-true m number h in absurd (omega arith)
schema_before (Some k) m number le h = h

before_schema : (o : Option ℕ) (m number : ℕ) → is_before o number ≡ true → nat_lt (unwrap_or o m) number ≡ true
before_schema None m number h = absurd (cc)
before_schema (Some k) m number h = h

-- what a definition defines, where its first definition stands before a number
from_test_of : (es : List EntryOf) (number : ℕ) (d : TypeSystemOf Span) → number ≤ length es → is_defined_before es number d ≡ true → (what : Defined) × (defined_by d ≡ Some what) × (is_before (position (defines what) es) number ≡ true)
from_test_of es number (schema true description directives roots place) le h = absurd (cc)
from_test_of es number (schema false description directives roots place) le h = (the_schema, refl, schema_before (position (λ e. is_schema e.definition) es) (length es) number le h)
from_test_of es number (type_definition true description name directives body place) le h = absurd (cc)
from_test_of es number (type_definition false description name directives body place) le h = (a_type name.text, refl, h)
from_test_of es number (directive_definition description name arguments repeatable locations place) le h = (a_directive name.text, refl, h)

to_test_of : (es : List EntryOf) (number : ℕ) (d : TypeSystemOf Span) (what : Defined) → defined_by d ≡ Some what → is_before (position (defines what) es) number ≡ true → is_defined_before es number d ≡ true
to_test_of es number (schema true description directives roots place) what e h = absurd (cc)
to_test_of es number (schema false description directives roots place) what e h =
    let is : what ≡ the_schema = cc in
    before_schema (position (λ e. is_schema e.definition) es) (length es) number (subst (λ w. is_before (position (defines w) es) number ≡ true) is h)
to_test_of es number (type_definition true description name directives body place) what e h = absurd (cc)
to_test_of es number (type_definition false description name directives body place) what e h =
    let is : what ≡ a_type name.text = cc in
    subst (λ w. is_before (position (defines w) es) number ≡ true) is h
to_test_of es number (directive_definition description name arguments repeatable locations place) what e h =
    let is : what ≡ a_directive name.text = cc in
    subst (λ w. is_before (position (defines w) es) number ≡ true) is h

-- what is told of the entry that breaks the rule
pub told_defined_twice : (es : List EntryOf) (fault : Fault) (w : IsDefinedTwice es fault) → Contains (defined_twice_at es w.entry) fault
told_defined_twice es fault w =
    let passes = to_defines w.what w.earlier.entry.file w.earlier.entry.definition w.defines_the_same in
    let before = to_before (defines w.what) es w.entry.number w.earlier w.stands w.is_earlier passes in
    let test = to_test_of es w.entry.number w.entry.entry.definition w.what w.defines before in
    to_test (is_defined_before es w.entry.number w.entry.entry.definition) (fault_over w.entry.entry.file DefinedTwice (definition_place w.entry.entry.definition)) fault test w.is

pub all_defined_twice_are : (es : List EntryOf) (fault : Fault) → Contains (all_defined_twice es) fault ↔ IsDefinedTwice es fault
all_defined_twice_are es fault = (from, to)
  where
    from_entry : (n : Numbered) → Contains (judged es) n → Contains (defined_twice_at es n) fault → IsDefinedTwice es fault
    from_entry n j c =
        let t = from_test (is_defined_before es n.number n.entry.definition) (fault_over n.entry.file DefinedTwice (definition_place n.entry.definition)) fault c in
        let stands = stands_at_number es n (from_filter (λ m. not (defines_built_in m.entry.definition)) (numbered es) n j).0 in
        let what = from_test_of es n.number n.entry.definition (omega (arith, stands.0)) t.0 in
        let earlier = from_before (defines what.0) es n.number n.entry what.2 in
        record {
          entry = n;
          is_judged = j;
          what = what.0;
          defines = what.1;
          earlier = earlier.0;
          stands = earlier.1;
          is_earlier = earlier.2;
          defines_the_same = from_defines what.0 earlier.0.entry.file earlier.0.entry.definition earlier.3;
          is = t.1;
        }

    from : Contains (all_defined_twice es) fault → IsDefinedTwice es fault
    from c = let r = from_flat (defined_twice_at es) (judged es) fault c in from_entry r.0 r.1 r.2

    to : IsDefinedTwice es fault → Contains (all_defined_twice es) fault
    to w = to_flat (defined_twice_at es) (judged es) w.entry fault w.is_judged (told_defined_twice es fault w)
