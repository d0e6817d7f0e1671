-- The tests of section 5.8.5 decide its relations.
use Rattle.std.proofs.Common.{◌≡◌, Bool, true, false, if◌then◌else◌, refl, sym, ap, subst}
use Rattle.std.specs.Prelude.{not, ◌&&◌, ◌||◌}
use Rattle.std.specs.Cmp.Lexicographic.{bytes_decides}
use Rattle.gq_text.specs.declared.place.Span.{Span}
use Rattle.gq_tree.specs.Plain.{TypeOf, named, list_of, non_null, VariableOf}
use Rattle.gq_types.proofs.Gathered.{and_parts, and_both, not_true, not_false}
use Rattle.gq_tree.specs.Wrapping.{is_non_null}
use Rattle.gq_variables.specs.AllVariableUsagesAreAllowed.{AreCompatible, both_non_null, variable_non_null, both_lists, same_name, is_value, IsAllowed, by_default, by_type}
use Rattle.gq_variables.specs.Helping.VariablePlaces.{are_compatible, defaults, is_allowed}

to_compatible : (v l : TypeOf Span) → are_compatible v l ≡ true → AreCompatible v l
to_compatible (named v) (named l) h = same_name ((bytes_decides v.text l.text).0 h)
to_compatible (named v) (list_of l) h = absurd (cc)
to_compatible (named v) (non_null l) h = absurd (cc)
to_compatible (list_of v) (named l) h = absurd (cc)
to_compatible (list_of v) (list_of l) h = both_lists (to_compatible v l h)
to_compatible (list_of v) (non_null l) h = absurd (cc)
to_compatible (non_null v) (named l) h = variable_non_null refl (to_compatible v (named l) h)
to_compatible (non_null v) (list_of l) h = variable_non_null refl (to_compatible v (list_of l) h)
to_compatible (non_null v) (non_null l) h = both_non_null (to_compatible v l h)

without_null : (v l : TypeOf Span) → is_non_null l ≡ false → are_compatible v l ≡ true → are_compatible (non_null v) l ≡ true
without_null v (named l) e h = h
without_null v (list_of l) e h = h
without_null v (non_null l) e h = absurd (cc)

from_compatible : {v l : TypeOf Span} → AreCompatible v l → are_compatible v l ≡ true
from_compatible (both_non_null c) = from_compatible c
from_compatible (variable_non_null {variable = v} {location = l} e c) = without_null v l e (from_compatible c)
from_compatible (both_lists c) = from_compatible c
from_compatible (same_name {variable = v} {location = l} e) = (bytes_decides v.text l.text).1 e

-- only a type without null may stand at one
pub is_without_null : (v l : TypeOf Span) → are_compatible v (non_null l) ≡ true → is_non_null v ≡ true
is_without_null (named v) l h = absurd (cc)
is_without_null (list_of v) l h = absurd (cc)
is_without_null (non_null v) l h = refl

pub to_allowed : (v : VariableOf Span) (place_has_default : Bool) (t : TypeOf Span) → is_allowed v place_has_default t ≡ true → IsAllowed v place_has_default t
to_allowed v place_has_default (named l) h = by_type (to_compatible v.type_ref (named l) h)
to_allowed v place_has_default (list_of l) h = by_type (to_compatible v.type_ref (list_of l) h)
to_allowed v place_has_default (non_null l) h = by_test (defaults v place_has_default) refl h
  where
    by_test : (b : Bool) → defaults v place_has_default ≡ b → (if b then are_compatible v.type_ref l else are_compatible v.type_ref (non_null l)) ≡ true → IsAllowed v place_has_default (non_null l)
    by_test true e fit =
        let p = and_parts (not (is_non_null v.type_ref)) (is_value v.default || place_has_default) e in
        by_default (not_true (is_non_null v.type_ref) p.0) p.1 (to_compatible v.type_ref l fit)
    by_test false e fit = by_type (to_compatible v.type_ref (non_null l) fit)

pub by_types : (v : VariableOf Span) (place_has_default : Bool) (t : TypeOf Span) → are_compatible v.type_ref t ≡ true → is_allowed v place_has_default t ≡ true
by_types v place_has_default (named l) h = h
by_types v place_has_default (list_of l) h = h
by_types v place_has_default (non_null l) h =
    let none : defaults v place_has_default ≡ false = ap (λ b. not b && (is_value v.default || place_has_default)) (is_without_null v.type_ref l h) in
    subst (λ b. (if b then are_compatible v.type_ref l else are_compatible v.type_ref (non_null l)) ≡ true) (sym none) h

pub from_allowed : (v : VariableOf Span) (place_has_default : Bool) (t : TypeOf Span) → IsAllowed v place_has_default t → is_allowed v place_has_default t ≡ true
from_allowed v place_has_default t (by_type c) = by_types v place_has_default t (from_compatible c)
from_allowed v place_has_default t (by_default {location} nullable given c) =
    let some = and_both (not (is_non_null v.type_ref)) (is_value v.default || place_has_default) (not_false (is_non_null v.type_ref) nullable) given in
    subst (λ b. (if b then are_compatible v.type_ref location else are_compatible v.type_ref (non_null location)) ≡ true) (sym some) (from_compatible c)
