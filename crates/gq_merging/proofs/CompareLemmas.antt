-- What the comparisons compute is what the rule says.
use Rattle.std.proofs.Common.{◌≡◌, ◌↔◌, Bool, true, false, not, ◌&&◌, if◌then◌else◌, IsTrue, List, Option, Some, None, refl, sym, ◌∙◌, ap, subst}
use Rattle.std.specs.Prelude.{is_some, option_and_then}
use Rattle.std.specs.Str.{bytes_eq}
use Rattle.std.specs.Cmp.Lexicographic.{bytes_decides}
use Rattle.std.proofs.lemmas.Option.{same_Some, none-some}
use Rattle.gq_text.specs.declared.place.Span.{Span}
use Rattle.gq_tree.specs.Plain.{TypeOf, named, list_of, non_null}
use Rattle.gq_types.specs.Entries.{Text, EntryOf}
use Rattle.gq_types.specs.Joined.{kind_named}
use Rattle.gq_document.specs.Selections.{FieldOf, selected_field, is_composite_named}
use Rattle.gq_tree.specs.NamedTypes.{base_name}
use Rattle.gq_document.specs.FieldSets.{FieldAt}
use Rattle.gq_merging.specs.Shapes.{Shape, composite, leaf, many, never_null, shape_of}
use Rattle.gq_merging.specs.SameArguments.{SameArguments}
use Rattle.gq_merging.specs.FieldsMerge.{can_coincide, HasType, IsSameCall, Differ, in_shape, in_call}
use Rattle.gq_merging.specs.Helping.Comparisons.{known_type, if_known, same_shapes, types_differ, shapes_differ}
use Rattle.gq_merging.specs.declared.purpose.Purpose.TheVariants.{Shapes, Names}

abbrev leaf_name : Shape → Text → Text
leaf_name composite d = d
leaf_name (leaf n) d = n
leaf_name (many s) d = d
leaf_name (never_null s) d = d

abbrev fault_in : Shape → Shape
fault_in composite = composite
fault_in (leaf n) = leaf n
fault_in (many s) = s
fault_in (never_null s) = s

ends_are : (p q : Bool) (n m : Text) → ((if p then q else not q && bytes_eq n m) ≡ true) ↔ ((if p then composite else leaf n) ≡ (if q then composite else leaf m))
ends_are true true n m = (λ e. refl, λ e. refl)
ends_are true false n m = (λ e. absurd (cc), λ e. absurd (cc))
ends_are false true n m = (λ e. absurd (cc), λ e. absurd (cc))
ends_are false false n m = (λ e. ap leaf ((bytes_decides n m).0 e), λ e. (bytes_decides n m).1 (ap (λ s. leaf_name s n) e))

pub shapes_are : (es : List EntryOf) (t u : TypeOf Span) → (same_shapes es t u ≡ true) ↔ (shape_of es t ≡ shape_of es u)
shapes_are es (named n) (named m) = ends_are (is_composite_named es n.text) (is_composite_named es m.text) n.text m.text
shapes_are es (named n) (list_of u) = (λ e. absurd (cc), λ e. absurd (no_many (is_composite_named es n.text) n.text (shape_of es u) e))
  where
    no_many : (p : Bool) (n : Text) (s : Shape) → (if p then composite else leaf n) ≡ many s → ⊥
    no_many true n s e = absurd (cc)
    no_many false n s e = absurd (cc)
shapes_are es (named n) (non_null u) = (λ e. absurd (cc), λ e. absurd (no_null (is_composite_named es n.text) n.text (shape_of es u) e))
  where
    no_null : (p : Bool) (n : Text) (s : Shape) → (if p then composite else leaf n) ≡ never_null s → ⊥
    no_null true n s e = absurd (cc)
    no_null false n s e = absurd (cc)
shapes_are es (list_of t) (named m) = (λ e. absurd (cc), λ e. absurd (no_many (is_composite_named es m.text) m.text (shape_of es t) (sym e)))
  where
    no_many : (p : Bool) (n : Text) (s : Shape) → (if p then composite else leaf n) ≡ many s → ⊥
    no_many true n s e = absurd (cc)
    no_many false n s e = absurd (cc)
shapes_are es (list_of t) (list_of u) = let q = shapes_are es t u in (λ e. ap many (q.0 e), λ e. q.1 (ap fault_in e))
shapes_are es (list_of t) (non_null u) = (λ e. absurd (cc), λ e. absurd (cc))
shapes_are es (non_null t) (named m) = (λ e. absurd (cc), λ e. absurd (no_null (is_composite_named es m.text) m.text (shape_of es t) (sym e)))
  where
    no_null : (p : Bool) (n : Text) (s : Shape) → (if p then composite else leaf n) ≡ never_null s → ⊥
    no_null true n s e = absurd (cc)
    no_null false n s e = absurd (cc)
shapes_are es (non_null t) (list_of u) = (λ e. absurd (cc), λ e. absurd (cc))
shapes_are es (non_null t) (non_null u) = let q = shapes_are es t u in (λ e. ap never_null (q.0 e), λ e. q.1 (ap fault_in e))

pub has_type : (es : List EntryOf) (f : FieldAt) (t : TypeOf Span) → known_type es f ≡ Some t → HasType es f t
has_type es f t e = by_field (selected_field es f.parent f.name.text) refl e
  where
    by_end : (d : FieldOf) (b : Bool) → selected_field es f.parent f.name.text ≡ Some d → is_some (kind_named es (base_name d.type_ref)) ≡ b → (if b then Some d.type_ref else None) ≡ Some t → HasType es f t
    by_end d true is known e = record {
      definition = d;
      is_known = is;
      is = same_Some d.type_ref t e;
      end_is_known = subst (λ u. is_some (kind_named es (base_name u)) ≡ true) (same_Some d.type_ref t e) known;
    }
    by_end d false is known e = absurd (none-some t e)

    by_field : (o : Option FieldOf) → selected_field es f.parent f.name.text ≡ o → option_and_then (λ d. if_known es d.type_ref) o ≡ Some t → HasType es f t
    by_field None is e = absurd (none-some t e)
    by_field (Some d) is e = by_end d (is_some (kind_named es (base_name d.type_ref))) is refl e

pub type_of : (es : List EntryOf) (f : FieldAt) (t : TypeOf Span) → HasType es f t → known_type es f ≡ Some t
type_of es f t h =
    ap (option_and_then (λ d. if_known es d.type_ref)) h.is_known ∙ ap (if_known es) h.is
    ∙ ap (λ b. if b then Some t else None) h.end_is_known

not_not : (b : Bool) → not b ≡ true → b ≡ true → ⊥
not_not true e h = absurd (cc)
not_not false e h = absurd (cc)

not_so : (b : Bool) → (b ≡ true → ⊥) → not b ≡ true
not_so true h = absurd (h refl)
not_so false h = refl

from_differing : (es : List EntryOf) (a b : FieldAt) (l r : Option (TypeOf Span)) → known_type es a ≡ l → known_type es b ≡ r → types_differ es l r ≡ true → Differ es Shapes a b
from_differing es a b None r el er e = absurd (cc)
from_differing es a b (Some t) None el er e = absurd (cc)
from_differing es a b (Some t) (Some u) el er e =
    in_shape t u (has_type es a t el) (has_type es b u er) (λ same. not_not (same_shapes es t u) e ((shapes_are es t u).1 same))

to_differing : (es : List EntryOf) (a b : FieldAt) → Differ es Shapes a b → shapes_differ es a b ≡ true
to_differing es a b (in_shape t u ht hu apart) =
    ap (λ o. types_differ es o (known_type es b)) (type_of es a t ht) ∙ ap (types_differ es (Some t)) (type_of es b u hu)
    ∙ not_so (same_shapes es t u) (λ e. apart ((shapes_are es t u).0 e))

pub shapes_apart : (es : List EntryOf) (a b : FieldAt) → IsTrue (shapes_differ es a b) ↔ Differ es Shapes a b
shapes_apart es a b = (from_differing es a b (known_type es a) (known_type es b) refl refl, to_differing es a b)

pub names_apart : (es : List EntryOf) (a b : FieldAt) → can_coincide es a.parent b.parent ≡ true → (a.name.text ≡ b.name.text → ⊥) → IsTrue true ↔ Differ es Names a b
names_apart es a b meet apart = (λ e. in_call meet (λ same. apart same.one_name), λ d. refl)

same_call : (es : List EntryOf) (a b : FieldAt) → Differ es Names a b → IsSameCall a b → ⊥
same_call es a b (in_call meet apart) h = apart h

pub arguments_apart : (es : List EntryOf) (a b : FieldAt) (same : Bool) → can_coincide es a.parent b.parent ≡ true → a.name.text ≡ b.name.text →
    (IsTrue same ↔ SameArguments a.arguments b.arguments) → IsTrue (not same) ↔ Differ es Names a b
arguments_apart es a b same meet name are = (
  (λ e. in_call meet (λ h. not_not same e (are.1 h.same_arguments))),
  (λ d. not_so same (λ t. same_call es a b d (record { one_name = name; same_arguments = are.0 t }))),
)
