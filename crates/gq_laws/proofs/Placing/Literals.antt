-- Literals that are equal but for their places and for the names of variables.
use Rattle.std.proofs.Common.{◌≡◌, ℕ, Bool, true, false, List, ◌∷◌, ◌++◌, Option, Some, None, map, refl, sym, ap, ◌∙◌}
use Rattle.std.specs.Prelude.{if◌then◌else◌, ◌||◌}
use Rattle.std.specs.Option.{option_map}
use Rattle.gq_text.specs.declared.place.Span.{Span}
use Rattle.gq_fault.specs.declared.fault.Fault.{Fault}
use Rattle.gq_fault.specs.FaultPlaces.{fault_at, fault_over}
use Rattle.gq_fault.specs.declared.code.Code.TheVariants.{WrongValue, UnknownInputField, InputFieldNotUnique, InputFieldMissing}
use Rattle.gq_tree.specs.Forest.{none, more, relabel}
use Rattle.gq_tree.specs.Plain.{NameOf, Says, Part, Val, Vals, TypeOf, named, list_of, non_null, variable, object, place_name, place_says, place_part, place_type, no_place}
use Rattle.gq_tree.specs.Wrapping.{is_null}
use Rattle.gq_types.specs.declared.entry.TypeKind.{TypeKind}
use Rattle.gq_types.specs.declared.entry.TypeKind.TheVariants as kind
use Rattle.gq_types.specs.Entries.{Text, EntryOf}
use Rattle.gq_types.specs.BuiltIn.{is_built_in_scalar}
use Rattle.gq_types.specs.Joined.{kind_named}
use Rattle.gq_types.specs.Names.{input_named}
use Rattle.gq_values.specs.Literals.{is_variable, is_list, is_object_literal, fits_built_in, fits_enum, fits_kind, fits, Expected, at_type, at_any, is_input_type, default_at, items_at, input_object_at, at_field, field_at, part_at, StandsIn}
use Rattle.gq_values.specs.Literals as literals
use Rattle.gq_values.specs.LiteralFaults.{key_in, entry_names, HasNone, literal_place, first_byte, IsFaultOf, wrong_value, unknown_field, field_not_unique, field_missing, IsLiteralFault}
use Rattle.gq_laws.specs.Placing.Places.{HasLike}
use Rattle.gq_laws.specs.Placing.Names.{bare_says, bare_part, bare_value}
use Rattle.gq_types.proofs.Placing.Alike.{back, seen, contains, repeated}

-- what a literal is read at, places forgotten
abbrev pub erase_expected : Expected → Option (TypeOf (Unit {0}))
erase_expected (at_type t) = Some (place_type no_place t)
erase_expected at_any = None

abbrev pub restore : Option (TypeOf (Unit {0})) → Expected
restore (Some t) = at_type (place_type back t)
restore None = at_any

type_twice : (t : TypeOf Span) → place_type no_place t ≡ place_type no_place (place_type back (place_type no_place t))
type_twice (named name) = refl
type_twice (list_of item) = ap (λ t. list_of t) (type_twice item)
type_twice (non_null inner) = ap (λ t. non_null t) (type_twice inner)

items_of_erased : (t : TypeOf Span) → erase_expected (items_at (at_type t)) ≡ erase_expected (items_at (at_type (place_type back (place_type no_place t))))
items_of_erased (named name) = refl
items_of_erased (list_of item) = ap (λ t. Some t) (type_twice item)
items_of_erased (non_null inner) = items_of_erased inner

items_erased : (r : Expected) → erase_expected (items_at r) ≡ erase_expected (items_at (restore (erase_expected r)))
items_erased (at_type t) = items_of_erased t
items_erased at_any = refl

pub object_erased : (es : List EntryOf) (t : TypeOf Span) → input_object_at es t ≡ input_object_at es (place_type back (place_type no_place t))
object_erased es (named name) = refl
object_erased es (list_of item) = object_erased es item
object_erased es (non_null inner) = object_erased es inner

field_erased : (es : List EntryOf) (text : Text) (r : Expected) → field_at es r text ≡ field_at es (restore (erase_expected r)) text
field_erased es text (at_type t) = ap (λ o. at_field es o text) (object_erased es t)
field_erased es text at_any = refl

input_erased : (es : List EntryOf) (t : TypeOf Span) → is_input_type es t ≡ is_input_type es (place_type back (place_type no_place t))
input_erased es (named name) = refl
input_erased es (list_of item) = input_erased es item
input_erased es (non_null inner) = input_erased es inner

default_step : (t u : TypeOf Span) → place_type no_place t ≡ place_type no_place u → (b : Bool) → erase_expected (if b then at_type t else at_any) ≡ erase_expected (if b then at_type u else at_any)
default_step t u e true = ap (λ z. Some z) e
default_step t u e false = refl

pub default_alike : (es : List EntryOf) (t u : TypeOf Span) → place_type no_place t ≡ place_type no_place u → erase_expected (default_at es t) ≡ erase_expected (default_at es u)
default_alike es t u e =
    default_step t u e (is_input_type es t) ∙ ap (λ b. erase_expected (if b then at_type u else at_any)) (seen (place_type no_place) (place_type back) (is_input_type es) (input_erased es) t u e)

-- what is read in a literal
pub part_alike : (es : List EntryOf) (r q : Expected) → erase_expected r ≡ erase_expected q → (k l : Option (NameOf Span)) → option_map (place_name no_place) k ≡ option_map (place_name no_place) l →
    erase_expected (part_at es r k) ≡ erase_expected (part_at es q l)
part_alike es r q e None None h = seen erase_expected restore (λ z. erase_expected (items_at z)) items_erased r q e
part_alike es r q e None (Some m) h = absurd (cc)
part_alike es r q e (Some n) None h = absurd (cc)
part_alike es r q e (Some n) (Some m) h =
    let names : place_name no_place n ≡ place_name no_place m = cc in
    ap (λ t. erase_expected (field_at es r t)) (ap (λ z. z.text) names) ∙ ap erase_expected (seen erase_expected restore (λ z. field_at es z m.text) (field_erased es m.text) r q e)

-- the form of a literal
fits_built_in_erased : (text : Text) (s : Says Span) → fits_built_in text s ≡ fits_built_in text (place_says back (bare_says s))
fits_built_in_erased text (variable name place) = refl
fits_built_in_erased text _ = refl

fits_enum_erased : (es : List EntryOf) (text : Text) (s : Says Span) → fits_enum es text s ≡ fits_enum es text (place_says back (bare_says s))
fits_enum_erased es text (variable name place) = refl
fits_enum_erased es text _ = refl

object_form_erased : (s : Says Span) → (is_object_literal s || is_variable s || is_null s) ≡ (let z = place_says back (bare_says s) in is_object_literal z || is_variable z || is_null z)
object_form_erased (variable name place) = refl
object_form_erased _ = refl

null_erased : (s : Says Span) → is_null s ≡ is_null (place_says back (bare_says s))
null_erased (variable name place) = refl
null_erased _ = refl

list_erased : (s : Says Span) → is_list s ≡ is_list (place_says back (bare_says s))
list_erased (variable name place) = refl
list_erased _ = refl

fits_kind_erased : (es : List EntryOf) (text : Text) (k : Option TypeKind) (s : Says Span) → fits_kind es text k s ≡ fits_kind es text k (place_says back (bare_says s))
fits_kind_erased es text (Some kind.Scalar) s = ap (λ b. if is_built_in_scalar text then b else true) (fits_built_in_erased text s)
fits_kind_erased es text (Some kind.Enum) s = fits_enum_erased es text s
fits_kind_erased es text (Some kind.InputObject) s = object_form_erased s
fits_kind_erased es text (Some kind.Object) s = refl
fits_kind_erased es text (Some kind.Interface) s = refl
fits_kind_erased es text (Some kind.Union) s = refl
fits_kind_erased es text None s = refl

fits_erased : (es : List EntryOf) (t : TypeOf Span) (s : Says Span) → fits es t s ≡ fits es (place_type back (place_type no_place t)) (place_says back (bare_says s))
fits_erased es (named name) s = fits_kind_erased es name.text (kind_named es name.text) s
fits_erased es (list_of item) s =
    let z = place_says back (bare_says s) in
    ap (λ b. is_list s || is_null s || b) (fits_erased es item s) ∙ ap (λ b. b || is_null s || fits es (place_type back (place_type no_place item)) z) (list_erased s)
    ∙ ap (λ b. is_list z || b || fits es (place_type back (place_type no_place item)) z) (null_erased s)
fits_erased es (non_null inner) s =
    let z = place_says back (bare_says s) in
    ap (λ b. if is_null s then false else b) (fits_erased es inner s) ∙ ap (λ b. if b then false else fits es (place_type back (place_type no_place inner)) z) (null_erased s)

pub fits_alike : (es : List EntryOf) (t u : TypeOf Span) (s r : Says Span) → place_type no_place t ≡ place_type no_place u → bare_says s ≡ bare_says r → fits es t s ≡ fits es u r
fits_alike es t u s r e h =
    fits_erased es t s ∙ ap (λ z. fits es (place_type back z) (place_says back (bare_says s))) e ∙ ap (λ z. fits es (place_type back (place_type no_place u)) (place_says back z)) h
    ∙ sym (fits_erased es u r)

object_too : (s : Says Span) → bare_says s ≡ object tt → (p : Span) × (s ≡ object p)
object_too (object p) e = (p, refl)
object_too _ e = absurd (cc)

pub type_too : (r : Expected) (t : TypeOf Span) → Some (place_type no_place t) ≡ erase_expected r → (u : TypeOf Span) × (r ≡ at_type u) × (place_type no_place t ≡ place_type no_place u)
type_too (at_type u) t e = (u, refl, cc)
type_too at_any t e = absurd (cc)

-- the names in a literal
names_step : (k : Option (NameOf Span)) (xs ys : List (NameOf Span)) → map (λ n. n.text) xs ≡ map (λ n. n.text) ys →
    map (λ n. n.text) (key_in k ++ xs) ≡ map (λ n. n.text) (key_in (option_map (place_name back) (option_map (place_name no_place) k)) ++ ys)
names_step None xs ys e = e
names_step (Some n) xs ys e = ap (λ z. n.text ∷ z) e

names_erased : (vs : Vals Span) → map (λ n. n.text) (entry_names vs) ≡ map (λ n. n.text) (entry_names (relabel (place_part back) (relabel bare_part vs)))
names_erased none = refl
names_erased (more p b r) = names_step p.key (entry_names r) (entry_names (relabel (place_part back) (relabel bare_part r))) (names_erased r)

pub names_alike : (vs ws : Vals Span) → relabel bare_part vs ≡ relabel bare_part ws → map (λ n. n.text) (entry_names vs) ≡ map (λ n. n.text) (entry_names ws)
names_alike vs ws e = seen (relabel bare_part) (relabel (place_part back)) (λ z. map (λ n. n.text) (entry_names z)) names_erased vs ws e

pub none_alike : (xs ys : List (NameOf Span)) → map (λ n. n.text) xs ≡ map (λ n. n.text) ys → (text : Text) → HasNone xs text → HasNone ys text
none_alike xs ys e text h name c e2 = let r = contains (λ n. n.text) ys xs (sym e) name c in h r.0 r.1 (sym r.2 ∙ e2)

-- a literal in the one, in the other
abbrev pub InToo : List EntryOf → (Option (NameOf Span) → Expected) → Vals Span → Expected → Val Span → Type 0
InToo es read ws r v = (q : Expected) × (w : Val Span) × StandsIn es read ws q w × (erase_expected r ≡ erase_expected q) × (bare_value v ≡ bare_value w)

abbrev pub ReadAlike : (read read2 : Option (NameOf Span) → Expected) → Type 0
ReadAlike read read2 = (k l : Option (NameOf Span)) → option_map (place_name no_place) k ≡ option_map (place_name no_place) l → erase_expected (read k) ≡ erase_expected (read2 l)

abbrev val : Part (Unit {0}) → Vals (Unit {0}) → Val (Unit {0})
val l b = record { label = l; below = b }

pub in_alike : (es : List EntryOf) {read : Option (NameOf Span) → Expected} {vs : Vals Span} {r : Expected} {v : Val Span} → StandsIn es read vs r v →
    (read2 : Option (NameOf Span) → Expected) → ReadAlike read read2 → (ws : Vals Span) → relabel bare_part vs ≡ relabel bare_part ws → InToo es read2 ws r v
in_alike es literals.here read2 h none e = absurd (cc)
in_alike es (literals.here {part = part} {below = below}) read2 h (more m c t) e =
    let labels : bare_part part ≡ bare_part m = cc in
    let belows : relabel bare_part below ≡ relabel bare_part c = cc in
    (read2 m.key, record { label = m; below = c }, literals.here, h part.key m.key (ap (λ z. z.key) labels), ap (λ l. val l (relabel bare_part below)) labels ∙ ap (λ b. val (bare_part m) b) belows)
in_alike es (literals.within w) read2 h none e = absurd (cc)
in_alike es (literals.within {read = read} {part = part} {below = below} w) read2 h (more m c t) e =
    let labels : bare_part part ≡ bare_part m = cc in
    let belows : relabel bare_part below ≡ relabel bare_part c = cc in
    let r = in_alike es w (part_at es (read2 m.key)) (part_alike es (read part.key) (read2 m.key) (h part.key m.key (ap (λ z. z.key) labels))) c belows in
    (r.0, r.1, literals.within {reading = r.0} {value = r.1} r.2, r.3, r.4)
in_alike es (literals.after w) read2 h none e = absurd (cc)
in_alike es (literals.after {rest = rest} w) read2 h (more m c t) e =
    let rests : relabel bare_part rest ≡ relabel bare_part t = cc in
    let r = in_alike es w read2 h t rests in
    (r.0, r.1, literals.after {reading = r.0} {value = r.1} r.2, r.3, r.4)

module _ (es : List EntryOf) (file : ℕ) (f : Fault) where
  -- a fault of a literal itself
  fault_too : (r q : Expected) (v w : Val Span) → erase_expected r ≡ erase_expected q → bare_value v ≡ bare_value w → IsFaultOf es file r v f → HasLike (IsFaultOf es file q w) f
  fault_too r q v w e h (wrong_value {t} a b is) =
      let u = type_too q t (ap erase_expected (sym a) ∙ e) in (
        fault_over file WrongValue (literal_place w.label.says),
        wrong_value u.1 (sym (fits_alike es t u.0 v.label.says w.label.says u.2 (ap (λ z. z.label.says) h)) ∙ b) refl,
        ap (λ z. z.file) (sym is),
        ap (λ z. z.code) (sym is),
      )
  fault_too r q v w e h (unknown_field {t} {type_name} {place} {name} a b c d g is) =
      let u = type_too q t (ap erase_expected (sym a) ∙ e) in
      let o = object_too w.label.says (sym (ap (λ z. z.label.says) h) ∙ ap bare_says c) in
      let n = contains (λ n. n.text) (entry_names v.below) (entry_names w.below) (names_alike v.below w.below (ap (λ z. z.below) h)) name d in (
        fault_at file UnknownInputField n.0,
        unknown_field u.1 (sym (seen (place_type no_place) (place_type back) (input_object_at es) (object_erased es) t u.0 u.2) ∙ b) o.1 n.1 (ap (input_named es type_name) (sym n.2) ∙ g) refl,
        ap (λ z. z.file) (sym is),
        ap (λ z. z.code) (sym is),
      )
  fault_too r q v w e h (field_not_unique {place} {name} c d is) =
      let o = object_too w.label.says (sym (ap (λ z. z.label.says) h) ∙ ap bare_says c) in
      let n = repeated (λ n. n.text) (entry_names v.below) (entry_names w.below) (names_alike v.below w.below (ap (λ z. z.below) h)) name d in
      (fault_at file InputFieldNotUnique n.0, field_not_unique o.1 n.1 refl, ap (λ z. z.file) (sym is), ap (λ z. z.code) (sym is))
  fault_too r q v w e h (field_missing {t} {type_name} {text} {place} {i} a b c d g k is) =
      let u = type_too q t (ap erase_expected (sym a) ∙ e) in
      let o = object_too w.label.says (sym (ap (λ z. z.label.says) h) ∙ ap bare_says c) in (
        fault_over file InputFieldMissing (first_byte o.0),
        field_missing u.1 (sym (seen (place_type no_place) (place_type back) (input_object_at es) (object_erased es) t u.0 u.2) ∙ b) o.1 d g
            (none_alike (entry_names v.below) (entry_names w.below) (names_alike v.below w.below (ap (λ z. z.below) h)) text k) refl,
        ap (λ z. z.file) (sym is),
        ap (λ z. z.code) (sym is),
      )

  -- (b) a fault of a literal, or of one that stands in it
  pub literal_too : (r q : Expected) (v w : Val Span) → erase_expected r ≡ erase_expected q → bare_value v ≡ bare_value w → IsLiteralFault es file r v f → HasLike (IsLiteralFault es file q w) f
  literal_too r q v w e h l =
      let i = in_alike es l.stands (λ k. q) (λ k m z. e) (more w.label w.below none) (ap (λ z. more z.label z.below none) h) in
      let g = fault_too l.inner i.0 l.part i.1 i.3 i.4 l.fault in
      (g.0, record { inner = i.0; part = i.1; stands = i.2; fault = g.1 }, g.2, g.3)
