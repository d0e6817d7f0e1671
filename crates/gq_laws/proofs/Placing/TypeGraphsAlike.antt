-- Implementations of interfaces and circular input objects, in type systems that are equal but for their places.
use Rattle.std.proofs.Common.{◌≡◌, ℕ, true, false, List, [], inl, inr, ◌⊎◌, Option, Some, None, map, refl, sym, ap, ◌∙◌, subst}
use Rattle.std.specs.Prelude.{find, is_some, if◌then◌else◌}
use Rattle.std.specs.Option.{option_map, option_map_or}
use Rattle.std.specs.Str.{bytes_eq}
use Rattle.gq_text.specs.declared.place.Span.{Span}
use Rattle.gq_fault.specs.declared.fault.Fault.{Fault}
use Rattle.gq_fault.specs.FaultPlaces.{fault_at}
use Rattle.gq_fault.specs.declared.code.Code.TheVariants.{BadImplementation, EndlessInput}
use Rattle.gq_tree.specs.Forest.{none, more, relabel}
use Rattle.gq_tree.specs.Plain.{NameOf, Says, variable, int, float, string, boolean, null, enum, list, object, Part, Val, Vals, DirectiveOf, TypeOf, named, list_of, non_null, InputOf, FieldDefinitionOf, BodyOf, scalar_type, object_type, interface_type, union_type, enum_type, input_type, TypeSystemOf, schema, type_definition, directive_definition, place_name, place_says, place_part, place_value, place_type, place_input, place_field, place_body, place_type_system, no_place}
use Rattle.gq_types.specs.declared.entry.TypeKind.{TypeKind}
use Rattle.gq_types.specs.declared.entry.TypeKind.TheVariants as kinds
use Rattle.gq_types.specs.Entries.{Text, EntryOf}
use Rattle.gq_types.specs.Joined.{In, type_number, fields_in_body, interfaces_in_body, fields_of, interfaces_of}
use Rattle.gq_types.specs.Kinds.{kind_of}
use Rattle.gq_types.specs.LookUps.{field_in, declares_in}
use Rattle.gq_types.specs.Names.{field_named, input_named, argument_named}
use Rattle.gq_types.specs.Possible.{IsPossible, itself, member, declaring, IsSubtypeName, equal, possible, interface, Covers, by_name, by_items, both_non_null, without_null}
use Rattle.gq_types.specs.Subtypes.{MayBeSubtypeName, unknown_sub, unknown_super, subtype}
use Rattle.gq_values.specs.Literals.{at_type, is_object_literal, Holds}
use Rattle.gq_type_system.specs.Implementations.{Implements, Inherits, BreaksField, has_no_subtype, lacks_argument, has_other_type, requires_argument, BreaksImplementation, declares_itself, lacks_interface, lacks_field, breaks_field, IsBadImplementation}
use Rattle.gq_type_system.specs.EndlessInputs.{Way, step, further, LeadsByNonNull, InputField, has_key, LeadsByDefault, IsEndless, by_non_null, by_default, input_object_in, IsEndlessInput}
use Rattle.gq_laws.specs.Placing.Names.{bare_says, bare_part, bare_value}
use Rattle.gq_types.specs.ErasedEntries.{erase_entry}
use Rattle.gq_laws.specs.Placing.OtherFields.{LooksAlikeBut}
use Rattle.gq_types.proofs.Placing.Lists.{any, found, map_twice}
use Rattle.gq_types.proofs.Placing.Alike.{back, seen}
use Rattle.gq_laws.proofs.Placing.Judged.{erase_marked, HasAlike, entries_too, judged_too}
use Rattle.gq_types.proofs.Placing.Entries.{blind, kind_erased, fields_alike, interfaces_alike, definition_kinds, type_numbers, parts_alike}
use Rattle.gq_laws.proofs.Placing.Entries.{looks_alike}
use Rattle.gq_laws.proofs.Placing.Arguments.{option_too}
use Rattle.gq_laws.proofs.Placing.Schema.{none_too, required_alike, argument_named_alike}
use Rattle.gq_laws.proofs.Placing.Literals.{type_too, in_alike}
use Rattle.gq_laws.proofs.Placing.Lookups as lookups

-- the definition of a type
definition_too : (a : Option (NameOf Span)) (n : NameOf Span) (ds : List (DirectiveOf Span)) (b : BodyOf Span) (p : Span) (u : TypeSystemOf Span) →
    place_type_system no_place (type_definition false a n ds b p) ≡ place_type_system no_place u →
    (a2 : Option (NameOf Span)) × (n2 : NameOf Span) × (ds2 : List (DirectiveOf Span)) × (b2 : BodyOf Span) × (p2 : Span) × (u ≡ type_definition false a2 n2 ds2 b2 p2)
    × (place_name no_place n ≡ place_name no_place n2) × (place_body no_place b ≡ place_body no_place b2)
definition_too a n ds b p (type_definition false a2 n2 ds2 b2 p2) e = (a2, n2, ds2, b2, p2, refl, cc, cc)
definition_too a n ds b p (type_definition true a2 n2 ds2 b2 p2) e = absurd (cc)
definition_too a n ds b p (schema a2 b2 c2 d2 e2) e = absurd (cc)
definition_too a n ds b p (directive_definition a2 b2 c2 d2 e2 g2) e = absurd (cc)

-- types that are covered
covers_too : (R S : Text → Text → Type 0) → ((a b : Text) → R a b → S a b) → {t u : TypeOf Span} → Covers R t u → (t2 u2 : TypeOf Span) →
    place_type no_place t ≡ place_type no_place t2 → place_type no_place u ≡ place_type no_place u2 → Covers S t2 u2
covers_too R S each (by_name {sub = sub} {super = super} r) (named m) (named k) e h =
    let subs : place_name no_place sub ≡ place_name no_place m = cc in
    let supers : place_name no_place super ≡ place_name no_place k = cc in
    by_name (subst (λ z. S z k.text) (ap (λ z. z.text) subs) (subst (λ z. S sub.text z) (ap (λ z. z.text) supers) (each sub.text super.text r)))
covers_too R S each (by_items {sub = sub} {super = super} c) (list_of x) (list_of y) e h =
    let subs : place_type no_place sub ≡ place_type no_place x = cc in
    let supers : place_type no_place super ≡ place_type no_place y = cc in
    by_items (covers_too R S each c x y subs supers)
covers_too R S each (both_non_null {sub = sub} {super = super} c) (non_null x) (non_null y) e h =
    let subs : place_type no_place sub ≡ place_type no_place x = cc in
    let supers : place_type no_place super ≡ place_type no_place y = cc in
    both_non_null (covers_too R S each c x y subs supers)
covers_too R S each (without_null {sub = sub} c) (non_null x) u2 e h =
    let subs : place_type no_place sub ≡ place_type no_place x = cc in
    without_null (covers_too R S each c x u2 subs h)
covers_too R S each _ t2 u2 e h = absurd (cc)

-- names of subtypes
module _ (names : List Text) (es us : List EntryOf) (looks : LooksAlikeBut names es us) where
  possible_too : {super thing : Text} → IsPossible es super thing → IsPossible us super thing
  possible_too (itself {object = thing} a) = itself (sym (looks.kind thing) ∙ a)
  possible_too (member {union = whole} {object = thing} a b c) = member (sym (looks.kind whole) ∙ a) (sym (looks.member whole thing) ∙ b) (sym (looks.kind thing) ∙ c)
  possible_too (declaring {interface = wanted} {object = thing} a b c) = declaring (sym (looks.kind wanted) ∙ a) (sym (looks.declared thing wanted) ∙ b) (sym (looks.kind thing) ∙ c)

  subtype_name_too : {sub super : Text} → IsSubtypeName es sub super → IsSubtypeName us sub super
  subtype_name_too equal = equal
  subtype_name_too (possible p) = possible (possible_too p)
  subtype_name_too (interface {sub = sub} {super = super} a b c) = interface (sym (looks.kind sub) ∙ a) (sym (looks.kind super) ∙ b) (sym (looks.declared sub super) ∙ c)

  may_be_subtype_too : (sub super : Text) → MayBeSubtypeName es sub super → MayBeSubtypeName us sub super
  may_be_subtype_too sub super (unknown_sub a) = unknown_sub (sym (looks.kind sub) ∙ a)
  may_be_subtype_too sub super (unknown_super a) = unknown_super (sym (looks.kind super) ∙ a)
  may_be_subtype_too sub super (subtype a) = subtype (subtype_name_too a)

-- an input that is alike has been found
abbrev InputToo : Option (InputOf Span) → InputOf Span → Type 0
InputToo o i = (j : InputOf Span) × (o ≡ Some j) × (place_input no_place i ≡ place_input no_place j)

-- what an interface wants of a field
module _ (names : List Text) (es us : List EntryOf) (looks : LooksAlikeBut names es us) (wanted own wanted2 own2 : FieldDefinitionOf Span)
    (wanteds : place_field no_place wanted ≡ place_field no_place wanted2) (owns : place_field no_place own ≡ place_field no_place own2) where
  wanted_arguments : (text : Text) → option_map (place_input no_place) (argument_named wanted.arguments text) ≡ option_map (place_input no_place) (argument_named wanted2.arguments text)
  wanted_arguments text = argument_named_alike text wanted.arguments wanted2.arguments (ap (λ z. z.arguments) wanteds)

  own_arguments : (text : Text) → option_map (place_input no_place) (argument_named own.arguments text) ≡ option_map (place_input no_place) (argument_named own2.arguments text)
  own_arguments text = argument_named_alike text own.arguments own2.arguments (ap (λ z. z.arguments) owns)

  wanted_too : (text : Text) (i : InputOf Span) → argument_named wanted.arguments text ≡ Some i → InputToo (argument_named wanted2.arguments text) i
  wanted_too text i a = option_too (place_input no_place) (argument_named wanted2.arguments text) i (ap (option_map (place_input no_place)) (sym a) ∙ wanted_arguments text)

  own_too : (text : Text) (i : InputOf Span) → argument_named own.arguments text ≡ Some i → InputToo (argument_named own2.arguments text) i
  own_too text i a = option_too (place_input no_place) (argument_named own2.arguments text) i (ap (option_map (place_input no_place)) (sym a) ∙ own_arguments text)

  pub breaks_field_too : BreaksField es wanted own → BreaksField us wanted2 own2
  breaks_field_too (has_no_subtype n) =
      let back_again = lookups.turned names es us looks in
      has_no_subtype (λ c. n (covers_too (MayBeSubtypeName us) (MayBeSubtypeName es) (may_be_subtype_too names us es back_again) c own.type_ref wanted.type_ref
      (sym (ap (λ z. z.type_ref) owns)) (sym (ap (λ z. z.type_ref) wanteds))))
  breaks_field_too (lacks_argument text argument a b) =
      let w = wanted_too text argument a in
      lacks_argument text w.0 w.1 (none_too (place_input no_place) (argument_named own.arguments text) (argument_named own2.arguments text) (own_arguments text) b)
  breaks_field_too (has_other_type text argument other a b n) =
      let w = wanted_too text argument a in
      let o = own_too text other b in
      has_other_type text w.0 o.0 w.1 o.1 (λ e. n (ap (λ z. z.type_ref) w.2 ∙ e ∙ sym (ap (λ z. z.type_ref) o.2)))
  breaks_field_too (requires_argument text argument a b c) =
      let o = own_too text argument a in
      requires_argument text o.0 o.1 (sym (required_alike argument o.0 o.2) ∙ b)
      (none_too (place_input no_place) (argument_named wanted.arguments text) (argument_named wanted2.arguments text) (wanted_arguments text) c)

-- what a type declares, and its fields
module _ (es us : List EntryOf) (entries : map erase_entry es ≡ map erase_entry us) where
  declares_alike : (number : ℕ) (text : Text) → declares_in es number text ≡ declares_in us number text
  declares_alike number text =
      any (λ (p : In (NameOf Span)). place_name no_place p.it) (λ i. bytes_eq text i.it.text) (λ i. bytes_eq text i.it.text) (λ a b e. ap (λ z. bytes_eq text z.text) e)
      (interfaces_of es number) (interfaces_of us number)
      (parts_alike es us entries (place_name no_place) interfaces_in_body interfaces_alike (λ i. bytes_eq text i.text) (λ a b e. ap (λ z. bytes_eq text z.text) e) number)

  field_in_alike : (number : ℕ) (text : Text) → option_map (place_field no_place) (field_in es number text) ≡ option_map (place_field no_place) (field_in us number text)
  field_in_alike number text =
      map_twice (λ (p : In (FieldDefinitionOf Span)). p.it) (place_field no_place) (find (λ f. bytes_eq text f.it.name.text) (fields_of es number))
      ∙ found (λ (p : In (FieldDefinitionOf Span)). place_field no_place p.it) (λ f. bytes_eq text f.it.name.text) (λ f. bytes_eq text f.it.name.text) (λ a b e. ap (λ z. bytes_eq text z.name.text) e)
      (fields_of es number) (fields_of us number)
      (parts_alike es us entries (place_field no_place) fields_in_body fields_alike (λ f. bytes_eq text f.name.text) (λ a b e. ap (λ z. bytes_eq text z.name.text) e) number)
      ∙ sym (map_twice (λ (p : In (FieldDefinitionOf Span)). p.it) (place_field no_place) (find (λ f. bytes_eq text f.it.name.text) (fields_of us number)))

  implements_too : (number : ℕ) (text : Text) → Implements es number text → Implements us number text
  implements_too number text i = (sym (declares_alike number text) ∙ i.0, sym (definition_kinds es us entries text) ∙ i.1)

  inherits_too : (number : ℕ) (text : Text) (field : FieldDefinitionOf Span) → Inherits es number text field →
      (other : FieldDefinitionOf Span) × Inherits us number text other × (place_field no_place field ≡ place_field no_place other)
  inherits_too number text field i =
      let looks = looks_alike es us entries in
      let o = option_too (place_field no_place) (field_named us i.interface text) field (ap (option_map (place_field no_place)) (sym i.has) ∙ looks.field i.interface text) in
      (o.0, record { interface = i.interface; implements = implements_too number i.interface i.implements; has = o.1 }, o.2)

  breaks_too : (number : ℕ) (name : Text) → BreaksImplementation es number name → BreaksImplementation us number name
  breaks_too number name (declares_itself a) = declares_itself (sym (declares_alike number name) ∙ a)
  breaks_too number name (lacks_interface wanted more_wanted a b c d) =
      let looks = looks_alike es us entries in
      lacks_interface wanted more_wanted (implements_too number wanted a) (sym (looks.declared wanted more_wanted) ∙ b) (sym (looks.kind more_wanted) ∙ c) (sym (declares_alike number more_wanted) ∙ d)
  breaks_too number name (lacks_field text wanted a b) =
      let w = inherits_too number text wanted a in
      lacks_field text w.0 w.1 (none_too (place_field no_place) (field_in es number text) (field_in us number text) (field_in_alike number text) b)
  breaks_too number name (breaks_field text wanted own a b c) =
      let w = inherits_too number text wanted a in
      let o = option_too (place_field no_place) (field_in us number text) own (ap (option_map (place_field no_place)) (sym b) ∙ field_in_alike number text) in
      breaks_field text w.0 o.0 w.1 o.1 (breaks_field_too [] es us (lookups.all_fields es us (looks_alike es us entries)) wanted own w.0 o.0 w.2 o.2 c)

-- kinds that implement interfaces
kinds_too : (k l : TypeKind) → k ≡ l → (k ≡ kinds.Object) ⊎ (k ≡ kinds.Interface) → (l ≡ kinds.Object) ⊎ (l ≡ kinds.Interface)
kinds_too k l e (inl a) = inl (sym e ∙ a)
kinds_too k l e (inr a) = inr (sym e ∙ a)

-- literals without their places, and then without the names of variables: which are object literals, and which keys they have
bare_says_placed : (s : Says Span) → bare_says s ≡ bare_says (place_says no_place s)
bare_says_placed (variable name place) = refl
bare_says_placed (int text place) = refl
bare_says_placed (float text place) = refl
bare_says_placed (string text place) = refl
bare_says_placed (boolean value place) = refl
bare_says_placed (null place) = refl
bare_says_placed (enum name) = refl
bare_says_placed (list place) = refl
bare_says_placed (object place) = refl

bare_key_placed : (k : Option (NameOf Span)) → option_map (place_name no_place) k ≡ option_map (place_name no_place) (option_map (place_name no_place) k)
bare_key_placed None = refl
bare_key_placed (Some n) = refl

abbrev part_of : Option (NameOf (Unit {0})) → Says (Unit {0}) → Part (Unit {0})
part_of k s = record { key = k; says = s }

bare_part_placed : (p : Part Span) → bare_part p ≡ bare_part (place_part no_place p)
bare_part_placed p =
    ap (λ k. part_of k (bare_says p.says)) (bare_key_placed p.key)
    ∙ ap (λ s. part_of (option_map (place_name no_place) (option_map (place_name no_place) p.key)) s) (bare_says_placed p.says)

bare_row_placed : (vs : Vals Span) → relabel bare_part vs ≡ relabel bare_part (relabel (place_part no_place) vs)
bare_row_placed none = refl
bare_row_placed (more p b r) =
    ap (λ l. more l (relabel bare_part b) (relabel bare_part r)) (bare_part_placed p)
    ∙ ap (λ z. more (bare_part (place_part no_place p)) z (relabel bare_part r)) (bare_row_placed b)
    ∙ ap (λ z. more (bare_part (place_part no_place p)) (relabel bare_part (relabel (place_part no_place) b)) z) (bare_row_placed r)

abbrev alone : Val Span → Vals Span
alone v = more v.label v.below none

bare_alone : (v w : Val Span) → place_value no_place v ≡ place_value no_place w → relabel bare_part (alone v) ≡ relabel bare_part (alone w)
bare_alone v w e = bare_row_placed (alone v) ∙ ap (λ z. relabel bare_part (more z.label z.below none)) e ∙ sym (bare_row_placed (alone w))

object_form : (s : Says Span) → is_object_literal s ≡ is_object_literal (place_says back (bare_says s))
object_form (variable name place) = refl
object_form _ = refl

object_too : (s r : Says Span) → bare_says s ≡ bare_says r → is_object_literal s ≡ true → is_object_literal r ≡ true
object_too s r e o = sym (seen bare_says (place_says back) (λ z. is_object_literal z) object_form s r e) ∙ o

key_erased : (text : Text) (k : Option (NameOf Span)) →
    option_map_or (λ key. bytes_eq text key.text) k false ≡ option_map_or (λ key. bytes_eq text key.text) (option_map (place_name back) (option_map (place_name no_place) k)) false
key_erased text None = refl
key_erased text (Some n) = refl

has_key_erased : (text : Text) (vs : Vals Span) → has_key text vs ≡ has_key text (relabel (place_part back) (relabel bare_part vs))
has_key_erased text none = refl
has_key_erased text (more p b r) =
    ap (λ z. if z then true else has_key text r) (key_erased text p.key)
    ∙ ap (λ z. if option_map_or (λ key. bytes_eq text key.text) (option_map (place_name back) (option_map (place_name no_place) p.key)) false then true else z) (has_key_erased text r)

absent_too : (text : Text) (vs ws : Vals Span) → relabel bare_part vs ≡ relabel bare_part ws → has_key text vs ≡ false → has_key text ws ≡ false
absent_too text vs ws e n = sym (seen (relabel bare_part) (relabel (place_part back)) (λ z. has_key text z) (has_key_erased text) vs ws e) ∙ n

some_too : {A B : Type 0} (h : A → B) (a c : Option A) → option_map h a ≡ option_map h c → is_some a ≡ true → is_some c ≡ true
some_too h None c e s = absurd (cc)
some_too h (Some x) None e s = absurd (cc)
some_too h (Some x) (Some y) e s = refl

-- ways of steps
way_too : {V : Type 0} (G H : V → V → Type 0) → ((x y : V) → G x y → H x y) → {x y : V} → Way G x y → Way H x y
way_too G H each (step {x = x} {y = y} g) = step (each x y g)
way_too G H each (further {x = x} {y = y} g w) = further (each x y g) (way_too G H each w)

named_too : (n : NameOf Span) (u : TypeOf Span) → place_type no_place (non_null (named n)) ≡ place_type no_place u → (m : NameOf Span) × (u ≡ non_null (named m)) × (n.text ≡ m.text)
named_too n (non_null (named m)) e =
    let names : place_name no_place n ≡ place_name no_place m = cc in
    (m, refl, ap (λ z. z.text) names)
named_too n (non_null (list_of item)) e = absurd (cc)
named_too n (non_null (non_null inner)) e = absurd (cc)
named_too n (named m) e = absurd (cc)
named_too n (list_of item) e = absurd (cc)

module _ (names : List Text) (es us : List EntryOf) (looks : LooksAlikeBut names es us) where
  input_too : (type_name text : Text) (i : InputOf Span) → input_named es type_name text ≡ Some i → InputToo (input_named us type_name text) i
  input_too type_name text i a = option_too (place_input no_place) (input_named us type_name text) i (ap (option_map (place_input no_place)) (sym a) ∙ looks.input type_name text)

  non_null_too : (from to : Text) → LeadsByNonNull es from to → LeadsByNonNull us from to
  non_null_too from to l =
      let j = input_too from l.text l.field l.is_field in
      let n = named_too l.name j.0.type_ref (ap (place_type no_place) (sym l.is_non_null) ∙ ap (λ z. z.type_ref) j.2) in
      record { text = l.text; field = j.0; name = n.0; is_field = j.1; is_non_null = n.1; is_other = sym n.2 ∙ l.is_other }

  -- what holds in a default value
  holds_too : (t t2 u : TypeOf Span) (d d2 v : Val Span) → place_type no_place t ≡ place_type no_place t2 → place_value no_place d ≡ place_value no_place d2 → Holds es (at_type t) d (at_type u) v →
      (u2 : TypeOf Span) × (w : Val Span) × Holds us (at_type t2) d2 (at_type u2) w × (place_type no_place u ≡ place_type no_place u2) × (bare_value v ≡ bare_value w)
  holds_too t t2 u d d2 v types defaults h =
      let i = in_alike es h (λ k. at_type t2) (λ k l z. ap (λ z. Some z) types) (alone d2) (bare_alone d d2 defaults) in
      let o = lookups.stands names es us looks i.2 (λ k. at_type t2) (λ k. refl) in
      let q = type_too o.0 u (i.3 ∙ o.2) in
      (q.0, i.1, subst (λ z. Holds us (at_type t2) d2 z i.1) q.1 o.1, q.2, i.4)

  default_too : (from to : InputField) → LeadsByDefault es from to → LeadsByDefault us from to
  default_too from to l =
      let j = input_too from.type_name from.name l.field l.is_field in
      let d = option_too (place_value no_place) j.0.default l.default (ap (option_map (place_value no_place)) (sym l.has_default) ∙ ap (λ z. z.default) j.2) in
      let h = holds_too l.field.type_ref j.0.type_ref l.literal_type l.default d.0 l.literal (ap (λ z. z.type_ref) j.2) d.2 l.holds in
      let o = input_too to.type_name to.name l.other l.is_other in
      record {
        field = j.0;
        default = d.0;
        is_field = j.1;
        has_default = d.1;
        literal = h.1;
        literal_type = h.0;
        holds = h.2;
        is_object = object_too l.literal.label.says h.1.label.says (ap (λ z. z.label.says) h.4) l.is_object;
        is_at = lookups.objects names es us looks l.literal_type h.0 h.3 ∙ l.is_at;
        is_absent = absent_too to.name l.literal.below h.1.below (ap (λ z. z.below) h.4) l.is_absent;
        other = o.0;
        is_other = o.1;
        other_has_default = some_too (place_value no_place) l.other.default o.0.default (ap (λ z. z.default) o.2) l.other_has_default;
      }

  pub endless_too : (type_name : Text) → IsEndless es type_name → IsEndless us type_name
  endless_too type_name (by_non_null w) = by_non_null (way_too (LeadsByNonNull es) (LeadsByNonNull us) non_null_too w)
  endless_too type_name (by_default {field = field} e w) = by_default {field = field} e (way_too (LeadsByDefault es) (LeadsByDefault us) default_too w)

-- the definition of an input object
input_object_erased : (d : TypeSystemOf Span) →
    option_map (place_name no_place) (input_object_in d) ≡ option_map (place_name no_place) (input_object_in (place_type_system back (place_type_system no_place d)))
input_object_erased (schema extends description directives roots place) = refl
input_object_erased (type_definition true description name directives body place) = refl
input_object_erased (type_definition false description name directives scalar_type place) = refl
input_object_erased (type_definition false description name directives (object_type interfaces fields) place) = refl
input_object_erased (type_definition false description name directives (interface_type interfaces fields) place) = refl
input_object_erased (type_definition false description name directives (union_type members) place) = refl
input_object_erased (type_definition false description name directives (enum_type values) place) = refl
input_object_erased (type_definition false description name directives (input_type fields) place) = refl
input_object_erased (directive_definition description name arguments repeatable locations place) = refl

-- the rules
module _ {M : Type 0} (mark : ℕ → M) (es us : List EntryOf) (same : map (erase_marked mark) es ≡ map (erase_marked mark) us) where
  pub bad_implementation_too : (f : Fault) → IsBadImplementation es f → HasAlike mark (IsBadImplementation us) f
  bad_implementation_too f b =
      let m = judged_too mark es us same b.at b.is_judged in
      let d = definition_too b.description b.name b.directives b.body b.place m.0.entry.definition (ap (place_type_system no_place) (sym b.defines) ∙ m.4) in
      let number = subst (λ z. BreaksImplementation us z b.name.text) (sym m.2) (breaks_too es us (entries_too mark es us same) b.at.number b.name.text b.breaks) in (
        fault_at m.0.entry.file BadImplementation d.1,
        record {
          at = m.0;
          is_judged = m.1;
          description = d.0;
          name = d.1;
          directives = d.2;
          body = d.3;
          place = d.4;
          defines = d.5;
          implements = kinds_too (kind_of b.body) (kind_of d.3) (seen (place_body no_place) (place_body back) (λ z. kind_of z) kind_erased b.body d.3 d.7) b.implements;
          breaks = subst (BreaksImplementation us m.0.number) (ap (λ z. z.text) d.6) number;
          is = refl;
        },
        m.3 ∙ ap (λ z. mark z.file) (sym b.is),
        ap (λ z. z.code) (sym b.is),
      )

  pub endless_input_too : (f : Fault) → IsEndlessInput es f → HasAlike mark (IsEndlessInput us) f
  endless_input_too f b =
      let m = judged_too mark es us same b.entry b.is_judged in
      let inputs = blind (λ d. option_map (place_name no_place) (input_object_in d)) input_object_erased b.entry.entry m.0.entry m.4 in
      let n = option_too (place_name no_place) (input_object_in m.0.entry.definition) b.name (ap (option_map (place_name no_place)) (sym b.defines) ∙ inputs) in
      let texts = ap (λ z. z.text) n.2 in (
        fault_at m.0.entry.file EndlessInput n.0,
        record {
          entry = m.0;
          is_judged = m.1;
          name = n.0;
          defines = n.1;
          is_meant = ap (type_number us) (sym texts) ∙ sym (type_numbers es us (entries_too mark es us same) b.name.text) ∙ b.is_meant ∙ ap (λ z. Some z) (sym m.2);
          is_endless = subst (IsEndless us) texts (endless_too [] es us (lookups.all_fields es us (looks_alike es us (entries_too mark es us same))) b.name.text b.is_endless);
          is = refl;
        },
        m.3 ∙ ap (λ z. mark z.file) (sym b.is),
        ap (λ z. z.code) (sym b.is),
      )
