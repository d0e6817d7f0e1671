-- Rules on the entries of type systems that are equal but for their places: names that are defined, extended and used.
use Rattle.std.proofs.Common.{◌≡◌, ℕ, ◌<◌, true, false, List, ◌∷◌, ◌++◌, Option, Some, map, flat_map, refl, sym, ap, ◌∙◌, subst, Contains}
use Rattle.gq_text.specs.declared.place.Span.{Span}
use Rattle.gq_fault.specs.FaultPlaces.{fault_at, fault_over}
use Rattle.gq_fault.specs.declared.code.Code.TheVariants.{DefinedTwice, BadExtension, ReservedName, UnknownType, WrongKindOfType}
use Rattle.gq_fault.specs.declared.fault.Fault.{Fault}
use Rattle.gq_tree.specs.NamedTypes.{named_type}
use Rattle.gq_tree.specs.Plain.{NameOf, DirectiveOf, TypeOf, InputOf, FieldDefinitionOf, BodyOf, TypeSystemOf}
use Rattle.gq_tree.specs.Plain.{named, list_of, non_null, schema, type_definition, directive_definition}
use Rattle.gq_tree.specs.Plain.{place_name, place_type, place_input, place_field, place_enum_value, place_root, place_body, place_type_system, no_place}
use Rattle.gq_types.specs.Entries.{Text, EntryOf}
use Rattle.gq_types.specs.Joined.{kind_named, fields_in_body, interfaces_in_body, members_in_body, values_in_body, inputs_in_body}
use Rattle.gq_types.specs.Kinds.{kind_of}
use Rattle.gq_type_system.specs.declared.uses.Wants.{Wants}
use Rattle.gq_type_system.specs.declared.uses.Wants.TheVariants.{OutputType, ObjectMember, InterfaceType}
use Rattle.gq_type_system.specs.Uses.{field_names, names_in_body, defined_names, UseOf, input_use, field_uses, named_uses, root_use, uses_in_body, used_types}
use Rattle.gq_type_system.specs.DefinedTwice.{defined_by, definition_place, IsDefinedTwice}
use Rattle.gq_type_system.specs.BadExtension.{IsBadExtension}
use Rattle.gq_type_system.specs.ReservedName.{IsReservedName}
use Rattle.gq_type_system.specs.UnknownType.{IsUnknownType}
use Rattle.gq_type_system.specs.WrongKind.{suits, IsWrongKind}
use Rattle.gq_types.proofs.Placing.Alike.{back, seen, contains}
use Rattle.gq_types.proofs.Placing.Lists.{gathered}
use Rattle.gq_laws.proofs.Placing.Judged.{mapped, in_a_row, erase_marked, HasAlike, entries_too, numbered_too, judged_too}
use Rattle.gq_types.proofs.Placing.Entries.{blind, kind_erased, definition_kinds, fields_alike, interfaces_alike, members_alike, values_alike, inputs_alike}

-- the texts of the names that a definition defines
abbrev pub name_text : NameOf Span → Text
name_text n = n.text

input_names : (is js : List (InputOf Span)) → map (place_input no_place) is ≡ map (place_input no_place) js → map name_text (map (λ i. i.name) is) ≡ map name_text (map (λ i. i.name) js)
input_names is js e = mapped (place_input no_place) (λ i. i.name) name_text (λ i j h. ap (λ z. z.name.text) h) is js e

names_of_field : (f g : FieldDefinitionOf Span) → place_field no_place f ≡ place_field no_place g → map name_text (field_names f) ≡ map name_text (field_names g)
names_of_field f g e =
    ap (λ z. z.name.text ∷ map name_text (map (λ i. i.name) f.arguments)) e ∙ ap (λ z. g.name.text ∷ z) (input_names f.arguments g.arguments (ap (λ z. z.arguments) e))

names_of_body : (b c : BodyOf Span) → place_body no_place b ≡ place_body no_place c → map name_text (names_in_body b) ≡ map name_text (names_in_body c)
names_of_body b c e =
    in_a_row name_text (flat_map field_names (fields_in_body b) ++ map (λ v. v.name) (values_in_body b)) (flat_map field_names (fields_in_body c) ++ map (λ v. v.name) (values_in_body c))
    (map (λ i. i.name) (inputs_in_body b)) (map (λ i. i.name) (inputs_in_body c))
    (in_a_row name_text (flat_map field_names (fields_in_body b)) (flat_map field_names (fields_in_body c)) (map (λ v. v.name) (values_in_body b)) (map (λ v. v.name) (values_in_body c))
    (gathered (place_field no_place) name_text field_names names_of_field (fields_in_body b) (fields_in_body c) (fields_alike b c e))
    (mapped (place_enum_value no_place) (λ v. v.name) name_text (λ v w h. ap (λ z. z.name.text) h) (values_in_body b) (values_in_body c) (values_alike b c e)))
    (input_names (inputs_in_body b) (inputs_in_body c) (inputs_alike b c e))

pub names_alike : (d u : TypeSystemOf Span) → place_type_system no_place d ≡ place_type_system no_place u → map name_text (defined_names d) ≡ map name_text (defined_names u)
names_alike (schema a b c d e) (schema a2 b2 c2 d2 e2) h = refl
names_alike (type_definition true a n d b p) (type_definition true a2 n2 d2 b2 p2) h =
    let bodies : place_body no_place b ≡ place_body no_place b2 = cc in
    names_of_body b b2 bodies
names_alike (type_definition false a n d b p) (type_definition false a2 n2 d2 b2 p2) h =
    let names : place_name no_place n ≡ place_name no_place n2 = cc in
    let bodies : place_body no_place b ≡ place_body no_place b2 = cc in
    ap (λ z. z.text ∷ map name_text (names_in_body b)) names ∙ ap (λ z. n2.text ∷ z) (names_of_body b b2 bodies)
names_alike (directive_definition a n is r l p) (directive_definition a2 n2 is2 r2 l2 p2) h =
    let names : place_name no_place n ≡ place_name no_place n2 = cc in
    let inputs : map (place_input no_place) is ≡ map (place_input no_place) is2 = cc in
    ap (λ z. z.text ∷ map name_text (map (λ i. i.name) is)) names ∙ ap (λ z. n2.text ∷ z) (input_names is is2 inputs)
names_alike _ _ h = absurd (cc)

-- the types that a definition uses, by the texts of their names
abbrev pub erase_use : UseOf → Text × Wants
erase_use u = (u.name.text, u.wants)

named_erased : (t : TypeOf Span) → (named_type t).text ≡ (named_type (place_type back (place_type no_place t))).text
named_erased (named name) = refl
named_erased (list_of item) = named_erased item
named_erased (non_null inner) = named_erased inner

named_alike : (t u : TypeOf Span) → place_type no_place t ≡ place_type no_place u → (named_type t).text ≡ (named_type u).text
named_alike t u e = seen (place_type no_place) (place_type back) (λ z. (named_type z).text) named_erased t u e

input_uses : (is js : List (InputOf Span)) → map (place_input no_place) is ≡ map (place_input no_place) js → map erase_use (map input_use is) ≡ map erase_use (map input_use js)
input_uses is js e = mapped (place_input no_place) input_use erase_use (λ i j h. ap (λ z. (z, (input_use j).wants)) (named_alike i.type_ref j.type_ref (ap (λ z. z.type_ref) h))) is js e

uses_of_field : (f g : FieldDefinitionOf Span) → place_field no_place f ≡ place_field no_place g → map erase_use (field_uses f) ≡ map erase_use (field_uses g)
uses_of_field f g e =
    ap (λ z. (z, OutputType) ∷ map erase_use (map input_use f.arguments)) (named_alike f.type_ref g.type_ref (ap (λ z. z.type_ref) e))
    ∙ ap (λ z. ((named_type g.type_ref).text, OutputType) ∷ z) (input_uses f.arguments g.arguments (ap (λ z. z.arguments) e))

uses_of_names : (wants : Wants) (ns ms : List (NameOf Span)) → map (place_name no_place) ns ≡ map (place_name no_place) ms → map erase_use (named_uses wants ns) ≡ map erase_use (named_uses wants ms)
uses_of_names wants ns ms e = mapped (place_name no_place) (λ name. record { name = name; wants = wants }) erase_use (λ n m h. ap (λ z. (z.text, wants)) h) ns ms e

uses_of_body : (b c : BodyOf Span) → place_body no_place b ≡ place_body no_place c → map erase_use (uses_in_body b) ≡ map erase_use (uses_in_body c)
uses_of_body b c e =
    in_a_row erase_use
    (named_uses InterfaceType (interfaces_in_body b) ++ flat_map field_uses (fields_in_body b) ++ named_uses ObjectMember (members_in_body b))
    (named_uses InterfaceType (interfaces_in_body c) ++ flat_map field_uses (fields_in_body c) ++ named_uses ObjectMember (members_in_body c))
    (map input_use (inputs_in_body b)) (map input_use (inputs_in_body c))
    (in_a_row erase_use
    (named_uses InterfaceType (interfaces_in_body b) ++ flat_map field_uses (fields_in_body b)) (named_uses InterfaceType (interfaces_in_body c) ++ flat_map field_uses (fields_in_body c))
    (named_uses ObjectMember (members_in_body b)) (named_uses ObjectMember (members_in_body c))
    (in_a_row erase_use (named_uses InterfaceType (interfaces_in_body b)) (named_uses InterfaceType (interfaces_in_body c))
    (flat_map field_uses (fields_in_body b)) (flat_map field_uses (fields_in_body c))
    (uses_of_names InterfaceType (interfaces_in_body b) (interfaces_in_body c) (interfaces_alike b c e))
    (gathered (place_field no_place) erase_use field_uses uses_of_field (fields_in_body b) (fields_in_body c) (fields_alike b c e)))
    (uses_of_names ObjectMember (members_in_body b) (members_in_body c) (members_alike b c e)))
    (input_uses (inputs_in_body b) (inputs_in_body c) (inputs_alike b c e))

pub uses_alike : (d u : TypeSystemOf Span) → place_type_system no_place d ≡ place_type_system no_place u → map erase_use (used_types d) ≡ map erase_use (used_types u)
uses_alike (schema a b c roots p) (schema a2 b2 c2 roots2 p2) h =
    let those : map (place_root no_place) roots ≡ map (place_root no_place) roots2 = cc in
    mapped (place_root no_place) root_use erase_use (λ r s e. ap (λ z. (z.name.text, (root_use s).wants)) e) roots roots2 those
uses_alike (type_definition x a n d b p) (type_definition x2 a2 n2 d2 b2 p2) h =
    let bodies : place_body no_place b ≡ place_body no_place b2 = cc in
    uses_of_body b b2 bodies
uses_alike (directive_definition a n is r l p) (directive_definition a2 n2 is2 r2 l2 p2) h =
    let inputs : map (place_input no_place) is ≡ map (place_input no_place) is2 = cc in
    input_uses is is2 inputs
uses_alike _ _ h = absurd (cc)

-- what a definition defines
pub defined_erased : (d : TypeSystemOf Span) → defined_by d ≡ defined_by (place_type_system back (place_type_system no_place d))
defined_erased (schema true description directives roots place) = refl
defined_erased (schema false description directives roots place) = refl
defined_erased (type_definition true description name directives body place) = refl
defined_erased (type_definition false description name directives body place) = refl
defined_erased (directive_definition description name arguments repeatable locations place) = refl

-- an extension of a type, and what is equal to it but for places
pub record ExtensionOf (d : TypeSystemOf Span) (text : Text) (body : BodyOf Span) : Type 0 where
  pub description : Option (NameOf Span)
  pub name : NameOf Span
  pub directives : List (DirectiveOf Span)
  pub its_body : BodyOf Span
  pub place : Span
  pub extends : d ≡ type_definition true description name directives its_body place
  pub same_text : text ≡ name.text
  pub same_kind : kind_of body ≡ kind_of its_body

extension_of : (d : TypeSystemOf Span) (a : Option (NameOf Span)) (n : NameOf Span) (ds : List (DirectiveOf Span)) (b : BodyOf Span) (p : Span) →
    place_type_system no_place (type_definition true a n ds b p) ≡ place_type_system no_place d → ExtensionOf d n.text b
extension_of (type_definition true a2 n2 ds2 b2 p2) a n ds b p h =
    let names : place_name no_place n ≡ place_name no_place n2 = cc in
    let bodies : place_body no_place b ≡ place_body no_place b2 = cc in
    record {
      description = a2;
      name = n2;
      directives = ds2;
      its_body = b2;
      place = p2;
      extends = refl;
      same_text = ap (λ z. z.text) names;
      same_kind = seen (place_body no_place) (place_body back) (λ z. kind_of z) kind_erased b b2 bodies;
    }
extension_of _ a n ds b p h = absurd (cc)

module _ {M : Type 0} (mark : ℕ → M) (es us : List EntryOf) (same : map (erase_marked mark) es ≡ map (erase_marked mark) us) where
  -- what a name means
  kinds : (text : Text) → kind_named es text ≡ kind_named us text
  kinds text = definition_kinds es us (entries_too mark es us same) text

  -- what a definition uses, in the definition that is equal but for places
  used_too : (d u : TypeSystemOf Span) → place_type_system no_place d ≡ place_type_system no_place u → (one : UseOf) → Contains (used_types d) one →
      (o : UseOf) × Contains (used_types u) o × (erase_use one ≡ erase_use o)
  used_too d u e one c = contains erase_use (used_types d) (used_types u) (uses_alike d u e) one c

  -- the rules
  pub unknown_type_too : (f : Fault) → IsUnknownType es f → HasAlike mark (IsUnknownType us) f
  unknown_type_too f h =
      let m = judged_too mark es us same h.entry h.is_judged in
      let o = used_too h.entry.entry.definition m.0.entry.definition m.4 h.one h.is_used in (
        fault_at m.0.entry.file UnknownType o.0.name,
        record {
          entry = m.0;
          is_judged = m.1;
          one = o.0;
          is_used = o.1;
          is_unknown = sym (kinds o.0.name.text) ∙ ap (λ z. kind_named es z.0) (sym o.2) ∙ h.is_unknown;
          is = refl;
        },
        m.3 ∙ sym (ap (λ z. mark z.file) h.is),
        sym (ap (λ z. z.code) h.is),
      )

  pub wrong_kind_too : (f : Fault) → IsWrongKind es f → HasAlike mark (IsWrongKind us) f
  wrong_kind_too f h =
      let m = judged_too mark es us same h.entry h.is_judged in
      let o = used_too h.entry.entry.definition m.0.entry.definition m.4 h.one h.is_used in (
        fault_at m.0.entry.file WrongKindOfType o.0.name,
        record {
          entry = m.0;
          is_judged = m.1;
          one = o.0;
          is_used = o.1;
          of_kind = h.of_kind;
          is_known = sym (kinds o.0.name.text) ∙ ap (λ z. kind_named es z.0) (sym o.2) ∙ h.is_known;
          is_wrong = ap (λ z. suits z.1 h.of_kind) (sym o.2) ∙ h.is_wrong;
          is = refl;
        },
        m.3 ∙ sym (ap (λ z. mark z.file) h.is),
        sym (ap (λ z. z.code) h.is),
      )

  pub reserved_name_too : (f : Fault) → IsReservedName es f → HasAlike mark (IsReservedName us) f
  reserved_name_too f h =
      let m = judged_too mark es us same h.entry h.is_judged in
      let o = contains name_text (defined_names h.entry.entry.definition) (defined_names m.0.entry.definition) (names_alike h.entry.entry.definition m.0.entry.definition m.4) h.name h.is_defined in (
        fault_at m.0.entry.file ReservedName o.0,
        record {
          entry = m.0;
          is_judged = m.1;
          name = o.0;
          is_defined = o.1;
          rest = h.rest;
          is_reserved = sym o.2 ∙ h.is_reserved;
          is = refl;
        },
        m.3 ∙ sym (ap (λ z. mark z.file) h.is),
        sym (ap (λ z. z.code) h.is),
      )

  pub bad_extension_too : (f : Fault) → IsBadExtension es f → HasAlike mark (IsBadExtension us) f
  bad_extension_too f h =
      let m = judged_too mark es us same h.entry h.is_judged in
      let x = extension_of m.0.entry.definition h.description h.name h.directives h.body h.place (sym (ap (place_type_system no_place) h.extends) ∙ m.4) in (
        fault_at m.0.entry.file BadExtension x.name,
        record {
          entry = m.0;
          is_judged = m.1;
          description = x.description;
          name = x.name;
          directives = x.directives;
          body = x.its_body;
          place = x.place;
          extends = x.extends;
          is_not_of_that_kind = λ e. h.is_not_of_that_kind (kinds h.name.text ∙ ap (kind_named us) x.same_text ∙ e ∙ ap (λ k. Some k) (sym x.same_kind));
          is = refl;
        },
        m.3 ∙ sym (ap (λ z. mark z.file) h.is),
        sym (ap (λ z. z.code) h.is),
      )

  pub defined_twice_too : (f : Fault) → IsDefinedTwice es f → HasAlike mark (IsDefinedTwice us) f
  defined_twice_too f h =
      let m = judged_too mark es us same h.entry h.is_judged in
      let o = numbered_too mark es us same h.earlier h.stands in (
        fault_over m.0.entry.file DefinedTwice (definition_place m.0.entry.definition),
        record {
          entry = m.0;
          is_judged = m.1;
          what = h.what;
          defines = sym (blind defined_by defined_erased h.entry.entry m.0.entry m.4) ∙ h.defines;
          earlier = o.0;
          stands = o.1;
          is_earlier = subst (λ k. k < m.0.number) (sym o.2) (subst (λ k. h.earlier.number < k) (sym m.2) h.is_earlier);
          defines_the_same = sym (blind defined_by defined_erased h.earlier.entry o.0.entry o.4) ∙ h.defines_the_same;
          is = refl;
        },
        m.3 ∙ sym (ap (λ z. mark z.file) h.is),
        sym (ap (λ z. z.code) h.is),
      )
