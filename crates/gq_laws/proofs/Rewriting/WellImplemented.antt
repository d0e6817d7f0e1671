-- How types implement the interfaces that they declare, where nothing is wrong with a type system (sections 3.6.1 and 3.7).
use Rattle.std.proofs.Common.{◌≡◌, ◌⊎◌, ℕ, inl, inr, Bool, true, false, List, Option, Some, None, refl, sym, ap, ◌∙◌, subst, is_some}
use Rattle.std.specs.Prelude.{bytes_eq, slice_get, if◌then◌else◌}
use Rattle.std.specs.List.{list_any}
use Rattle.std.specs.Option.{option_map, option_map_or}
use Rattle.std.specs.Cmp.Lexicographic.{bytes_decides}
use Rattle.std.proofs.lemmas.Option.{same_Some}
use Rattle.gq_text.specs.declared.place.Span.{Span}
use Rattle.gq_fault.specs.declared.code.Code.TheVariants.{BadImplementation}
use Rattle.gq_fault.specs.declared.fault.Fault.{Fault}
use Rattle.gq_tree.specs.Plain.{NameOf, DirectiveOf, TypeOf, InputOf, FieldDefinitionOf, BodyOf, scalar_type, object_type, interface_type, union_type, enum_type, input_type, TypeSystemOf, schema, type_definition, directive_definition, named, list_of, non_null, place_type, no_place}
use Rattle.gq_tree.specs.NamedTypes.{base_name}
use Rattle.gq_tree.specs.Same.{same_types}
use Rattle.gq_tree.proofs.Sameness.{types_decide}
use Rattle.gq_types.specs.declared.entry.TypeKind.{TypeKind}
use Rattle.gq_types.specs.declared.entry.TypeKind.TheVariants as kind
use Rattle.gq_types.specs.BuiltIn.{defines_built_in}
use Rattle.gq_types.specs.Entries.{Text, EntryOf}
use Rattle.gq_types.specs.Joined.{is_type_named, kind_in, kind_named, type_number, interfaces_of}
use Rattle.gq_types.specs.Kinds.{kind_of, is_composite}
use Rattle.gq_types.specs.LookUps.{field_in, declares_in}
use Rattle.gq_types.specs.Names.{field_named, declares, argument_named}
use Rattle.gq_types.specs.Possible.{IsPossible, itself, member, declaring, IsSubtypeName, equal, Covers, by_name, by_items, both_non_null, without_null, IsSubtype}
use Rattle.gq_types.specs.Required.{is_required}
use Rattle.gq_types.specs.Subtypes.{MayBeSubtypeName, unknown_sub, unknown_super, subtype}
use Rattle.gq_types.specs.SubtypesTests.{covers, may_be_subtype_name}
use Rattle.gq_types.proofs.NameLaws.{numbers_define, types_have}
use Rattle.gq_types.proofs.PartLemmas.{numbered_has}
use Rattle.gq_types.proofs.SubtypeLemmas.{covers_decides, may_be_subtype_name_decides}
use Rattle.gq_document.specs.Selections.{FieldOf, typename, typename_field, is_composite_named, field_on}
use Rattle.gq_fault.specs.FaultPlaces.{fault_at}
use Rattle.gq_type_system.specs.Implementations.{Inherits, BreaksField, has_no_subtype, lacks_argument, has_other_type, requires_argument, BreaksImplementation, declares_itself, lacks_interface, lacks_field, breaks_field, IsBadImplementation}
use Rattle.gq_type_system.specs.UnknownType.{IsUnknownType}
use Rattle.gq_laws.specs.Rewriting.Implementations.{HasArgument, ImplementsField, HasField, MayImplement, Implements, ImplementsWell, AllImplementWell, HasSubtypeField, HaveSubtypeFields}
use Rattle.gq_laws.proofs.Rewriting.FieldLemmas.{named_by_number, has_fields}
use Rattle.gq_laws.proofs.Rewriting.SubtypeLemmas.{object_kind, field_by}
use Rattle.gq_laws.proofs.Rewriting.TypeLemmas.{is_judged, type_is_known}

-- where an object type or an interface is defined
record DefinesType (es : List EntryOf) (text : Text) : Type 0 where
  number : ℕ
  means : type_number es text ≡ Some number
  entry : EntryOf
  stands : slice_get es number ≡ Some entry
  description : Option (NameOf Span)
  name : NameOf Span
  is_called : text ≡ name.text
  directives : List (DirectiveOf Span)
  body : BodyOf Span
  place : Span
  defines : entry.definition ≡ type_definition false description name directives body place
  has_kind : kind_named es text ≡ Some (kind_of body)

defines_type : (es : List EntryOf) (text : Text) (k : TypeKind) → kind_named es text ≡ Some k → DefinesType es text
defines_type es text k known = by_number (type_number es text) refl
  where
    by_definition : (number : ℕ) → type_number es text ≡ Some number → (entry : EntryOf) → slice_get es number ≡ Some entry → (d : TypeSystemOf Span) → entry.definition ≡ d → is_type_named text d ≡ true → kind_named es text ≡ kind_in d → DefinesType es text
    by_definition number means entry stands (schema extends description directives roots place) is called of_kind = absurd (cc)
    by_definition number means entry stands (type_definition true description name directives body place) is called of_kind = absurd (cc)
    by_definition number means entry stands (type_definition false description name directives body place) is called of_kind = record {
      number = number;
      means = means;
      entry = entry;
      stands = stands;
      description = description;
      name = name;
      is_called = (bytes_decides text name.text).0 called;
      directives = directives;
      body = body;
      place = place;
      defines = is;
      has_kind = of_kind;
    }
    by_definition number means entry stands (directive_definition description name arguments repeatable locations place) is called of_kind = absurd (cc)

    by_number : (o : Option ℕ) → type_number es text ≡ o → DefinesType es text
    by_number None e =
        let none : is_some (kind_named es text) ≡ false = sym (types_have es text) ∙ ap (λ (p : Option ℕ). is_some p) e in
        let some : is_some (kind_named es text) ≡ true = ap is_some known in
        absurd (cc)
    by_number (Some number) e =
        let d = numbers_define es text number e in
        by_definition number e d.entry d.stands d.entry.definition refl d.is_named d.has_kind

-- relations of names that are known
known_covers : (es : List EntryOf) {sub super : TypeOf Span} {j k : TypeKind} → kind_named es (base_name sub) ≡ Some j → kind_named es (base_name super) ≡ Some k → Covers (MayBeSubtypeName es) sub super → IsSubtype es sub super
known_covers es e f (by_name r) = by_name (by_relation r e f)
  where
    by_relation : {a b : Text} {j k : TypeKind} → MayBeSubtypeName es a b → kind_named es a ≡ Some j → kind_named es b ≡ Some k → IsSubtypeName es a b
    by_relation (unknown_sub u) e f = absurd (cc)
    by_relation (unknown_super u) e f = absurd (cc)
    by_relation (subtype s) e f = s
known_covers es e f (by_items c) = by_items (known_covers es e f c)
known_covers es e f (both_non_null c) = both_non_null (known_covers es e f c)
known_covers es e f (without_null c) = without_null (known_covers es e f c)

-- each type is a subtype of itself
itself_covers : (es : List EntryOf) (t : TypeOf Span) → IsSubtype es t t
itself_covers es (named name) = by_name equal
itself_covers es (list_of item) = by_items (itself_covers es item)
itself_covers es (non_null inner) = both_non_null (itself_covers es inner)

-- a field as an interface wants it, where it does not break what is wanted
module _ (es : List EntryOf) (wanted own : FieldDefinitionOf Span) (keeps : BreaksField es wanted own → ⊥) where
  has_argument : (text : Text) (argument : InputOf Span) → argument_named wanted.arguments text ≡ Some argument → HasArgument own.arguments text argument
  has_argument text argument e = by_argument (argument_named own.arguments text) refl
    where
      by_type : (other : InputOf Span) → argument_named own.arguments text ≡ Some other → (t : Bool) → same_types argument.type_ref other.type_ref ≡ t → HasArgument own.arguments text argument
      by_type other f true same = record { argument = other; is_defined = f; one_type = sym ((types_decide argument.type_ref other.type_ref).0 same) }
      by_type other f false same = absurd (keeps (has_other_type text argument other e f (λ one. let yes = (types_decide argument.type_ref other.type_ref).1 one in cc)))

      by_argument : (o : Option (InputOf Span)) → argument_named own.arguments text ≡ o → HasArgument own.arguments text argument
      by_argument None f = absurd (keeps (lacks_argument text argument e f))
      by_argument (Some other) f = by_type other f (same_types argument.type_ref other.type_ref) refl

  requires_no_other : (text : Text) (argument : InputOf Span) → argument_named own.arguments text ≡ Some argument → argument_named wanted.arguments text ≡ None → is_required argument ≡ false
  requires_no_other text argument e f = by_test (is_required argument) refl
    where
      by_test : (t : Bool) → is_required argument ≡ t → is_required argument ≡ false
      by_test true r = absurd (keeps (requires_argument text argument e r f))
      by_test false r = r

  may_cover : Covers (MayBeSubtypeName es) own.type_ref wanted.type_ref
  may_cover = by_test (covers (may_be_subtype_name es) own.type_ref wanted.type_ref) refl
    where
      decides : (covers (may_be_subtype_name es) own.type_ref wanted.type_ref ≡ true → Covers (MayBeSubtypeName es) own.type_ref wanted.type_ref) × (Covers (MayBeSubtypeName es) own.type_ref wanted.type_ref → covers (may_be_subtype_name es) own.type_ref wanted.type_ref ≡ true)
      decides = let d = covers_decides (may_be_subtype_name es) (MayBeSubtypeName es) (may_be_subtype_name_decides es) own.type_ref wanted.type_ref in (d.0, d.1)

      by_test : (t : Bool) → covers (may_be_subtype_name es) own.type_ref wanted.type_ref ≡ t → Covers (MayBeSubtypeName es) own.type_ref wanted.type_ref
      by_test true c = decides.0 c
      by_test false c = absurd (keeps (has_no_subtype (λ covered. let yes = decides.1 covered in cc)))

module _ (es : List EntryOf) (no_bad : (fault : Fault) → IsBadImplementation es fault → ⊥) (no_unknown : (fault : Fault) → IsUnknownType es fault → ⊥) where
  -- a type that is defined does not break its implementations
  module _ (type_name : Text) (may : MayImplement es type_name) (d : DefinesType es type_name) where
    implements_well : BreaksImplementation es d.number d.name.text → ⊥
    implements_well breaks = no_bad (fault_at d.entry.file BadImplementation d.name) (record {
      at = record { number = d.number; entry = d.entry };
      is_judged = is_judged es (record { number = d.number; entry = d.entry }) (numbered_has es d.number d.entry d.stands) (by_body d.body d.defines d.has_kind);
      description = d.description;
      name = d.name;
      directives = d.directives;
      body = d.body;
      place = d.place;
      defines = d.defines;
      implements = by_kind may;
      breaks = breaks;
      is = refl;
    })
      where
        by_kind : MayImplement es type_name → (kind_of d.body ≡ kind.Object) ⊎ (kind_of d.body ≡ kind.Interface)
        by_kind (inl e) = inl (same_Some (kind_of d.body) kind.Object (sym d.has_kind ∙ e))
        by_kind (inr e) = inr (same_Some (kind_of d.body) kind.Interface (sym d.has_kind ∙ e))

        is_scalar : kind_named es type_name ≡ Some kind.Scalar → MayImplement es type_name → ⊥
        is_scalar e (inl f) = cc
        is_scalar e (inr f) = cc

        by_body : (body : BodyOf Span) → d.entry.definition ≡ type_definition false d.description d.name d.directives body d.place → kind_named es type_name ≡ Some (kind_of body) → defines_built_in d.entry.definition ≡ false
        by_body scalar_type e k = absurd (is_scalar k may)
        by_body (object_type interfaces fields) e k = ap defines_built_in e
        by_body (interface_type interfaces fields) e k = ap defines_built_in e
        by_body (union_type members) e k = ap defines_built_in e
        by_body (enum_type values) e k = ap defines_built_in e
        by_body (input_type fields) e k = ap defines_built_in e

    declares_by : (text : Text) → declares es type_name text ≡ declares_in es d.number text
    declares_by text = ap (λ (o : Option ℕ). option_map_or (λ (k : ℕ). list_any (λ i. bytes_eq text i.it.text) (interfaces_of es k)) o false) d.means

    module _ (interface : Text) (is_interface : kind_named es interface ≡ Some kind.Interface) (declared : declares es type_name interface ≡ true) where
      declared_in : declares_in es d.number interface ≡ true
      declared_in = sym (declares_by interface) ∙ declared

      is_other : type_name ≡ interface → ⊥
      is_other same = implements_well (declares_itself (ap (declares_in es d.number) (sym d.is_called ∙ same) ∙ declared_in))

      further : (other : Text) → declares es interface other ≡ true → kind_named es other ≡ Some kind.Interface → declares es type_name other ≡ true
      further other also k = by_test (declares_in es d.number other) refl
        where
          by_test : (t : Bool) → declares_in es d.number other ≡ t → declares es type_name other ≡ true
          by_test true e = declares_by other ∙ e
          by_test false e = absurd (implements_well (lacks_interface interface other (declared_in, is_interface) also k e))

      has_field : (text : Text) (wanted : FieldDefinitionOf Span) → field_named es interface text ≡ Some wanted → HasField es type_name text wanted
      has_field text wanted has = by_field (field_in es d.number text) refl
        where
          inherits : Inherits es d.number text wanted
          inherits = record { interface = interface; implements = (declared_in, is_interface); has = has }

          by_field : (o : Option (FieldDefinitionOf Span)) → field_in es d.number text ≡ o → HasField es type_name text wanted
          by_field None e = absurd (implements_well (lacks_field text wanted inherits e))
          by_field (Some own) e =
              let keeps : BreaksField es wanted own → ⊥ = λ breaks. implements_well (breaks_field text wanted own inherits e breaks) in
              let is_defined : field_named es type_name text ≡ Some own = named_by_number es type_name text d.number d.means ∙ e in
              let known = type_is_known es no_unknown type_name text own is_defined in
              let known' = type_is_known es no_unknown interface text wanted has in
              record {
                own = own;
                is_defined = is_defined;
                implements = record {
                  is_subtype = known_covers es known.1 known'.1 (may_cover es wanted own keeps);
                  has_arguments = has_argument es wanted own keeps;
                  requires_no_other = requires_no_other es wanted own keeps;
                };
              }

      well : ImplementsWell es type_name interface
      well = record { is_other = is_other; further = further; fields = has_field }

  its_definition : (type_name : Text) → MayImplement es type_name → DefinesType es type_name
  its_definition type_name (inl e) = defines_type es type_name kind.Object e
  its_definition type_name (inr e) = defines_type es type_name kind.Interface e

  pub all_implement_well : AllImplementWell es
  all_implement_well type_name interface i = well type_name i.may (its_definition type_name i.may) interface i.is_interface i.declared

  -- what an object has of the types for which it is possible
  record HasNamed (object text : Text) (wanted : FieldDefinitionOf Span) : Type 0 where
    own : FieldDefinitionOf Span
    is_defined : field_named es object text ≡ Some own
    is_subtype : IsSubtype es own.type_ref wanted.type_ref

  has_named : (type_name object text : Text) (f : FieldDefinitionOf Span) → IsPossible es type_name object → field_named es type_name text ≡ Some f → HasNamed object text f
  has_named type_name object text f (itself k) e = record { own = f; is_defined = e; is_subtype = itself_covers es f.type_ref }
  has_named type_name object text f (member u h k) e = absurd (elim (has_fields es type_name text f e) [
    | inl is ↦ cc
    | inr is ↦ cc
  ])
  has_named type_name object text f (declaring i h k) e =
      let own = (all_implement_well object type_name (record { may = inl k; is_interface = i; declared = h })).fields text f e in
      record { own = own.own; is_defined = own.is_defined; is_subtype = own.implements.is_subtype }

  named_field : (wanted : FieldOf) (o : Option (FieldDefinitionOf Span)) → option_map (λ f. record { type_ref = f.type_ref; arguments = f.arguments }) o ≡ Some wanted → (f : FieldDefinitionOf Span) × (o ≡ Some f) × (f.type_ref ≡ wanted.type_ref)
  named_field wanted None h = absurd (cc)
  named_field wanted (Some f) h = (f, refl, ap (λ (g : FieldOf). g.type_ref) (same_Some (record { type_ref = f.type_ref; arguments = f.arguments }) wanted h))

  typename_is : (wanted : FieldOf) (b : Bool) → (if b then Some typename_field else None) ≡ Some wanted → typename_field ≡ wanted
  typename_is wanted true h = same_Some typename_field wanted h
  typename_is wanted false h = absurd (cc)

  subtype_field : (type_name object text : Text) (wanted : FieldOf) → IsPossible es type_name object → (b : Bool) → bytes_eq text typename ≡ b → field_by es b type_name text ≡ Some wanted → HasSubtypeField es object text wanted
  subtype_field type_name object text wanted p true e h =
      let composite : is_composite_named es object ≡ true = ap (λ (o : Option TypeKind). option_map_or is_composite o false) (object_kind p) in
      record {
        own = typename_field;
        is_defined = ap (λ (b : Bool). field_by es b object text) e ∙ ap (λ (b : Bool). if b then Some typename_field else None) composite;
        is_subtype = subst (λ (f : FieldOf). IsSubtype es typename_field.type_ref f.type_ref) (typename_is wanted (is_composite_named es type_name) h) (itself_covers es typename_field.type_ref);
      }
  subtype_field type_name object text wanted p false e h =
      let f = named_field wanted (field_named es type_name text) h in
      let own = has_named type_name object text f.0 p f.1 in
      record {
        own = record { type_ref = own.own.type_ref; arguments = own.own.arguments };
        is_defined = ap (λ (b : Bool). field_by es b object text) e ∙ ap (λ (o : Option (FieldDefinitionOf Span)). option_map (λ g. let one : FieldOf = record { type_ref = g.type_ref; arguments = g.arguments } in one) o) own.is_defined;
        is_subtype = subst (λ (t : TypeOf Span). IsSubtype es own.own.type_ref t) f.2 own.is_subtype;
      }

  pub have_subtype_fields : HaveSubtypeFields es
  have_subtype_fields type_name object text wanted p h = subtype_field type_name object text wanted p (bytes_eq text typename) refl h
