-- What an object type has of the interfaces that it declares, where no implementation is wrong (sections 3.6 and 3.7).
use Rattle.std.proofs.Common.{◌≡◌, ℕ, inl, Bool, true, false, List, Option, Some, None, refl, sym, ap, ◌∙◌, is_some}
use Rattle.std.specs.Prelude.{slice_get}
use Rattle.std.specs.List.{list_any}
use Rattle.std.specs.Option.{option_map_or}
use Rattle.std.specs.Str.{bytes_eq}
use Rattle.gq_text.specs.declared.place.Span.{Span}
use Rattle.gq_fault.specs.declared.code.Code.TheVariants.{BadImplementation}
use Rattle.gq_fault.specs.declared.fault.Fault.{Fault}
use Rattle.gq_tree.specs.Plain.{NameOf, DirectiveOf, TypeOf, FieldDefinitionOf, scalar_type, object_type, interface_type, union_type, enum_type, input_type, TypeSystemOf, schema, type_definition, directive_definition}
use Rattle.gq_types.specs.declared.entry.TypeKind.TheVariants as kind
use Rattle.gq_types.specs.BuiltIn.{defines_built_in}
use Rattle.gq_types.specs.Entries.{Text, EntryOf}
use Rattle.gq_types.specs.Joined.{is_type_named, kind_in, kind_named, type_number, interfaces_of}
use Rattle.gq_types.specs.LookUps.{field_in, declares_in}
use Rattle.gq_types.specs.Names.{field_named, declares}
use Rattle.gq_types.specs.Possible.{Covers, by_name, by_items, both_non_null, without_null}
use Rattle.gq_types.specs.Subtypes.{MayBeSubtypeName}
use Rattle.gq_types.specs.SubtypesTests.{covers, may_be_subtype_name}
use Rattle.gq_types.proofs.NameLaws.{numbers_define, types_have}
use Rattle.gq_types.proofs.PartLemmas.{numbered_has}
use Rattle.gq_types.proofs.SubtypeLemmas.{covers_decides, may_be_subtype_name_decides}
use Rattle.gq_tree.specs.NamedTypes.{base_name}
use Rattle.gq_fault.specs.FaultPlaces.{fault_at}
use Rattle.gq_type_system.specs.Implementations.{Inherits, has_no_subtype, BreaksImplementation, lacks_interface, lacks_field, breaks_field, IsBadImplementation}
use Rattle.gq_laws.proofs.Rewriting.FieldLemmas.{named_by_number}
use Rattle.gq_laws.proofs.Rewriting.TypeLemmas.{is_judged}

-- where an object type is defined
pub record DefinesObject (es : List EntryOf) (text : Text) : Type 0 where
  pub number : ℕ
  pub means : type_number es text ≡ Some number
  pub entry : EntryOf
  pub stands : slice_get es number ≡ Some entry
  pub description : Option (NameOf Span)
  pub name : NameOf Span
  pub directives : List (DirectiveOf Span)
  pub interfaces : List (NameOf Span)
  pub fields : List (FieldDefinitionOf Span)
  pub place : Span
  pub defines : entry.definition ≡ type_definition false description name directives (object_type interfaces fields) place

pub defines_object : (es : List EntryOf) (text : Text) → kind_named es text ≡ Some kind.Object → DefinesObject es text
defines_object es text k = by_number (type_number es text) refl
  where
    by_definition : (number : ℕ) → type_number es text ≡ Some number → (entry : EntryOf) → slice_get es number ≡ Some entry → (d : TypeSystemOf Span) → entry.definition ≡ d → is_type_named text d ≡ true → kind_in d ≡ Some kind.Object → DefinesObject es text
    by_definition number means entry stands (schema extends description directives roots place) is called of_kind = absurd (cc)
    by_definition number means entry stands (type_definition true description name directives body place) is called of_kind = absurd (cc)
    by_definition number means entry stands (type_definition false description name directives scalar_type place) is called of_kind = absurd (cc)
    by_definition number means entry stands (type_definition false description name directives (object_type interfaces fields) place) is called of_kind = record {
      number = number;
      means = means;
      entry = entry;
      stands = stands;
      description = description;
      name = name;
      directives = directives;
      interfaces = interfaces;
      fields = fields;
      place = place;
      defines = is;
    }
    by_definition number means entry stands (type_definition false description name directives (interface_type interfaces fields) place) is called of_kind = absurd (cc)
    by_definition number means entry stands (type_definition false description name directives (union_type members) place) is called of_kind = absurd (cc)
    by_definition number means entry stands (type_definition false description name directives (enum_type values) place) is called of_kind = absurd (cc)
    by_definition number means entry stands (type_definition false description name directives (input_type fields) place) is called of_kind = absurd (cc)
    by_definition number means entry stands (directive_definition description name arguments repeatable locations place) is called of_kind = absurd (cc)

    by_number : (o : Option ℕ) → type_number es text ≡ o → DefinesObject es text
    by_number None e =
        let none : is_some (kind_named es text) ≡ false = sym (types_have es text) ∙ ap (λ (p : Option ℕ). is_some p) e in
        let some : is_some (kind_named es text) ≡ true = ap is_some k in
        absurd (cc)
    by_number (Some number) e =
        let d = numbers_define es text number e in
        by_definition number e d.entry d.stands d.entry.definition refl d.is_named (sym d.has_kind ∙ k)

-- what covers a type has at its end what relates to the name at the type's end
pub covers_end : {relate : Text → Text → Type 0} {sub super : TypeOf Span} → Covers relate sub super → relate (base_name sub) (base_name super)
covers_end (by_name r) = r
covers_end (by_items c) = covers_end c
covers_end (both_non_null c) = covers_end c
covers_end (without_null c) = covers_end c

module _ (es : List EntryOf) (no_bad : (fault : Fault) → IsBadImplementation es fault → ⊥) (object : Text) (d : DefinesObject es object) where
  implements_well : BreaksImplementation es d.number d.name.text → ⊥
  implements_well breaks = no_bad (fault_at d.entry.file BadImplementation d.name) (record {
    at = record { number = d.number; entry = d.entry };
    is_judged = is_judged es (record { number = d.number; entry = d.entry }) (numbered_has es d.number d.entry d.stands) (ap defines_built_in d.defines);
    description = d.description;
    name = d.name;
    directives = d.directives;
    body = object_type d.interfaces d.fields;
    place = d.place;
    defines = d.defines;
    implements = inl refl;
    breaks = breaks;
    is = refl;
  })

  -- what it declares, it declares under its number
  from_declared : (text : Text) → declares es object text ≡ true → declares_in es d.number text ≡ true
  from_declared text h = sym (ap (λ (o : Option ℕ). option_map_or (λ (k : ℕ). list_any (λ i. bytes_eq text i.it.text) (interfaces_of es k)) o false) d.means) ∙ h

  to_declared : (text : Text) → declares_in es d.number text ≡ true → declares es object text ≡ true
  to_declared text h = ap (λ (o : Option ℕ). option_map_or (λ (k : ℕ). list_any (λ i. bytes_eq text i.it.text) (interfaces_of es k)) o false) d.means ∙ h

  -- an object type declares what its interfaces declare
  pub declares_further : (interface further : Text) → declares es object interface ≡ true → kind_named es interface ≡ Some kind.Interface → declares es interface further ≡ true → kind_named es further ≡ Some kind.Interface → declares es object further ≡ true
  declares_further interface further own k also l = by_test (declares_in es d.number further) refl
    where
      by_test : (b : Bool) → declares_in es d.number further ≡ b → declares es object further ≡ true
      by_test true e = to_declared further e
      by_test false e = absurd (implements_well (lacks_interface interface further (from_declared interface own, k) also l e))

  -- a field of an interface, as the object type has it
  pub record InheritsField (wanted : FieldDefinitionOf Span) (text : Text) : Type 0 where
    pub field : FieldDefinitionOf Span
    pub is_defined : field_named es object text ≡ Some field
    pub is_subtype : MayBeSubtypeName es (base_name field.type_ref) (base_name wanted.type_ref)

  pub inherits_field : (interface text : Text) (wanted : FieldDefinitionOf Span) → declares es object interface ≡ true → kind_named es interface ≡ Some kind.Interface → field_named es interface text ≡ Some wanted → InheritsField wanted text
  inherits_field interface text wanted own k has = by_field (field_in es d.number text) refl
    where
      inherits : Inherits es d.number text wanted
      inherits = record { interface = interface; implements = (from_declared interface own, k); has = has }

      by_test : (f : FieldDefinitionOf Span) → field_in es d.number text ≡ Some f → (b : Bool) → covers (may_be_subtype_name es) f.type_ref wanted.type_ref ≡ b → InheritsField wanted text
      by_test f e true c = record {
        field = f;
        is_defined = named_by_number es object text d.number d.means ∙ e;
        is_subtype = covers_end ((covers_decides (may_be_subtype_name es) (MayBeSubtypeName es) (may_be_subtype_name_decides es) f.type_ref wanted.type_ref).0 c);
      }
      by_test f e false c = absurd (implements_well (breaks_field text wanted f inherits e (has_no_subtype (λ covered.
          let yes = (covers_decides (may_be_subtype_name es) (MayBeSubtypeName es) (may_be_subtype_name_decides es) f.type_ref wanted.type_ref).1 covered in
          cc))))

      by_field : (o : Option (FieldDefinitionOf Span)) → field_in es d.number text ≡ o → InheritsField wanted text
      by_field None e = absurd (implements_well (lacks_field text wanted inherits e))
      by_field (Some f) e = by_test f e (covers (may_be_subtype_name es) f.type_ref wanted.type_ref) refl
