-- What an object has where it is possible for another type, over any type system with which nothing is wrong (sections 3.6 to 3.8).
use Rattle.std.proofs.Common.{◌≡◌, inl, inr, Bool, true, false, List, Option, Some, None, refl, ap, ◌∙◌, subst}
use Rattle.std.specs.Prelude.{codes, bytes_eq, if◌then◌else◌}
use Rattle.std.specs.Option.{option_map, option_map_or}
use Rattle.std.proofs.lemmas.Option.{same_Some}
use Rattle.gq_text.specs.declared.place.Span.{Span}
use Rattle.gq_fault.specs.declared.fault.Fault.{Fault}
use Rattle.gq_tree.specs.Plain.{FieldDefinitionOf}
use Rattle.gq_types.specs.declared.entry.TypeKind.{TypeKind}
use Rattle.gq_types.specs.declared.entry.TypeKind.TheVariants as kind
use Rattle.gq_types.specs.Entries.{Text, EntryOf}
use Rattle.gq_types.specs.Joined.{kind_named}
use Rattle.gq_types.specs.Kinds.{is_composite}
use Rattle.gq_types.specs.Names.{field_named, declares}
use Rattle.gq_types.specs.Possible.{IsPossible, itself, member, declaring, IsSubtypeName, equal, possible, interface}
use Rattle.gq_types.specs.Subtypes.{MayBeSubtypeName, unknown_sub, unknown_super, subtype}
use Rattle.gq_types.specs.SubtypesTests.{is_possible}
use Rattle.gq_types.proofs.SubtypeLemmas.{possible_decides}
use Rattle.gq_document.specs.Selections.{FieldOf, typename, typename_field, is_composite_named}
use Rattle.gq_tree.specs.NamedTypes.{base_name}
use Rattle.gq_type_system.specs.Implementations.{IsBadImplementation}
use Rattle.gq_type_system.specs.UnknownType.{IsUnknownType}
use Rattle.gq_laws.specs.Rewriting.Subtypes.{HasFewerObjects, HasSubfield, HasSubfields}
use Rattle.gq_laws.proofs.Rewriting.FieldLemmas.{has_fields}
use Rattle.gq_laws.proofs.Rewriting.TypeLemmas.{type_is_known}
use Rattle.gq_laws.proofs.Rewriting.ImplementationLemmas.{defines_object, declares_further, inherits_field}

-- what is possible, by kinds
pub object_kind : {es : List EntryOf} {type_name object : Text} → IsPossible es type_name object → kind_named es object ≡ Some kind.Object
object_kind (itself k) = k
object_kind (member u h k) = k
object_kind (declaring i h k) = k

is_known : {es : List EntryOf} {type_name object : Text} → IsPossible es type_name object → kind_named es type_name ≡ None → ⊥
is_known (itself k) none = cc
is_known (member u h k) none = cc
is_known (declaring i h k) none = cc

only_itself : {es : List EntryOf} {type_name object : Text} → IsPossible es type_name object → kind_named es type_name ≡ Some kind.Object → type_name ≡ object
only_itself (itself k) is_object = refl
only_itself (member u h k) is_object = absurd (cc)
only_itself (declaring i h k) is_object = absurd (cc)

declared_by : {es : List EntryOf} {type_name object : Text} → IsPossible es type_name object → kind_named es type_name ≡ Some kind.Interface → declares es object type_name ≡ true
declared_by (itself k) is_interface = absurd (cc)
declared_by (member u h k) is_interface = absurd (cc)
declared_by (declaring i h k) is_interface = h

-- the field of that name of a type, `__typename` or another one
abbrev pub field_by : List EntryOf → (is_typename : Bool) → (type_name text : Text) → Option FieldOf
field_by es b type_name text =
    if b
    then (if is_composite_named es type_name then Some typename_field else None)
    else option_map (λ f. record { type_ref = f.type_ref; arguments = f.arguments }) (field_named es type_name text)

-- a field that is found, and the name at the end of its type
typename_end : (c : Text) (b : Bool) → option_map (λ (f : FieldOf). base_name f.type_ref) (if b then Some typename_field else None) ≡ Some c → codes "String" ≡ c
typename_end c true h = same_Some (codes "String") c h
typename_end c false h = absurd (cc)

named_end : (c : Text) (o : Option (FieldDefinitionOf Span)) → option_map (λ (f : FieldOf). base_name f.type_ref) (option_map (λ f. record { type_ref = f.type_ref; arguments = f.arguments }) o) ≡ Some c → (f : FieldDefinitionOf Span) × (o ≡ Some f) × (base_name f.type_ref ≡ c)
named_end c None h = absurd (cc)
named_end c (Some f) h = (f, refl, same_Some (base_name f.type_ref) c h)

module _ (es : List EntryOf) (no_bad : (fault : Fault) → IsBadImplementation es fault → ⊥) where
  further_possible : (sub super object : Text) → IsSubtypeName es sub super → IsPossible es sub object → IsPossible es super object
  further_possible sub super object equal p = p
  further_possible sub super object (possible q) p = subst (λ t. IsPossible es super t) (only_itself p (object_kind q)) q
  further_possible sub super object (interface k l d) p =
      let o = defines_object es object (object_kind p) in
      declaring l (declares_further es no_bad object o sub super (declared_by p k) k d l) (object_kind p)

  pub fewer_objects : HasFewerObjects es
  fewer_objects sub super object s h = (possible_decides es super object).1 (further_possible sub super object s ((possible_decides es sub object).0 h))

  -- also where a name may be unknown
  may_be_fewer : (sub super object : Text) (k : TypeKind) → kind_named es super ≡ Some k → MayBeSubtypeName es sub super → is_possible es sub object ≡ true → is_possible es super object ≡ true
  may_be_fewer sub super object k known (unknown_sub e) h = absurd (is_known ((possible_decides es sub object).0 h) e)
  may_be_fewer sub super object k known (unknown_super e) h = absurd (cc)
  may_be_fewer sub super object k known (subtype s) h = fewer_objects sub super object s h

  module _ (no_unknown : (fault : Fault) → IsUnknownType es fault → ⊥) where
    -- the field that the object has
    record HasNamed (object text super : Text) : Type 0 where
      field : FieldDefinitionOf Span
      is_defined : field_named es object text ≡ Some field
      fewer : (other : Text) → is_possible es (base_name field.type_ref) other ≡ true → is_possible es super other ≡ true

    has_named : (type_name object text : Text) (f : FieldDefinitionOf Span) → IsPossible es type_name object → field_named es type_name text ≡ Some f → HasNamed object text (base_name f.type_ref)
    has_named type_name object text f (itself k) e = record { field = f; is_defined = e; fewer = λ other h. h }
    has_named type_name object text f (member u h k) e = absurd (elim (has_fields es type_name text f e) [
      | inl is ↦ cc
      | inr is ↦ cc
    ])
    has_named type_name object text f (declaring i h k) e =
        let known = type_is_known es no_unknown type_name text f e in
        let own = inherits_field es no_bad object (defines_object es object k) type_name text f h i e in
        record { field = own.field; is_defined = own.is_defined; fewer = λ other p. may_be_fewer (base_name own.field.type_ref) (base_name f.type_ref) other known.0 known.1 own.is_subtype p }

    has_subfield : (type_name object text super : Text) → IsPossible es type_name object → (b : Bool) → bytes_eq text typename ≡ b → option_map (λ (f : FieldOf). base_name f.type_ref) (field_by es b type_name text) ≡ Some super → HasSubfield es object text super
    has_subfield type_name object text super p true e h =
        let same = typename_end super (is_composite_named es type_name) h in
        let composite : is_composite_named es object ≡ true = ap (λ (o : Option TypeKind). option_map_or is_composite o false) (object_kind p) in
        record {
          definition = typename_field;
          is_defined = ap (λ (b : Bool). field_by es b object text) e ∙ ap (λ (b : Bool). if b then Some typename_field else None) composite;
          possible = λ other q. subst (λ t. is_possible es t other ≡ true) same q;
        }
    has_subfield type_name object text super p false e h =
        let f = named_end super (field_named es type_name text) h in
        let own = has_named type_name object text f.0 p f.1 in
        record {
          definition = record { type_ref = own.field.type_ref; arguments = own.field.arguments };
          is_defined = ap (λ (b : Bool). field_by es b object text) e ∙ ap (λ (o : Option (FieldDefinitionOf Span)). option_map (λ g. let one : FieldOf = record { type_ref = g.type_ref; arguments = g.arguments } in one) o) own.is_defined;
          possible = λ other q. subst (λ t. is_possible es t other ≡ true) f.2 (own.fewer other q);
        }

    pub has_subfields : HasSubfields es
    has_subfields type_name object text super h is_static = has_subfield type_name object text super ((possible_decides es type_name object).0 h) (bytes_eq text typename) refl is_static
