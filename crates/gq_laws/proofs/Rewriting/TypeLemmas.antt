-- Where no type is unknown, the types of fields are known (section 3.4.1).
use Rattle.std.proofs.Common.{◌≡◌, true, false, List, [], ◌++◌, Option, Some, None, refl, sym, ap, ◌∙◌, Contains}
use Rattle.std.specs.Prelude.{not, map, flat_map}
use Rattle.std.proofs.lemmas.List.Elements.{Contains-append_left, Contains-append_right}
use Rattle.gq_text.specs.declared.place.Span.{Span}
use Rattle.gq_fault.specs.declared.code.Code.TheVariants.{UnknownType}
use Rattle.gq_fault.specs.declared.fault.Fault.{Fault}
use Rattle.gq_tree.specs.Plain.{NameOf, TypeOf, named, list_of, non_null, FieldDefinitionOf, scalar_type, object_type, interface_type, union_type, enum_type, input_type, TypeSystemOf, schema, type_definition, directive_definition}
use Rattle.gq_types.specs.declared.entry.TypeKind.{TypeKind}
use Rattle.gq_types.specs.BuiltIn.{defines_built_in}
use Rattle.gq_types.specs.Entries.{Text, EntryOf, Numbered, numbered}
use Rattle.gq_types.specs.Joined.{kind_named, judged, body_in, fields_in_body}
use Rattle.gq_types.specs.Names.{field_named}
use Rattle.gq_types.proofs.Gathered.{nothing_in, first, to_flat, to_filter, not_false}
use Rattle.gq_tree.specs.NamedTypes.{base_name, named_type}
use Rattle.gq_type_system.specs.declared.uses.Wants.TheVariants.{OutputType, InterfaceType}
use Rattle.gq_fault.specs.FaultPlaces.{fault_at}
use Rattle.gq_type_system.specs.Uses.{UseOf, input_use, field_uses, named_uses, used_types}
use Rattle.gq_type_system.specs.UnknownType.{IsUnknownType}
use Rattle.gq_laws.proofs.Rewriting.FieldLemmas.{field_stands}

-- the type of a field is used where the field is defined
pub name_at_end : (t : TypeOf Span) → base_name t ≡ (named_type t).text
name_at_end (named name) = refl
name_at_end (list_of item) = name_at_end item
name_at_end (non_null inner) = name_at_end inner

abbrev type_use : FieldDefinitionOf Span → UseOf
type_use f = record { name = named_type f.type_ref; wants = OutputType }

fields_used : (interfaces : List (NameOf Span)) (fields : List (FieldDefinitionOf Span)) (f : FieldDefinitionOf Span) → Contains fields f → Contains (named_uses InterfaceType interfaces ++ flat_map field_uses fields ++ [] ++ []) (type_use f)
fields_used interfaces fields f c =
    let first_uses = named_uses InterfaceType interfaces in
    let of_fields = flat_map field_uses fields in
    let there = to_flat field_uses fields f (type_use f) c (first (type_use f) (type_use f) (map input_use f.arguments) refl) in
    Contains-append_left (first_uses ++ of_fields ++ []) [] (type_use f) (Contains-append_left (first_uses ++ of_fields) [] (type_use f) (Contains-append_right first_uses of_fields (type_use f) there))

type_used : (d : TypeSystemOf Span) (f : FieldDefinitionOf Span) → Contains (fields_in_body (body_in d)) f → (defines_built_in d ≡ false) × Contains (used_types d) (type_use f)
type_used (schema extends description directives roots place) f c = nothing_in f c
type_used (type_definition extends description name directives scalar_type place) f c = nothing_in f c
type_used (type_definition true description name directives (object_type interfaces fields) place) f c = (refl, fields_used interfaces fields f c)
type_used (type_definition false description name directives (object_type interfaces fields) place) f c = (refl, fields_used interfaces fields f c)
type_used (type_definition true description name directives (interface_type interfaces fields) place) f c = (refl, fields_used interfaces fields f c)
type_used (type_definition false description name directives (interface_type interfaces fields) place) f c = (refl, fields_used interfaces fields f c)
type_used (type_definition extends description name directives (union_type members) place) f c = nothing_in f c
type_used (type_definition extends description name directives (enum_type values) place) f c = nothing_in f c
type_used (type_definition extends description name directives (input_type fields) place) f c = nothing_in f c
type_used (directive_definition description name arguments repeatable locations place) f c = nothing_in f c

pub is_judged : (es : List EntryOf) (n : Numbered) → Contains (numbered es) n → defines_built_in n.entry.definition ≡ false → Contains (judged es) n
is_judged es n c own = to_filter (λ (m : Numbered). not (defines_built_in m.entry.definition)) (numbered es) n c (not_false (defines_built_in n.entry.definition) own)

-- where no type is unknown, that of a field is known
pub type_is_known : (es : List EntryOf) → ((item : Fault) → IsUnknownType es item → ⊥) → (type_name text : Text) (f : FieldDefinitionOf Span) → field_named es type_name text ≡ Some f →
    (k : TypeKind) × (kind_named es (base_name f.type_ref) ≡ Some k)
type_is_known es no_unknown type_name text f h = by_kind (kind_named es (base_name f.type_ref)) refl
  where
    by_kind : (o : Option TypeKind) → kind_named es (base_name f.type_ref) ≡ o → (k : TypeKind) × (kind_named es (base_name f.type_ref) ≡ Some k)
    by_kind None e =
        let s = field_stands es type_name text f h in
        let used = type_used s.at.entry.definition f s.has in
        absurd (no_unknown (fault_at s.at.entry.file UnknownType (named_type f.type_ref)) (record {
          entry = s.at;
          is_judged = is_judged es s.at s.stands used.0;
          one = type_use f;
          is_used = used.1;
          is_unknown = ap (kind_named es) (sym (name_at_end f.type_ref)) ∙ e;
          is = refl;
        }))
    by_kind (Some k) e = (k, e)
