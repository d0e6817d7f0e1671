-- Where the fields of a type stand (section 3.6).
use Rattle.std.proofs.Common.{◌≡◌, ℕ, ◌⊎◌, inl, inr, Bool, true, false, List, Option, Some, None, refl, sym, ap, ◌∙◌, subst, eqb-true, Contains}
use Rattle.std.specs.Prelude.{nat_eq, find, slice_get, unwrap_or, option_and_then, if◌then◌else◌}
use Rattle.std.specs.Option.{option_map, option_map_or}
use Rattle.std.specs.Str.{bytes_eq}
use Rattle.std.specs.Cmp.Lexicographic.{bytes_decides}
use Rattle.std.proofs.lemmas.Option.{same_Some}
use Rattle.gq_text.specs.declared.place.Span.{Span}
use Rattle.gq_tree.specs.Plain.{FieldDefinitionOf, BodyOf, scalar_type, object_type, interface_type, union_type, enum_type, input_type, TypeSystemOf, schema, type_definition, directive_definition}
use Rattle.gq_types.specs.declared.entry.TypeKind.TheVariants as kind
use Rattle.gq_types.specs.Entries.{Text, EntryOf, Numbered, numbered}
use Rattle.gq_types.specs.Kinds.{kind_of, same_kind}
use Rattle.gq_types.specs.Joined.{In, is_type_named, kind_in, kind_named, type_number, owner_of, owner, joined, body_in, parts_in, fields_of, fields_in_body}
use Rattle.gq_types.specs.LookUps.{field_in}
use Rattle.gq_types.specs.Names.{field_named}
use Rattle.gq_types.proofs.Gathered.{nothing_in, from_flat, from_map, from_filter, found, mapped}
use Rattle.gq_types.proofs.KindLemmas.{has_kind_decides}
use Rattle.gq_types.proofs.NameLaws.{numbers_define}
use Rattle.gq_types.proofs.PartLemmas.{numbered_at}

pub chained : {A B : Type 0} (f : A → Option B) (o : Option A) (y : B) → option_and_then f o ≡ Some y → (x : A) × (o ≡ Some x) × (f x ≡ Some y)
chained f None y h = absurd (cc)
chained f (Some x) y h = (x, refl, h)

-- what is put into a document stands where it was taken from
pub put_from : {A : Type 0} (file : ℕ) (xs : List A) (x y : A) (p : In A) → Contains xs x → ◌≡◌ {A = In A} (record { file = file; it = x }) p → p.it ≡ y → Contains xs y
put_from {A} file xs x y p c e h = subst (λ (z : A). Contains xs z) (ap (λ (q : In A). q.it) e ∙ h) c

-- a definition or extension that a type joins, and a field of it
pub record FieldStands (es : List EntryOf) (type_name : Text) (f : FieldDefinitionOf Span) : Type 0 where
  pub number : ℕ
  pub means : type_number es type_name ≡ Some number
  pub at : Numbered
  pub stands : Contains (numbered es) at
  pub belongs : owner es at ≡ number
  pub has : Contains (fields_in_body (body_in at.entry.definition)) f

pub field_stands : (es : List EntryOf) (type_name text : Text) (f : FieldDefinitionOf Span) → field_named es type_name text ≡ Some f → FieldStands es type_name f
field_stands es type_name text f h =
    let n = chained (λ (number : ℕ). option_map (λ (x : In (FieldDefinitionOf Span)). x.it) (find (λ x. bytes_eq text x.it.name.text) (fields_of es number))) (type_number es type_name) f h in
    let m = mapped (λ (x : In (FieldDefinitionOf Span)). x.it) (find (λ x. bytes_eq text x.it.name.text) (fields_of es n.0)) f n.2 in
    let x = found (λ (x : In (FieldDefinitionOf Span)). bytes_eq text x.it.name.text) (fields_of es n.0) m.0 m.1 in
    let at = from_flat (λ (k : Numbered). parts_in fields_in_body k.entry) (joined es n.0) m.0 x.0 in
    let part = from_map (λ (g : FieldDefinitionOf Span). let q : In (FieldDefinitionOf Span) = record { file = at.0.entry.file; it = g } in q) (fields_in_body (body_in at.0.entry.definition)) m.0 at.2 in
    let kept = from_filter (λ (k : Numbered). nat_eq (owner es k) n.0) (numbered es) at.0 at.1 in
    record {
      number = n.0;
      means = n.1;
      at = at.0;
      stands = kept.0;
      belongs = eqb-true (owner es at.0) n.0 kept.1;
      has = put_from at.0.entry.file (fields_in_body (body_in at.0.entry.definition)) part.0 f m.0 part.1 part.2 m.2;
    }

-- two names of one definition
one_name : (a b : Text) (d : TypeSystemOf Span) → is_type_named a d ≡ true → is_type_named b d ≡ true → a ≡ b
one_name a b (schema extends description directives roots place) h k = absurd (cc)
one_name a b (type_definition true description name directives body place) h k = absurd (cc)
one_name a b (type_definition false description name directives body place) h k = (bytes_decides a name.text).0 h ∙ sym ((bytes_decides b name.text).0 k)
one_name a b (directive_definition description name arguments repeatable locations place) h k = absurd (cc)

-- an entry whose number a type has belongs to it, and all that belongs to it is of its kind
module _ (es : List EntryOf) (text : Text) (number : ℕ) (means : type_number es text ≡ Some number) where
  at_number : (k : ℕ) (e : EntryOf) → slice_get es k ≡ Some e → k ≡ number → (is_type_named text e.definition ≡ true) × (kind_named es text ≡ kind_in e.definition)
  at_number k e at same =
      let d = numbers_define es text number means in
      let is : d.entry ≡ e = same_Some d.entry e (sym d.stands ∙ ap (slice_get es) (sym same) ∙ at) in
      (subst (λ (x : EntryOf). is_type_named text x.definition ≡ true) is d.is_named, d.has_kind ∙ ap (λ (x : EntryOf). kind_in x.definition) is)

  -- another name of that number is the same name
  same_name : (other : Text) → type_number es other ≡ Some number → text ≡ other
  same_name other also =
      let d = numbers_define es other number also in
      one_name text other d.entry.definition (at_number number d.entry d.stands refl).0 d.is_named

  -- an extension has not the number of a type
  no_extension : (k : ℕ) (e : EntryOf) → slice_get es k ≡ Some e → {A : Type 0} → is_type_named text e.definition ≡ false → k ≡ number → A
  no_extension k e at unnamed own = let yes = (at_number k e at own).0 in absurd (cc)

  kind_where : (k : ℕ) (e : EntryOf) → slice_get es k ≡ Some e → (d : TypeSystemOf Span) → e.definition ≡ d → owner_of es k d ≡ number → (f : FieldDefinitionOf Span) → Contains (fields_in_body (body_in d)) f → kind_named es text ≡ kind_in d
  kind_where k e at (schema extends description directives roots place) is own f c = nothing_in f c
  kind_where k e at (type_definition true description name directives body place) is own f c = by_kind (option_map_or (same_kind (kind_of body)) (kind_named es name.text) false) refl own
    where
      not_named : is_type_named text e.definition ≡ false
      not_named = ap (is_type_named text) is

      by_number : kind_named es name.text ≡ Some (kind_of body) → (o : Option ℕ) → type_number es name.text ≡ o → unwrap_or o k ≡ number → kind_named es text ≡ Some (kind_of body)
      by_number of_kind None number_is own = no_extension k e at not_named own
      by_number of_kind (Some m) number_is own = ap (kind_named es) (same_name name.text (number_is ∙ ap Some own)) ∙ of_kind

      by_kind : (b : Bool) → option_map_or (same_kind (kind_of body)) (kind_named es name.text) false ≡ b → (if b then unwrap_or (type_number es name.text) k else k) ≡ number → kind_named es text ≡ Some (kind_of body)
      by_kind true of_kind own = by_number ((has_kind_decides es (kind_of body) name.text).0 of_kind) (type_number es name.text) refl own
      by_kind false other own = no_extension k e at not_named own
  kind_where k e at (type_definition false description name directives body place) is own f c = (at_number k e at own).1 ∙ ap kind_in is
  kind_where k e at (directive_definition description name arguments repeatable locations place) is own f c = nothing_in f c

-- what has fields is an object type or an interface
body_has : (body : BodyOf Span) (f : FieldDefinitionOf Span) → Contains (fields_in_body body) f → (kind_of body ≡ kind.Object) ⊎ (kind_of body ≡ kind.Interface)
body_has scalar_type f c = nothing_in f c
body_has (object_type interfaces fields) f c = inl refl
body_has (interface_type interfaces fields) f c = inr refl
body_has (union_type members) f c = nothing_in f c
body_has (enum_type values) f c = nothing_in f c
body_has (input_type fields) f c = nothing_in f c

kind_has : (d : TypeSystemOf Span) (f : FieldDefinitionOf Span) → Contains (fields_in_body (body_in d)) f → (kind_in d ≡ Some kind.Object) ⊎ (kind_in d ≡ Some kind.Interface)
kind_has (schema extends description directives roots place) f c = nothing_in f c
kind_has (type_definition extends description name directives body place) f c = elim (body_has body f c) [
  | inl e ↦ inl (ap Some e)
  | inr e ↦ inr (ap Some e)
]
kind_has (directive_definition description name arguments repeatable locations place) f c = nothing_in f c

pub has_fields : (es : List EntryOf) (type_name text : Text) (f : FieldDefinitionOf Span) → field_named es type_name text ≡ Some f → (kind_named es type_name ≡ Some kind.Object) ⊎ (kind_named es type_name ≡ Some kind.Interface)
has_fields es type_name text f h =
    let s = field_stands es type_name text f h in
    let e = kind_where es type_name s.number s.means s.at.number s.at.entry (numbered_at es s.at s.stands) s.at.entry.definition refl s.belongs f s.has in
    elim (kind_has s.at.entry.definition f s.has) [
      | inl k ↦ inl (e ∙ k)
      | inr k ↦ inr (e ∙ k)
    ]

-- the field of a type whose number is known
pub named_by_number : (es : List EntryOf) (type_name text : Text) (number : ℕ) → type_number es type_name ≡ Some number → field_named es type_name text ≡ field_in es number text
named_by_number es type_name text number means = ap (λ (o : Option ℕ). option_and_then (λ (k : ℕ). field_in es k text) o) means
