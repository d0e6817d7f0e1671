-- What is told of implementations is what the relation says.
use Rattle.std.proofs.Common.{◌≡◌, ℕ, Bool, true, false, List, [], ◌∷◌, refl, sym, ap, ◌∙◌, subst, Contains, ◌⊎◌, ⊎_elim, inl, inr, ◌↔◌, Option, Some, None}
use Rattle.std.specs.Prelude.{◌||◌, ◌&&◌, not, is_none, find, if◌then◌else◌}
use Rattle.std.specs.Option.{option_map_or}
use Rattle.std.specs.Str.{bytes_eq}
use Rattle.std.specs.Cmp.Lexicographic.{bytes_decides}
use Rattle.gq_text.specs.declared.place.Span.{Span}
use Rattle.gq_fault.specs.declared.code.Code.TheVariants.{BadImplementation}
use Rattle.gq_fault.specs.declared.fault.Fault.{Fault}
use Rattle.gq_tree.specs.Plain.{NameOf, DirectiveOf, InputOf, FieldDefinitionOf, BodyOf, scalar_type, object_type, interface_type, union_type, enum_type, input_type, TypeSystemOf, schema, type_definition, directive_definition}
use Rattle.gq_tree.specs.Same.{same_types}
use Rattle.gq_tree.proofs.Sameness.{types_decide}
use Rattle.gq_types.specs.declared.entry.TypeKind.TheVariants as kind
use Rattle.gq_types.specs.BuiltIn.{defines_built_in}
use Rattle.gq_types.specs.Entries.{Text, EntryOf, Numbered, numbered}
use Rattle.gq_type_system.specs.Implementations.{Implements, Inherits, BreaksField, has_no_subtype, lacks_argument, has_other_type, requires_argument, BreaksImplementation, declares_itself, lacks_interface, lacks_field, breaks_field, IsBadImplementation}
use Rattle.gq_type_system.specs.Helping.ImplementationsPlaces.{breaks_argument, breaks_argument_named, breaks_arguments, requires_named, requires_further, breaks_own_field, breaks_inherited, breaks_field_named, breaks_fields, lacks_further, lacks_interfaces, breaks_interface_at, breaks_interface, breaks_implementation, told_of, bad_implementation, bad_implementation_at, bad_implementations}
use Rattle.gq_fault.specs.FaultPlaces.{fault_at}
use Rattle.gq_types.specs.Joined.{In, type_number, judged, fields_in_body, interfaces_in_body, fields_of, interfaces_of}
use Rattle.gq_types.specs.Kinds.{kind_of}
use Rattle.gq_types.specs.LookUps.{has_kind, field_in, declares_in}
use Rattle.gq_types.specs.Names.{field_named, argument_named}
use Rattle.gq_types.specs.Required.{is_required}
use Rattle.gq_types.specs.Subtypes.{MayBeSubtypeName}
use Rattle.gq_types.specs.SubtypesTests.{covers, may_be_subtype_name}
use Rattle.gq_types.proofs.Gathered.{or_cases, or_left, or_right, and_parts, and_both, not_true, not_false, nothing_in, first, only, from_flat, to_flat, from_filter, to_filter, from_any, to_any, found, mapped, tested}
use Rattle.gq_types.proofs.KindLemmas.{has_kind_decides}
use Rattle.gq_types.proofs.PartLemmas.{from_any_part, to_any_part}
use Rattle.gq_types.proofs.SubtypeLemmas.{covers_decides, may_be_subtype_name_decides}

is_none_true : {A : Type 0} (o : Option A) → is_none o ≡ true → o ≡ None
is_none_true None h = refl
is_none_true (Some x) h = absurd (cc)

-- arguments
module _ (es : List EntryOf) (wanted own : FieldDefinitionOf Span) where
  to_argument : (text : Text) (w o : Option (InputOf Span)) → argument_named wanted.arguments text ≡ w → argument_named own.arguments text ≡ o → breaks_argument w o ≡ true → BreaksField es wanted own
  to_argument text None o we oe h = absurd (cc)
  to_argument text (Some w) None we oe h = lacks_argument text w we oe
  to_argument text (Some w) (Some o) we oe h =
      has_other_type text w o we oe (λ same. let yes = (types_decide w.type_ref o.type_ref).1 same in let differs = not_true (same_types w.type_ref o.type_ref) h in absurd (cc))

  to_own_field : breaks_own_field es wanted own ≡ true → BreaksField es wanted own
  to_own_field h = elim (or_cases (not (covers (may_be_subtype_name es) own.type_ref wanted.type_ref)) (breaks_arguments wanted.arguments own.arguments wanted.arguments || requires_further wanted.arguments own.arguments own.arguments) h) [
    | inl refused ↦ has_no_subtype (λ c.
        let yes = (covers_decides (may_be_subtype_name es) (MayBeSubtypeName es) (may_be_subtype_name_decides es) own.type_ref wanted.type_ref).1 c in
        let is_false = not_true (covers (may_be_subtype_name es) own.type_ref wanted.type_ref) refused in
        absurd (cc))
    | inr rest ↦ elim (or_cases (breaks_arguments wanted.arguments own.arguments wanted.arguments) (requires_further wanted.arguments own.arguments own.arguments) rest) [
      | inl a ↦
          let x = from_any (λ (a : InputOf Span). breaks_argument_named wanted.arguments own.arguments a.name.text) wanted.arguments a in
          to_argument x.0.name.text (argument_named wanted.arguments x.0.name.text) (argument_named own.arguments x.0.name.text) refl refl x.2
      | inr r ↦
          let x = from_any (λ (a : InputOf Span). requires_named wanted.arguments own.arguments a.name.text) own.arguments r in
          let parts = and_parts (option_map_or is_required (argument_named own.arguments x.0.name.text) false) (is_none (argument_named wanted.arguments x.0.name.text)) x.2 in
          let meant = tested is_required (argument_named own.arguments x.0.name.text) parts.0 in
          requires_argument x.0.name.text meant.0 meant.1 meant.2 (is_none_true (argument_named wanted.arguments x.0.name.text) parts.1)
    ]
  ]

  from_named : (text : Text) (a : InputOf Span) → argument_named wanted.arguments text ≡ Some a → breaks_argument_named wanted.arguments own.arguments text ≡ true → breaks_own_field es wanted own ≡ true
  from_named text a e h =
      let f = found (λ (b : InputOf Span). bytes_eq text b.name.text) wanted.arguments a e in
      let same = (bytes_decides text a.name.text).0 f.1 in
      or_right (not (covers (may_be_subtype_name es) own.type_ref wanted.type_ref)) (breaks_arguments wanted.arguments own.arguments wanted.arguments || requires_further wanted.arguments own.arguments own.arguments)
      (or_left (breaks_arguments wanted.arguments own.arguments wanted.arguments) (requires_further wanted.arguments own.arguments own.arguments)
      (to_any (λ (b : InputOf Span). breaks_argument_named wanted.arguments own.arguments b.name.text) wanted.arguments a f.0
      (subst (λ t. breaks_argument_named wanted.arguments own.arguments t ≡ true) same h)))

  from_own_field : BreaksField es wanted own → breaks_own_field es wanted own ≡ true
  from_own_field (has_no_subtype n) =
      or_left (not (covers (may_be_subtype_name es) own.type_ref wanted.type_ref)) (breaks_arguments wanted.arguments own.arguments wanted.arguments || requires_further wanted.arguments own.arguments own.arguments)
      (by_test (covers (may_be_subtype_name es) own.type_ref wanted.type_ref) refl)
    where
      by_test : (t : Bool) → covers (may_be_subtype_name es) own.type_ref wanted.type_ref ≡ t → not t ≡ true
      by_test true e = absurd (n ((covers_decides (may_be_subtype_name es) (MayBeSubtypeName es) (may_be_subtype_name_decides es) own.type_ref wanted.type_ref).0 e))
      by_test false e = refl
  from_own_field (lacks_argument text a we oe) =
      from_named text a we (subst (λ w. breaks_argument w (argument_named own.arguments text) ≡ true) (sym we) (subst (λ o. breaks_argument (Some a) o ≡ true) (sym oe) refl))
  from_own_field (has_other_type text a b we oe n) =
      from_named text a we (subst (λ w. breaks_argument w (argument_named own.arguments text) ≡ true) (sym we) (subst (λ o. breaks_argument (Some a) o ≡ true) (sym oe) (by_test (same_types a.type_ref b.type_ref) refl)))
    where
      by_test : (t : Bool) → same_types a.type_ref b.type_ref ≡ t → not t ≡ true
      by_test true e = absurd (n ((types_decide a.type_ref b.type_ref).0 e))
      by_test false e = refl
  from_own_field (requires_argument text a oe r n) =
      let f = found (λ (b : InputOf Span). bytes_eq text b.name.text) own.arguments a oe in
      let same = (bytes_decides text a.name.text).0 f.1 in
      let here = and_both (option_map_or is_required (argument_named own.arguments text) false) (is_none (argument_named wanted.arguments text)) (ap (λ o. option_map_or is_required o false) oe ∙ r) (ap is_none n) in
      or_right (not (covers (may_be_subtype_name es) own.type_ref wanted.type_ref)) (breaks_arguments wanted.arguments own.arguments wanted.arguments || requires_further wanted.arguments own.arguments own.arguments)
      (or_right (breaks_arguments wanted.arguments own.arguments wanted.arguments) (requires_further wanted.arguments own.arguments own.arguments)
      (to_any (λ (b : InputOf Span). requires_named wanted.arguments own.arguments b.name.text) own.arguments a f.0
      (subst (λ t. requires_named wanted.arguments own.arguments t ≡ true) same here)))

-- interfaces
module _ (es : List EntryOf) (number : ℕ) (name : Text) where
  to_inherited : (interface text : Text) → Implements es number interface → (w o : Option (FieldDefinitionOf Span)) → field_named es interface text ≡ w → field_in es number text ≡ o → breaks_inherited es w o ≡ true → BreaksImplementation es number name
  to_inherited interface text i None o we oe h = absurd (cc)
  to_inherited interface text i (Some w) None we oe h = lacks_field text w (record { interface = interface; implements = i; has = we }) oe
  to_inherited interface text i (Some w) (Some o) we oe h = breaks_field text w o (record { interface = interface; implements = i; has = we }) oe (to_own_field es w o h)

  to_at : (interface : Text) → Implements es number interface → (o : Option ℕ) → type_number es interface ≡ o → breaks_interface_at es number interface o ≡ true → BreaksImplementation es number name
  to_at interface i None e h = absurd (cc)
  to_at interface i (Some other) e h = elim (or_cases (lacks_interfaces es number other) (breaks_fields es number interface other) h) [
    | inl lacks ↦
        let q = from_any_part interfaces_in_body es other (λ (n : NameOf Span). lacks_further es number n.text) lacks in
        let parts = and_parts (has_kind es kind.Interface q.0.it.text) (not (declares_in es number q.0.it.text)) q.2 in
        let declared = to_any (λ (p : In (NameOf Span)). bytes_eq q.0.it.text p.it.text) (interfaces_of es other) q.0 q.1 ((bytes_decides q.0.it.text q.0.it.text).1 refl) in
        lacks_interface interface q.0.it.text i (subst (λ o. option_map_or (λ n. declares_in es n q.0.it.text) o false ≡ true) (sym e) declared) ((has_kind_decides es kind.Interface q.0.it.text).0 parts.0) (not_true (declares_in es number q.0.it.text) parts.1)
    | inr breaks ↦
        let f = from_any_part fields_in_body es other (λ (d : FieldDefinitionOf Span). breaks_field_named es number interface d.name.text) breaks in
        to_inherited interface f.0.it.name.text i (field_named es interface f.0.it.name.text) (field_in es number f.0.it.name.text) refl refl f.2
  ]

  to_breaks : breaks_implementation es number name ≡ true → BreaksImplementation es number name
  to_breaks h =
      let p = from_any_part interfaces_in_body es number (λ (n : NameOf Span). breaks_interface es number name n.text) h in
      let declared = to_any (λ (q : In (NameOf Span)). bytes_eq p.0.it.text q.it.text) (interfaces_of es number) p.0 p.1 ((bytes_decides p.0.it.text p.0.it.text).1 refl) in
      elim (or_cases (bytes_eq p.0.it.text name) (has_kind es kind.Interface p.0.it.text && breaks_interface_at es number p.0.it.text (type_number es p.0.it.text)) p.2) [
        | inl same ↦ declares_itself (subst (λ t. declares_in es number t ≡ true) ((bytes_decides p.0.it.text name).0 same) declared)
        | inr rest ↦
            let parts = and_parts (has_kind es kind.Interface p.0.it.text) (breaks_interface_at es number p.0.it.text (type_number es p.0.it.text)) rest in
            to_at p.0.it.text (declared, (has_kind_decides es kind.Interface p.0.it.text).0 parts.0) (type_number es p.0.it.text) refl parts.1
      ]

  -- a declared interface that is broken
  from_declared : (interface : Text) → declares_in es number interface ≡ true → breaks_interface es number name interface ≡ true → breaks_implementation es number name ≡ true
  from_declared interface d h =
      let p = from_any (λ (q : In (NameOf Span)). bytes_eq interface q.it.text) (interfaces_of es number) d in
      let same = (bytes_decides interface p.0.it.text).0 p.2 in
      to_any_part interfaces_in_body es number (λ (n : NameOf Span). breaks_interface es number name n.text) p.0 p.1 (subst (λ t. breaks_interface es number name t ≡ true) same h)

  from_at : (interface : Text) (other : ℕ) → Implements es number interface → type_number es interface ≡ Some other → (lacks_interfaces es number other || breaks_fields es number interface other) ≡ true → breaks_implementation es number name ≡ true
  from_at interface other i e h = from_declared interface i.0
      (or_right (bytes_eq interface name) (has_kind es kind.Interface interface && breaks_interface_at es number interface (type_number es interface))
      (and_both (has_kind es kind.Interface interface) (breaks_interface_at es number interface (type_number es interface)) ((has_kind_decides es kind.Interface interface).1 i.1)
      (subst (λ o. breaks_interface_at es number interface o ≡ true) (sym e) h)))

  numbered_by : (interface text : Text) (wanted : FieldDefinitionOf Span) (o : Option ℕ) → type_number es interface ≡ o → field_named es interface text ≡ Some wanted →
      (other : ℕ) × (type_number es interface ≡ Some other) × (field_in es other text ≡ Some wanted)
  numbered_by interface text wanted None e h =
      let none : field_named es interface text ≡ None = by_none in absurd (cc)
    where
      by_none : field_named es interface text ≡ None
      by_none = rw e refl
  numbered_by interface text wanted (Some other) e h = (other, e, sym by_some ∙ h)
    where
      by_some : field_named es interface text ≡ field_in es other text
      by_some = rw e refl

  from_inherited : {text : Text} {wanted : FieldDefinitionOf Span} → Inherits es number text wanted → breaks_inherited es (Some wanted) (field_in es number text) ≡ true → breaks_implementation es number name ≡ true
  from_inherited {text} {wanted} r h =
      let n = numbered_by r.interface text wanted (type_number es r.interface) refl r.has in
      let m = mapped (λ (f : In (FieldDefinitionOf Span)). f.it) (find (λ (f : In (FieldDefinitionOf Span)). bytes_eq text f.it.name.text) (fields_of es n.0)) wanted n.2 in
      let f = found (λ (f : In (FieldDefinitionOf Span)). bytes_eq text f.it.name.text) (fields_of es n.0) m.0 m.1 in
      let same = (bytes_decides text m.0.it.name.text).0 f.1 in
      let here : breaks_field_named es number r.interface text ≡ true = subst (λ w. breaks_inherited es w (field_in es number text) ≡ true) (sym r.has) h in
      from_at r.interface n.0 r.implements n.1
      (or_right (lacks_interfaces es number n.0) (breaks_fields es number r.interface n.0)
      (to_any_part fields_in_body es n.0 (λ (d : FieldDefinitionOf Span). breaks_field_named es number r.interface d.name.text) m.0 f.0
      (subst (λ t. breaks_field_named es number r.interface t ≡ true) same here)))

  from_breaks : BreaksImplementation es number name → breaks_implementation es number name ≡ true
  from_breaks (declares_itself d) = from_declared name d (or_left (bytes_eq name name) (has_kind es kind.Interface name && breaks_interface_at es number name (type_number es name)) ((bytes_decides name name).1 refl))
  from_breaks (lacks_interface interface further i d k n) =
      let t = tested (λ other. declares_in es other further) (type_number es interface) d in
      let q = from_any (λ (p : In (NameOf Span)). bytes_eq further p.it.text) (interfaces_of es t.0) t.2 in
      let same = (bytes_decides further q.0.it.text).0 q.2 in
      let here : lacks_further es number further ≡ true = and_both (has_kind es kind.Interface further) (not (declares_in es number further)) ((has_kind_decides es kind.Interface further).1 k) (not_false (declares_in es number further) n) in
      from_at interface t.0 i t.1
      (or_left (lacks_interfaces es number t.0) (breaks_fields es number interface t.0)
      (to_any_part interfaces_in_body es t.0 (λ (n : NameOf Span). lacks_further es number n.text) q.0 q.1 (subst (λ t. lacks_further es number t ≡ true) same here)))
  from_breaks (lacks_field text wanted r n) = from_inherited r (subst (λ o. breaks_inherited es (Some wanted) o ≡ true) (sym n) refl)
  from_breaks (breaks_field text wanted own r e b) = from_inherited r (subst (λ o. breaks_inherited es (Some wanted) o ≡ true) (sym e) (from_own_field es wanted own b))

-- faults
module _ (es : List EntryOf) (fault : Fault) where
  made : (n : Numbered) → Contains (numbered es) n → (description : Option (NameOf Span)) (name : NameOf Span) (directives : List (DirectiveOf Span)) (body : BodyOf Span) (place : Span) →
      n.entry.definition ≡ type_definition false description name directives body place → (kind_of body ≡ kind.Object) ⊎ (kind_of body ≡ kind.Interface) →
      defines_built_in (type_definition false description name directives body place) ≡ false → Contains (told_of es n.number n.entry.file name) fault → IsBadImplementation es fault
  made n c description name directives body place e k b d = by_test (breaks_implementation es n.number name.text) refl d
    where
      is_judged : Contains (judged es) n
      is_judged = to_filter (λ (m : Numbered). not (defines_built_in m.entry.definition)) (numbered es) n c (not_false (defines_built_in n.entry.definition) (ap defines_built_in e ∙ b))

      by_test : (t : Bool) → breaks_implementation es n.number name.text ≡ t → Contains (if t then fault_at n.entry.file BadImplementation name ∷ [] else []) fault → IsBadImplementation es fault
      by_test true h d = record {
        at = n;
        is_judged = is_judged;
        description = description;
        name = name;
        directives = directives;
        body = body;
        place = place;
        defines = e;
        implements = k;
        breaks = to_breaks es n.number name.text h;
        is = only (fault_at n.entry.file BadImplementation name) fault d;
      }
      by_test false h d = nothing_in fault d

  by_definition : (n : Numbered) → Contains (numbered es) n → (d : TypeSystemOf Span) → n.entry.definition ≡ d → Contains (bad_implementation es n.number n.entry.file d) fault → IsBadImplementation es fault
  by_definition n c (schema extends description directives roots place) e h = nothing_in fault h
  by_definition n c (type_definition true description name directives body place) e h = nothing_in fault h
  by_definition n c (type_definition false description name directives scalar_type place) e h = nothing_in fault h
  by_definition n c (type_definition false description name directives (object_type interfaces fields) place) e h = made n c description name directives (object_type interfaces fields) place e (inl refl) refl h
  by_definition n c (type_definition false description name directives (interface_type interfaces fields) place) e h = made n c description name directives (interface_type interfaces fields) place e (inr refl) refl h
  by_definition n c (type_definition false description name directives (union_type members) place) e h = nothing_in fault h
  by_definition n c (type_definition false description name directives (enum_type values) place) e h = nothing_in fault h
  by_definition n c (type_definition false description name directives (input_type fields) place) e h = nothing_in fault h
  by_definition n c (directive_definition description name arguments repeatable locations place) e h = nothing_in fault h

  to_relation : Contains (bad_implementations es) fault → IsBadImplementation es fault
  to_relation c =
      let n = from_flat (bad_implementation_at es) (numbered es) fault c in
      by_definition n.0 n.1 n.0.entry.definition refl n.2

  told : (number file : ℕ) (name : NameOf Span) → BreaksImplementation es number name.text → fault ≡ fault_at file BadImplementation name → Contains (told_of es number file name) fault
  told number file name b e = subst (λ t. Contains (if t then fault_at file BadImplementation name ∷ [] else []) fault) (sym (from_breaks es number name.text b)) (first (fault_at file BadImplementation name) fault [] (sym e))

  by_body : (number file : ℕ) (description : Option (NameOf Span)) (name : NameOf Span) (directives : List (DirectiveOf Span)) (body : BodyOf Span) (place : Span) →
      (kind_of body ≡ kind.Object) ⊎ (kind_of body ≡ kind.Interface) → Contains (told_of es number file name) fault → Contains (bad_implementation es number file (type_definition false description name directives body place)) fault
  by_body number file description name directives scalar_type place k c = absurd (⊎_elim (λ e. cc) (λ e. cc) k)
  by_body number file description name directives (object_type interfaces fields) place k c = c
  by_body number file description name directives (interface_type interfaces fields) place k c = c
  by_body number file description name directives (union_type members) place k c = absurd (⊎_elim (λ e. cc) (λ e. cc) k)
  by_body number file description name directives (enum_type values) place k c = absurd (⊎_elim (λ e. cc) (λ e. cc) k)
  by_body number file description name directives (input_type fields) place k c = absurd (⊎_elim (λ e. cc) (λ e. cc) k)

  -- what is told of the entry that breaks the rule
  pub told_bad_implementation : (w : IsBadImplementation es fault) → Contains (bad_implementation_at es w.at) fault
  told_bad_implementation w =
      let here = by_body w.at.number w.at.entry.file w.description w.name w.directives w.body w.place w.implements (told w.at.number w.at.entry.file w.name w.breaks w.is) in
      subst (λ d. Contains (bad_implementation es w.at.number w.at.entry.file d) fault) (sym w.defines) here

  from_relation : IsBadImplementation es fault → Contains (bad_implementations es) fault
  from_relation w =
      let there = from_filter (λ (m : Numbered). not (defines_built_in m.entry.definition)) (numbered es) w.at w.is_judged in
      to_flat (bad_implementation_at es) (numbered es) w.at fault there.0 (told_bad_implementation w)

pub bad_implementations_are : (es : List EntryOf) (fault : Fault) → Contains (bad_implementations es) fault ↔ IsBadImplementation es fault
bad_implementations_are es fault = (to_relation es fault, from_relation es fault)
