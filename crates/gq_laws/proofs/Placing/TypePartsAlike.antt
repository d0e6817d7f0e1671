-- Faults of the parts and of the roots of types, over type systems that are equal but for their places.
use Rattle.std.proofs.Common.{◌≡◌, ℕ, ◌<◌, ◌≤◌, Bool, false, List, [], ◌∷◌, Option, map, length, refl, sym, ap, ◌∙◌, subst, Contains}
use Rattle.std.specs.Prelude.{◌≢◌}
use Rattle.gq_text.specs.declared.place.Span.{Span}
use Rattle.gq_fault.specs.declared.code.Code.TheVariants.{EmptyOrRepeated, WrongKindOfType}
use Rattle.gq_fault.specs.declared.fault.Fault.{Fault}
use Rattle.gq_fault.specs.FaultPlaces.{fault_at}
use Rattle.gq_names.specs.Repeats.{IsRepeated}
use Rattle.gq_tree.specs.declared.tree.OperationKind.{OperationKind}
use Rattle.gq_tree.specs.declared.tree.OperationKind.TheVariants.{Query}
use Rattle.gq_tree.specs.Plain.{NameOf, DirectiveOf, InputOf, RootOf, BodyOf, scalar_type, object_type, interface_type, union_type, enum_type, input_type, TypeSystemOf}
use Rattle.gq_tree.specs.Plain.{schema, type_definition, directive_definition, place_name, place_input, place_field, place_enum_value, place_root, place_body, place_type_system, no_place}
use Rattle.gq_types.specs.Entries.{Text, EntryOf}
use Rattle.gq_types.specs.Joined.{kind_named, schema_number, joined, In, put_in, body_in, parts_in, parts_of, fields_in_body, values_in_body, inputs_in_body}
use Rattle.gq_types.specs.Roots.{roots_in, roots_of, default_root}
use Rattle.gq_type_system.specs.declared.parts.Part.{Part}
use Rattle.gq_type_system.specs.declared.parts.Part.TheVariants.{Fields, Interfaces, Members, Values, InputFields}
use Rattle.gq_type_system.specs.Parts.{names_of_part, part_names, required_part}
use Rattle.gq_type_system.specs.EmptyOrRepeated.{IsEmptyType, IsRepeatedPart, argument_lists, IsRepeatedArgument}
use Rattle.gq_type_system.specs.RootTypes.{HasRoot, has_default, has_entry, IsFirstRoot, IsRoot, is_default, is_entry, IsRepeatedRoot, IsNoObject, IsSharedRoot}
use Rattle.gq_type_system.specs.QueryRoot.{no_query_root_fault, HasNoQueryRoot}
use Rattle.gq_types.proofs.Placing.Alike.{back, seen, stands, contains, repeated}
use Rattle.gq_types.proofs.Placing.Lists.{lengths, gathered, weaken}
use Rattle.gq_laws.proofs.Placing.Judged.{mapped, erase_marked, HasAlike, erase_judged, entries_too, judged_too, joined_marked}
use Rattle.gq_types.proofs.Placing.Entries.{body_alike, roots_alike, PartsAlike, fields_alike, interfaces_alike, members_alike, values_alike, inputs_alike}
use Rattle.gq_types.proofs.Placing.Entries.{definition_kinds, schema_numbers, default_roots}

empty_too : {A K : Type 0} (h : A → K) (xs ys : List A) → map h xs ≡ map h ys → xs ≡ [] → ys ≡ []
empty_too h xs [] e n = refl
empty_too h [] (b ∷ ys) e n = absurd (cc)
empty_too h (a ∷ xs) (b ∷ ys) e n = absurd (cc)

-- a repeated item, of which more than its text stays the same
repeated_seen : {A K : Type 0} (h : A → K) (text : A → List ℕ) → ((a b : A) → h a ≡ h b → text a ≡ text b) → (xs ys : List A) → map h xs ≡ map h ys → (x : A) → IsRepeated text xs x →
    (y : A) × IsRepeated text ys y × (h x ≡ h y)
repeated_seen h text sees xs ys e x c =
    let r = stands h xs ys e c.0 x c.1.here in
    let o = stands h xs ys e c.1.earlier c.1.other c.1.stands_earlier in (
      r.0,
      (c.0, record { here = r.1; earlier = c.1.earlier; is_earlier = c.1.is_earlier; other = o.0; stands_earlier = o.1; same_text = sym (sees c.1.other o.0 o.2) ∙ c.1.same_text ∙ sees x r.0 r.2 }),
      r.2,
    )

-- a part with what is seen of its document, its places forgotten
abbrev erase_in : {M A K : Type 0} → (ℕ → M) → (A → K) → In A → M × K
erase_in mark h p = (mark p.file, h p.it)

put_marked : {M A K : Type 0} (mark : ℕ → M) (h : A → K) (file : ℕ) (xs : List A) → map (erase_in mark h) (put_in file xs) ≡ map (λ z. (mark file, z)) (map h xs)
put_marked mark h file [] = refl
put_marked mark h file (x ∷ xs) = ap (λ z. (mark file, h x) ∷ z) (put_marked mark h file xs)

put_too : {M A K : Type 0} (mark : ℕ → M) (h : A → K) (k l : ℕ) → mark k ≡ mark l → (xs ys : List A) → map h xs ≡ map h ys →
    map (erase_in mark h) (put_in k xs) ≡ map (erase_in mark h) (put_in l ys)
put_too mark h k l files xs ys e =
    put_marked mark h k xs ∙ ap (λ zs. map (λ z. (mark k, z)) zs) e ∙ ap (λ n. map (λ z. (n, z)) (map h ys)) files ∙ sym (put_marked mark h l ys)

-- the names of the parts, and which part is required
abbrev text_of : NameOf Span → Text
text_of name = name.text

part_names_alike : (part : Part) → PartsAlike text_of (names_of_part part)
part_names_alike Fields b c e = mapped (place_field no_place) (λ f. f.name) text_of (λ x y h. ap (λ z. z.name.text) h) (fields_in_body b) (fields_in_body c) (fields_alike b c e)
part_names_alike Interfaces b c e = weaken (place_name no_place) text_of (λ x y h. ap (λ z. z.text) h) (names_of_part Interfaces b) (names_of_part Interfaces c) (interfaces_alike b c e)
part_names_alike Members b c e = weaken (place_name no_place) text_of (λ x y h. ap (λ z. z.text) h) (names_of_part Members b) (names_of_part Members c) (members_alike b c e)
part_names_alike Values b c e = mapped (place_enum_value no_place) (λ v. v.name) text_of (λ x y h. ap (λ z. z.name.text) h) (values_in_body b) (values_in_body c) (values_alike b c e)
part_names_alike InputFields b c e = mapped (place_input no_place) (λ i. i.name) text_of (λ x y h. ap (λ z. z.name.text) h) (inputs_in_body b) (inputs_in_body c) (inputs_alike b c e)

required_erased : (b : BodyOf Span) → required_part b ≡ required_part (place_body back (place_body no_place b))
required_erased scalar_type = refl
required_erased (object_type interfaces fields) = refl
required_erased (interface_type interfaces fields) = refl
required_erased (union_type members) = refl
required_erased (enum_type values) = refl
required_erased (input_type fields) = refl

-- a definition of a type, where one that is equal but for its places stands
record IsTypeLike (extends : Bool) (body : BodyOf Span) (d : TypeSystemOf Span) : Type 0 where
  description : Option (NameOf Span)
  name : NameOf Span
  directives : List (DirectiveOf Span)
  other : BodyOf Span
  place : Span
  defines : d ≡ type_definition extends description name directives other place
  same_body : place_body no_place body ≡ place_body no_place other

type_like : (extends : Bool) (description : Option (NameOf Span)) (name : NameOf Span) (directives : List (DirectiveOf Span)) (body : BodyOf Span) (place : Span) (d : TypeSystemOf Span) →
    place_type_system no_place (type_definition extends description name directives body place) ≡ place_type_system no_place d → IsTypeLike extends body d
type_like extends description name directives body place (type_definition also description2 name2 directives2 body2 place2) e =
    let both : extends ≡ also = cc in
    let bodies : place_body no_place body ≡ place_body no_place body2 = cc in
    record {
      description = description2;
      name = name2;
      directives = directives2;
      other = body2;
      place = place2;
      defines = ap (λ z. type_definition z description2 name2 directives2 body2 place2) (sym both);
      same_body = bodies;
    }
type_like extends description name directives body place (schema a b c d f) e = absurd (cc)
type_like extends description name directives body place (directive_definition a b c d f g) e = absurd (cc)

-- the arguments of fields and of directives
abbrev erase_arguments : List (InputOf Span) → List (InputOf (Unit {0}))
erase_arguments is = map (place_input no_place) is

argument_lists_alike : (d u : TypeSystemOf Span) → place_type_system no_place d ≡ place_type_system no_place u → map erase_arguments (argument_lists d) ≡ map erase_arguments (argument_lists u)
argument_lists_alike (schema a b c d e) (schema a2 b2 c2 d2 e2) h = refl
argument_lists_alike (type_definition a b c d e g) (type_definition a2 b2 c2 d2 e2 g2) h =
    let bodies : place_body no_place e ≡ place_body no_place e2 = cc in
    mapped (place_field no_place) (λ f. f.arguments) erase_arguments (λ x y s. ap (λ z. z.arguments) s) (fields_in_body e) (fields_in_body e2) (fields_alike e e2 bodies)
argument_lists_alike (directive_definition a b c d e g) (directive_definition a2 b2 c2 d2 e2 g2) h =
    let those : map (place_input no_place) c ≡ map (place_input no_place) c2 = cc in
    ap (λ z. z ∷ []) those
argument_lists_alike _ _ h = absurd (cc)

-- roots with what is seen of their documents, their places forgotten
abbrev erase_marked_root : {M : Type 0} → (ℕ → M) → In (RootOf Span) → M × RootOf (Unit {0})
erase_marked_root mark r = erase_in mark (place_root no_place) r

abbrev RootsAlike : {M : Type 0} → (ℕ → M) → List (In (RootOf Span)) → List (In (RootOf Span)) → Type 0
RootsAlike mark rs qs = map (erase_marked_root mark) rs ≡ map (erase_marked_root mark) qs

-- what is a root before a place of the one is so before the same place of the other
module _ {M : Type 0} (mark : ℕ → M) (es us : List EntryOf) (defaults : (operation : OperationKind) → default_root es operation ≡ default_root us operation)
    (rs qs : List (In (RootOf Span))) (same : RootsAlike mark rs qs) where
  has_root_too : (place : ℕ) (operation : OperationKind) → HasRoot es rs place operation → HasRoot us qs place operation
  has_root_too place operation (has_default is) = has_default (sym (defaults operation) ∙ is)
  has_root_too place operation (has_entry {earlier} {other} s b k) =
      let o = stands (erase_marked_root mark) rs qs same earlier other s in
      has_entry o.1 b (ap (λ z. z.1.kind) (sym o.2) ∙ k)

module _ {M : Type 0} (mark : ℕ → M) (es us : List EntryOf) (defaults : (operation : OperationKind) → default_root es operation ≡ default_root us operation)
    (rs qs : List (In (RootOf Span))) (same : RootsAlike mark rs qs) where
  first_root_too : (place : ℕ) (root : In (RootOf Span)) → IsFirstRoot es rs place root →
      (other : In (RootOf Span)) × IsFirstRoot us qs place other × (erase_marked_root mark root ≡ erase_marked_root mark other)
  first_root_too place root c =
      let o = stands (erase_marked_root mark) rs qs same place root c.stands in
      let back_again : HasRoot us qs place o.0.it.kind → HasRoot es rs place root.it.kind =
      λ h. subst (HasRoot es rs place) (ap (λ z. z.1.kind) (sym o.2)) (has_root_too mark us es (λ k. sym (defaults k)) qs rs (sym same) place o.0.it.kind h) in
      (o.0, record { stands = o.1; is_first = λ h. c.is_first (back_again h) }, o.2)

  is_root_too : (place : ℕ) (text : Text) → IsRoot es rs place text → IsRoot us qs place text
  is_root_too place text (is_default operation is) = is_default operation (sym (defaults operation) ∙ is)
  is_root_too place text (is_entry {earlier} {other} c b n) =
      let o = first_root_too earlier other c in
      is_entry o.1 b (ap (λ z. z.1.name.text) (sym o.2) ∙ n)

module _ {M : Type 0} (mark : ℕ → M) (es us : List EntryOf) (same : map (erase_marked mark) es ≡ map (erase_marked mark) us) where
  -- parts and roots with their documents
  parts_marked : {A K : Type 0} (h : A → K) (parts : BodyOf Span → List A) → PartsAlike h parts → (number : ℕ) →
      map (erase_in mark h) (parts_of parts es number) ≡ map (erase_in mark h) (parts_of parts us number)
  parts_marked h parts alike number = gathered (erase_judged mark) (erase_in mark h) (λ n. parts_in parts n.entry)
      (λ n m e. put_too mark h n.entry.file m.entry.file (ap (λ z. z.1.0) e) (parts (body_in n.entry.definition)) (parts (body_in m.entry.definition))
      (alike (body_in n.entry.definition) (body_in m.entry.definition) (body_alike n.entry.definition m.entry.definition (ap (λ z. z.1.1) e))))
      (joined es number) (joined us number) (joined_marked mark es us same number)

  roots_marked : (number : ℕ) → RootsAlike mark (roots_of es number) (roots_of us number)
  roots_marked number = gathered (erase_judged mark) (erase_marked_root mark) (λ n. put_in n.entry.file (roots_in n.entry.definition))
      (λ n m e. put_too mark (place_root no_place) n.entry.file m.entry.file (ap (λ z. z.1.0) e) (roots_in n.entry.definition) (roots_in m.entry.definition)
      (roots_alike n.entry.definition m.entry.definition (ap (λ z. z.1.1) e)))
      (joined es number) (joined us number) (joined_marked mark es us same number)

  number_too : (number : ℕ) → number < length es → number < length us
  number_too number l = subst (λ n. number < n) (lengths (erase_marked mark) es us same) l

  last_number_too : (number : ℕ) → number ≤ length es → number ≤ length us
  last_number_too number l = subst (λ n. number ≤ n) (lengths (erase_marked mark) es us same) l

  -- types without parts, and parts and arguments of one name
  pub empty_type_too : (f : Fault) → IsEmptyType es f → HasAlike mark (IsEmptyType us) f
  empty_type_too f c =
      let m = judged_too mark es us same c.entry c.is_judged in
      let d = type_like false c.description c.name c.directives c.body c.place m.0.entry.definition (ap (place_type_system no_place) (sym c.defines) ∙ m.4) in
      let names : part_names c.part us m.0.number ≡ [] = subst (λ n. part_names c.part us n ≡ []) (sym m.2)
      (empty_too (erase_in mark text_of) (part_names c.part es c.entry.number) (part_names c.part us c.entry.number)
      (parts_marked text_of (names_of_part c.part) (part_names_alike c.part) c.entry.number) c.is_empty) in (
        fault_at m.0.entry.file EmptyOrRepeated d.name,
        record {
          entry = m.0;
          is_judged = m.1;
          description = d.description;
          name = d.name;
          directives = d.directives;
          body = d.other;
          place = d.place;
          defines = d.defines;
          part = c.part;
          is_required = sym (seen (place_body no_place) (place_body back) (λ z. required_part z) required_erased c.body d.other d.same_body) ∙ c.is_required;
          is_empty = names;
          is = refl;
        },
        m.3 ∙ ap (λ z. mark z.file) (sym c.is),
        ap (λ z. z.code) (sym c.is),
      )

  pub repeated_part_too : (f : Fault) → IsRepeatedPart es f → HasAlike mark (IsRepeatedPart us) f
  repeated_part_too f c =
      let o = repeated_seen (erase_in mark text_of) (λ name. name.it.text) (λ a b e. ap (λ z. z.1) e) (part_names c.part es c.number) (part_names c.part us c.number)
      (parts_marked text_of (names_of_part c.part) (part_names_alike c.part) c.number) c.one c.is_repeated in (
        fault_at o.0.file EmptyOrRepeated o.0.it,
        record { number = c.number; is_number = number_too c.number c.is_number; part = c.part; one = o.0; is_repeated = o.1; is = refl },
        ap (λ z. z.0) (sym o.2) ∙ ap (λ z. mark z.file) (sym c.is),
        ap (λ z. z.code) (sym c.is),
      )

  pub repeated_argument_too : (f : Fault) → IsRepeatedArgument es f → HasAlike mark (IsRepeatedArgument us) f
  repeated_argument_too f c =
      let m = judged_too mark es us same c.entry c.is_judged in
      let has = contains erase_arguments (argument_lists c.entry.entry.definition) (argument_lists m.0.entry.definition)
      (argument_lists_alike c.entry.entry.definition m.0.entry.definition m.4) c.arguments c.has in
      let o = repeated (λ a. a.name.text) c.arguments has.0 (weaken (place_input no_place) (λ a. a.name.text) (λ a b e. ap (λ z. z.name.text) e) c.arguments has.0 has.2) c.one c.is_repeated in (
        fault_at m.0.entry.file EmptyOrRepeated o.0.name,
        record { entry = m.0; is_judged = m.1; arguments = has.0; has = has.1; one = o.0; is_repeated = o.1; is = refl },
        m.3 ∙ ap (λ z. mark z.file) (sym c.is),
        ap (λ z. z.code) (sym c.is),
      )

  -- roots
  defaults_alike : (operation : OperationKind) → default_root es operation ≡ default_root us operation
  defaults_alike operation = default_roots es us (entries_too mark es us same) operation

  pub repeated_root_too : (f : Fault) → IsRepeatedRoot es f → HasAlike mark (IsRepeatedRoot us) f
  repeated_root_too f c =
      let o = stands (erase_marked_root mark) (roots_of es c.number) (roots_of us c.number) (roots_marked c.number) c.place c.root c.stands in
      let before = has_root_too mark es us defaults_alike (roots_of es c.number) (roots_of us c.number) (roots_marked c.number) c.place c.root.it.kind c.has_root in (
        fault_at o.0.file EmptyOrRepeated o.0.it.name,
        record {
          number = c.number;
          is_number = last_number_too c.number c.is_number;
          place = c.place;
          root = o.0;
          stands = o.1;
          has_root = subst (HasRoot us (roots_of us c.number) c.place) (ap (λ z. z.1.kind) o.2) before;
          is = refl;
        },
        ap (λ z. z.0) (sym o.2) ∙ ap (λ z. mark z.file) (sym c.is),
        ap (λ z. z.code) (sym c.is),
      )

  pub no_object_too : (f : Fault) → IsNoObject es f → HasAlike mark (IsNoObject us) f
  no_object_too f c =
      let o = first_root_too mark es us defaults_alike (roots_of es c.number) (roots_of us c.number) (roots_marked c.number) c.place c.root c.counts in (
        fault_at o.0.file WrongKindOfType o.0.it.name,
        record {
          number = c.number;
          is_number = last_number_too c.number c.is_number;
          place = c.place;
          root = o.0;
          counts = o.1;
          of_kind = c.of_kind;
          is_known = ap (λ z. kind_named us z.1.name.text) (sym o.2) ∙ sym (definition_kinds es us (entries_too mark es us same) c.root.it.name.text) ∙ c.is_known;
          is_no_object = c.is_no_object;
          is = refl;
        },
        ap (λ z. z.0) (sym o.2) ∙ ap (λ z. mark z.file) (sym c.is),
        ap (λ z. z.code) (sym c.is),
      )

  pub shared_root_too : (f : Fault) → IsSharedRoot es f → HasAlike mark (IsSharedRoot us) f
  shared_root_too f c =
      let o = first_root_too mark es us defaults_alike (roots_of es c.number) (roots_of us c.number) (roots_marked c.number) c.place c.root c.counts in
      let shared = is_root_too mark es us defaults_alike (roots_of es c.number) (roots_of us c.number) (roots_marked c.number) c.place c.root.it.name.text c.is_shared in (
        fault_at o.0.file WrongKindOfType o.0.it.name,
        record {
          number = c.number;
          is_number = last_number_too c.number c.is_number;
          place = c.place;
          root = o.0;
          counts = o.1;
          of_kind = c.of_kind;
          is_known = ap (λ z. kind_named us z.1.name.text) (sym o.2) ∙ sym (definition_kinds es us (entries_too mark es us same) c.root.it.name.text) ∙ c.is_known;
          is_shared = subst (IsRoot us (roots_of us c.number) c.place) (ap (λ z. z.1.name.text) o.2) shared;
          is = refl;
        },
        ap (λ z. z.0) (sym o.2) ∙ ap (λ z. mark z.file) (sym c.is),
        ap (λ z. z.code) (sym c.is),
      )

  pub no_query_root_too : (f : Fault) → HasNoQueryRoot es f → HasAlike mark (HasNoQueryRoot us) f
  no_query_root_too f c =
      let roots : RootsAlike mark (roots_of us (schema_number us)) (roots_of es (schema_number es)) =
      sym (roots_marked (schema_number us)) ∙ ap (λ n. map (erase_marked_root mark) (roots_of es n)) (sym (schema_numbers es us (entries_too mark es us same))) in
      let none : (root : In (RootOf Span)) → Contains (roots_of us (schema_number us)) root → root.it.kind ≢ Query =
      λ root h k. (let o = contains (erase_marked_root mark) (roots_of us (schema_number us)) (roots_of es (schema_number es)) roots root h in
      c.no_entry o.0 o.1 (ap (λ z. z.1.kind) (sym o.2) ∙ k)) in (
        no_query_root_fault,
        record { no_default = sym (defaults_alike Query) ∙ c.no_default; no_entry = none; is = refl },
        ap (λ z. mark z.file) (sym c.is),
        ap (λ z. z.code) (sym c.is),
      )
