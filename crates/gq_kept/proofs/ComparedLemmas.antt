-- Type systems that are compared, definition by definition.
use Rattle.std.proofs.Common.{◌≡◌, ℕ, ◌+◌, ◌<◌, ◌≤◌, List, [], ◌∷◌, ◌++◌, map, length, drop, get_or, sym, ◌∙◌, ap, subst, append-nil, append_assoc, arith, Vec, Global}
use Rattle.std.specs.Prelude.{All, not, true}
use Rattle.std.specs.Option.{option_map}
use Rattle.std.specs.Arc.{arc_value}
use Rattle.std.proofs.Math.ListN.{drop_of_length-le}
use Rattle.gq_text.specs.declared.place.Span.{Span}
use Rattle.gq_tree.specs.declared.tree.Name.{Name}
use Rattle.gq_tree.specs.declared.type_system.EnumValueDefinition.{EnumValueDefinition}
use Rattle.gq_tree.specs.declared.type_system.FieldsAndInterfaces.{FieldsAndInterfaces}
use Rattle.gq_tree.specs.declared.type_system.InputValueDefinition.{InputValueDefinition}
use Rattle.gq_tree.specs.declared.type_system.TypeBody.{TypeBody}
use Rattle.gq_tree.specs.declared.type_system.TypeBody.TheVariants as body
use Rattle.gq_tree.specs.declared.type_system.TypeDefinition.{TypeDefinition}
use Rattle.gq_tree.specs.declared.type_system.TypeSystemDefinition.{TypeSystemDefinition}
use Rattle.gq_tree.specs.declared.type_system.TypeSystemDefinition.TheVariants as definition
use Rattle.gq_tree.specs.Plain.{FieldDefinitionOf, BodyOf, scalar_type, object_type, interface_type, union_type, enum_type, input_type, TypeSystemOf, schema, type_definition, directive_definition, no_place, place_name, place_directive, place_input, place_field, place_enum_value, place_body, place_type_system}
use Rattle.gq_tree.specs.Views.{name_of, literal_view, directive_view, input_view, field_definition_view, enum_value_view, body_view, type_system_view}
use Rattle.gq_types.specs.declared.entry.Entry.{Entry}
use Rattle.gq_types.specs.Entries.{Text, EntryOf, entry_view, entries_view}
use Rattle.gq_types.proofs.Placing.Lists.{kept}
use Rattle.gq_type_system.specs.FaultsAt.{IsFaultlessAt}
use Rattle.gq_schema.specs.SchemaOf.{HasNoFault}
use Rattle.gq_laws.specs.Placing.ObjectTypes.{DifferInObjects, nowhere, not_here, here, OtherObjectsKeepTypes}
use Rattle.gq_laws.specs.Placing.OtherFields.{is_one_of, fields_without, body_without, definition_without}
use Rattle.gq_kept.specs.Helping.Compared.{IsCompared, alike, objects, DiffersFrom}
use Rattle.gq_kept.specs.declared.beside.Beside.{Beside}
use Rattle.gq_kept.proofs.GatheredLemmas.{at_place}

-- definitions of types that are the same in each part
pub types_alike : (t u : TypeDefinition) → t.extends ≡ u.extends →
    option_map (place_name no_place) (option_map literal_view t.description) ≡ option_map (place_name no_place) (option_map literal_view u.description) →
    place_name no_place (name_of t.name) ≡ place_name no_place (name_of u.name) →
    map (place_directive no_place) (map directive_view t.directives.items) ≡ map (place_directive no_place) (map directive_view u.directives.items) →
    place_body no_place (body_view t.body) ≡ place_body no_place (body_view u.body) →
    place_type_system no_place (type_system_view (definition.Type t)) ≡ place_type_system no_place (type_system_view (definition.Type u))
types_alike t u extends descriptions names directives bodies = cc

pub whole_parts_alike : (one other : FieldsAndInterfaces) → map (place_name no_place) (map name_of one.interfaces.items) ≡ map (place_name no_place) (map name_of other.interfaces.items) →
    map (place_field no_place) (map field_definition_view one.fields.items) ≡ map (place_field no_place) (map field_definition_view other.fields.items) →
    (place_body no_place (body_view (body.Object one)) ≡ place_body no_place (body_view (body.Object other)))
    × (place_body no_place (body_view (body.Interface one)) ≡ place_body no_place (body_view (body.Interface other)))
whole_parts_alike one other interfaces fields = (cc, cc)

pub unions_same : (one other : TypeBody) (ms ns : Vec Name Global) → one ≡ body.Union ms → other ≡ body.Union ns →
    map (place_name no_place) (map name_of ms.items) ≡ map (place_name no_place) (map name_of ns.items) → place_body no_place (body_view one) ≡ place_body no_place (body_view other)
unions_same one other ms ns e f h = rw (e, f) (ap union_type h)

pub enums_same : (one other : TypeBody) (vs ws : Vec EnumValueDefinition Global) → one ≡ body.Enum vs → other ≡ body.Enum ws →
    map (place_enum_value no_place) (map enum_value_view vs.items) ≡ map (place_enum_value no_place) (map enum_value_view ws.items) →
    place_body no_place (body_view one) ≡ place_body no_place (body_view other)
enums_same one other vs ws e f h = rw (e, f) (ap enum_type h)

pub input_objects_same : (one other : TypeBody) (is js : Vec InputValueDefinition Global) → one ≡ body.InputObject is → other ≡ body.InputObject js →
    map (place_input no_place) (map input_view is.items) ≡ map (place_input no_place) (map input_view js.items) → place_body no_place (body_view one) ≡ place_body no_place (body_view other)
input_objects_same one other is js e f h = rw (e, f) (ap input_type h)

-- what is the same but for places is so without some fields
module _ (texts : List Text) where
  fields_same : (fs gs : List (FieldDefinitionOf Span)) → map (place_field no_place) fs ≡ map (place_field no_place) gs →
      map (place_field no_place) (fields_without texts fs) ≡ map (place_field no_place) (fields_without texts gs)
  fields_same fs gs e =
      kept (place_field no_place) (λ f. not (is_one_of texts f.name.text)) (λ f. not (is_one_of texts f.name.text)) (λ f g h. ap (λ z. not (is_one_of texts z.name.text)) h) fs gs e

  body_same : (b c : BodyOf Span) → place_body no_place b ≡ place_body no_place c → place_body no_place (body_without texts b) ≡ place_body no_place (body_without texts c)
  body_same scalar_type scalar_type e = e
  body_same (object_type is fs) (object_type js gs) e =
      let interfaces : map (place_name no_place) is ≡ map (place_name no_place) js = cc in
      let fields = fields_same fs gs cc in
      ap (λ z. object_type z (map (place_field no_place) (fields_without texts fs))) interfaces ∙ ap (λ z. object_type (map (place_name no_place) js) z) fields
  body_same (interface_type is fs) (interface_type js gs) e =
      let interfaces : map (place_name no_place) is ≡ map (place_name no_place) js = cc in
      let fields = fields_same fs gs cc in
      ap (λ z. interface_type z (map (place_field no_place) (fields_without texts fs))) interfaces ∙ ap (λ z. interface_type (map (place_name no_place) js) z) fields
  body_same (union_type ms) (union_type ns) e = e
  body_same (enum_type vs) (enum_type ws) e = e
  body_same (input_type is) (input_type js) e = e
  body_same _ _ e = absurd (cc)

  pub same_without : (d u : TypeSystemOf Span) → place_type_system no_place d ≡ place_type_system no_place u →
      place_type_system no_place (definition_without texts d) ≡ place_type_system no_place (definition_without texts u)
  same_without (schema a b c d e) (schema a2 b2 c2 d2 e2) h = h
  same_without (type_definition x a n d b p) (type_definition x2 a2 n2 d2 b2 p2) h =
      let bodies = body_same b b2 cc in
      cc
  same_without (directive_definition a n is r l p) (directive_definition a2 n2 is2 r2 l2 p2) h = h
  same_without _ _ h = absurd (cc)

-- an entry more of each list
abbrev pub Differ : ℕ → List Entry → List Entry → List ℕ → Type 0
Differ number es us numbers = DifferInObjects number (entries_view es) (entries_view us) numbers

compared_here : (number : ℕ) (e u : EntryOf) (es us : List EntryOf) (before after more : List ℕ) → IsCompared number e.definition u.definition before after →
    DifferInObjects (number + 1) es us more → (now : List ℕ) × DifferInObjects number (e ∷ es) (u ∷ us) now × (after ++ more ≡ before ++ now)
compared_here number e u es us before after more (alike same stay) d = (more, not_here same d, ap (λ z. z ++ more) stay)
compared_here number e u es us before after more (objects a b grown) d = (number ∷ more, here a b d, ap (λ z. z ++ more) grown ∙ append_assoc before (number ∷ []) more)

pub compared_more : (es us : List Entry) (i : ℕ) (e u : Entry) (d c : TypeSystemDefinition) (before after : List ℕ) →
    i < length es → length es ≡ length us → e ≡ get_or es i e → u ≡ get_or us i u →
    d ≡ arc_value (get_or es i e).definition → c ≡ arc_value (get_or us i u).definition →
    IsCompared i (type_system_view d) (type_system_view c) before after →
    ((more : List ℕ) → Differ i (drop i es) (drop i us) more → Differ 0 es us (before ++ more)) →
    (more : List ℕ) → Differ (i + 1) (drop (i + 1) es) (drop (i + 1) us) more → Differ 0 es us (after ++ more)
compared_more es us i e u d c before after h same at_e at_u of_e of_u compared so_far more rest =
    let of_entry : Entry → TypeSystemDefinition = λ x. arc_value x.definition in
    let d_is : type_system_view d ≡ (entry_view e).definition = ap type_system_view (of_e ∙ ap of_entry (sym at_e)) in
    let c_is : type_system_view c ≡ (entry_view u).definition = ap type_system_view (of_u ∙ ap of_entry (sym at_u)) in
    let there : IsCompared i (entry_view e).definition (entry_view u).definition before after =
    subst (λ z. IsCompared i z (entry_view u).definition before after) d_is (subst (λ z. IsCompared i (type_system_view d) z before after) c_is compared) in
    let now = compared_here i (entry_view e) (entry_view u) (entries_view (drop (i + 1) es)) (entries_view (drop (i + 1) us)) before after more there rest in
    let es_are : entries_view (drop i es) ≡ entry_view e ∷ entries_view (drop (i + 1) es) = ap entries_view (at_place es i e h at_e) in
    let us_are : entries_view (drop i us) ≡ entry_view u ∷ entries_view (drop (i + 1) us) = ap entries_view (at_place us i u (omega (arith, h, same)) at_u) in
    let before_it : Differ i (drop i es) (drop i us) now.0 =
    subst (λ z. DifferInObjects i z (entries_view (drop i us)) now.0) (sym es_are)
    (subst (λ z. DifferInObjects i (entry_view e ∷ entries_view (drop (i + 1) es)) z now.0) (sym us_are) now.1) in
    subst (λ z. Differ 0 es us z) (sym now.2) (so_far now.0 before_it)

-- all were looked at
pub all_compared : (es us : List Entry) (i : ℕ) (numbers : List ℕ) → length es ≤ i → length es ≡ length us →
    ((more : List ℕ) → Differ i (drop i es) (drop i us) more → Differ 0 es us (numbers ++ more)) → Differ 0 es us numbers
all_compared es us i numbers h same so_far =
    let none_left : Differ i (drop i es) (drop i us) [] =
    subst (λ z. DifferInObjects i (entries_view z) (entries_view (drop i us)) []) (sym (drop_of_length-le es h))
    (subst (λ z. DifferInObjects i [] (entries_view z) []) (sym (drop_of_length-le us (omega (arith, h, same)))) nowhere) in
    subst (λ z. Differ 0 es us z) (append-nil numbers) (so_far [] none_left)

-- what comes of the numbers at which no rule is broken
pub keeps : OtherObjectsKeepTypes → (es us : List EntryOf) (beside : Beside) (given : List ℕ) → given ≡ beside.numbers.items → beside.are_objects ≡ true → DiffersFrom es us beside →
    HasNoFault es → All (IsFaultlessAt us) given → HasNoFault us
keeps law es us beside given is are differs sound faultless =
    law differs.names es us beside.numbers.items differs.others (differs.objects are) sound (subst (λ z. All (IsFaultlessAt us) z) is faultless)
