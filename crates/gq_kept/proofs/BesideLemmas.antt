-- Type systems that differ in one definition of an object type.
use Rattle.std.proofs.Common.{◌≡◌, ℕ, zero, suc, ◌+◌, Bool, true, false, List, [], ◌∷◌, Some, map, length, get_or, refl, sym, ap, ◌∙◌, subst, Contains, slice_get, arith}
use Rattle.std.specs.Option.{option_map, option_map_or}
use Rattle.std.proofs.Math.Logic.{∥∥₁_elim}
use Rattle.std.proofs.Props.{props}
use Rattle.gq_text.specs.declared.place.Span.{Span}
use Rattle.gq_tree.specs.Plain.{BodyOf, scalar_type, object_type, interface_type, union_type, enum_type, input_type, TypeSystemOf, schema, type_definition, directive_definition, place_body, place_type_system, no_place}
use Rattle.gq_types.specs.Entries.{Text, EntryOf}
use Rattle.gq_types.specs.ErasedEntries.{erase_entry}
use Rattle.gq_types.specs.Outlines.{body_outline, definition_outline, defines_type, outline, DiffersAt}
use Rattle.gq_types.proofs.Gathered.{first, later, only}
use Rattle.gq_types.proofs.Placing.Lists.{weaken}
use Rattle.gq_laws.specs.Placing.ObjectTypes.{DifferInObjects, defines_object, nowhere, not_here, here}
use Rattle.gq_laws.specs.Placing.OtherFields.{body_without, definition_without, erase_without}
use Rattle.gq_schema.specs.SchemaOf.{HasNoFault}
use Rattle.gq_kept.specs.Helping.Compared.{DiffersFrom}
use Rattle.gq_kept.specs.Helping.TypesOf.{Tells}
use Rattle.gq_kept.specs.declared.beside.Beside.{Beside}

-- what is forgotten with some fields is forgotten with all
body_outlined : (names : List Text) (b : BodyOf Span) → body_outline (place_body no_place b) ≡ body_outline (place_body no_place (body_without names b))
body_outlined names scalar_type = refl
body_outlined names (object_type interfaces fields) = refl
body_outlined names (interface_type interfaces fields) = refl
body_outlined names (union_type members) = refl
body_outlined names (enum_type values) = refl
body_outlined names (input_type fields) = refl

outlined : (names : List Text) (d : TypeSystemOf Span) → definition_outline (place_type_system no_place d) ≡ definition_outline (place_type_system no_place (definition_without names d))
outlined names (schema extends description directives roots place) = refl
outlined names (type_definition extends description name directives body place) =
    let bodies = body_outlined names body in
    cc
outlined names (directive_definition description name arguments repeatable locations place) = refl

outlines_without : (names : List Text) (es us : List EntryOf) → map (erase_without names) es ≡ map (erase_without names) us → map outline es ≡ map outline us
outlines_without names es us same =
    weaken (erase_without names) outline (λ a b e. outlined names a.definition ∙ ap definition_outline e ∙ sym (outlined names b.definition)) es us same

object_defined : (d : TypeSystemOf Span) → defines_object d ≡ true → defines_type d ≡ true
object_defined (schema extends description directives roots place) is = absurd (cc)
object_defined (type_definition true description name directives body place) is = absurd (cc)
object_defined (type_definition false description name directives body place) is = refl
object_defined (directive_definition description name arguments repeatable locations place) is = absurd (cc)

-- what stands at no number of those is the same but for its place
others_alike : {number : ℕ} {es us : List EntryOf} {numbers : List ℕ} → DifferInObjects number es us numbers → (k : ℕ) → ((n : ℕ) → Contains numbers n → n ≡ k + number → ⊥)
    → option_map erase_entry (slice_get es k) ≡ option_map erase_entry (slice_get us k)
others_alike nowhere k free = refl
others_alike (not_here is d) zero free = ap (λ z. Some z) is
others_alike {number = number} (not_here is d) (suc k) free = others_alike d k (λ n c e. free n c (e ∙ omega arith))
others_alike {number = number} (here {numbers = numbers} a b d) zero free = absurd (free number (first number number numbers refl) (omega arith))
others_alike {number = number} (here {numbers = numbers} a b d) (suc k) free = others_alike d k (λ n c e. free n (later number n numbers c) (e ∙ omega arith))

-- at the first of them stands an object type
first_stands : {number : ℕ} {es us : List EntryOf} {numbers : List ℕ} → DifferInObjects number es us numbers → (n : ℕ) (more : List ℕ) → numbers ≡ n ∷ more
    → (k : ℕ) × (n ≡ k + number) × (option_map_or (λ e. defines_type e.definition) (slice_get es k) false ≡ true)
first_stands nowhere n more is = absurd (cc)
first_stands {number = number} (not_here same d) n more is =
    let r = first_stands d n more is in
    (suc r.0, r.1 ∙ omega arith, r.2)
first_stands {number = number} (here {e = e} a b d) n more is =
    let same : number ≡ n = cc in
    (0, sym same ∙ omega arith, object_defined e.definition a)

one_of : (ns : List ℕ) → length ns ≡ 1 → (n : ℕ) → n ≡ get_or ns 0 n → ns ≡ n ∷ []
one_of [] is n at = absurd (cc)
one_of (m ∷ []) is n at = ap (λ z. z ∷ []) (sym at)
one_of (m ∷ k ∷ ns) is n at = absurd (omega (arith, is))

pub differs_at : (es us : List EntryOf) (beside : Beside) (number : ℕ) → beside.are_objects ≡ true → length beside.numbers.items ≡ 1 → number ≡ get_or beside.numbers.items 0 number → DiffersFrom es us beside → DiffersAt number es us
differs_at es us beside number are count at differs =
    let is : beside.numbers.items ≡ number ∷ [] = one_of beside.numbers.items count number at in
    let d : DifferInObjects 0 es us (number ∷ []) = subst (λ z. DifferInObjects 0 es us z) is (differs.objects are) in
    let stands = first_stands d number [] refl in
    let here : number ≡ stands.0 = stands.1 ∙ omega arith in
    record {
      outlines = outlines_without differs.names es us differs.others;
      others = λ k other. others_alike d k (λ n c e. let at : k ≡ n = omega (arith, e) in other (at ∙ only number n c));
      defines = ap (λ k. option_map_or (λ e. defines_type e.definition) (slice_get es k) false) here ∙ stands.2;
    }

-- what is told of a type system beside another one
pub told_of : (es us now : List EntryOf) (beside : Beside) (held holds : Bool) → now ≡ us → ∥ DiffersFrom es us beside ∥₁
    → ((old : List EntryOf) → DiffersFrom old now beside → (held ≡ true → HasNoFault old) → Tells holds now) → (held ≡ true → HasNoFault es) → Tells holds us
told_of es us now beside held holds is differs tells was =
    let told : DiffersFrom es us beside → Tells holds us = λ d.
    subst (λ xs. Tells holds xs) is (tells es (subst (λ xs. DiffersFrom es xs beside) (sym is) d) was) in (
      λ sound fault broken. ∥∥₁_elim differs (hlevel props) (λ d. (told d).0 sound fault broken),
      λ faulty none. ∥∥₁_elim differs (hlevel props) (λ d. (told d).1 faulty none),
    )
