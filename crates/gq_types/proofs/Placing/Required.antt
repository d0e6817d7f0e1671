-- The names that are kept of required input fields are those of type systems that are equal but for their places.
use Rattle.std.proofs.Common.{◌≡◌, ℕ, List, [], ◌∷◌, ◌++◌, Option, Some, None, map, refl, ap, ◌∙◌}
use Rattle.std.specs.Prelude.{not, ◌&&◌, if◌then◌else◌, is_none}
use Rattle.std.specs.List.{list_any}
use Rattle.std.specs.Option.{option_map}
use Rattle.std.specs.Str.{bytes_eq}
use Rattle.gq_text.specs.declared.place.Span.{Span}
use Rattle.gq_tree.specs.Plain.{TypeOf, named, list_of, non_null, Val, InputOf, place_value, place_type, place_input, no_place}
use Rattle.gq_tree.specs.Wrapping.{is_non_null}
use Rattle.gq_types.specs.Entries.{Text, EntryOf}
use Rattle.gq_types.specs.Outlines.{outline}
use Rattle.gq_types.specs.Joined.{In, body_in, inputs_in_body, inputs_of, joined, parts_in}
use Rattle.gq_types.specs.Required.{is_required}
use Rattle.gq_types.specs.Helping.RequiredNames.{AreRequired, required_after}
use Rattle.gq_types.proofs.Placing.Alike.{back, seen}
use Rattle.gq_types.proofs.Placing.Entries.{put_alike}
use Rattle.gq_types.proofs.Placing.Outlines.{body_alike, inputs_alike, joined_alike, outline_numbered}
use Rattle.gq_types.proofs.Placing.Lists.{gathered, lengths}

-- whether an input field or argument is required
non_null_erased : (t : TypeOf Span) → is_non_null t ≡ is_non_null (place_type back (place_type no_place t))
non_null_erased (named name) = refl
non_null_erased (list_of item) = refl
non_null_erased (non_null inner) = refl

none_erased : (o : Option (Val Span)) → is_none o ≡ is_none (option_map (place_value back) (option_map (place_value no_place) o))
none_erased None = refl
none_erased (Some v) = refl

required_erased : (i : InputOf Span) → is_required i ≡ is_required (place_input back (place_input no_place i))
required_erased i =
    ap (λ b. b && is_none i.default) (non_null_erased i.type_ref)
    ∙ ap (λ b. is_non_null (place_type back (place_type no_place i.type_ref)) && b) (none_erased i.default)

needed : (i j : InputOf Span) → place_input no_place i ≡ place_input no_place j → is_required i ≡ is_required j
needed i j e = seen (place_input no_place) (place_input back) is_required required_erased i j e

-- the names of the required ones
pub required_alike : (is js : List (InputOf Span)) → map (place_input no_place) is ≡ map (place_input no_place) js → (before : List Text) → required_after before is ≡ required_after before js
required_alike [] [] e before = refl
required_alike [] (j ∷ js) e before = absurd (cc)
required_alike (i ∷ is) [] e before = absurd (cc)
required_alike (i ∷ is) (j ∷ js) e before =
    let first : place_input no_place i ≡ place_input no_place j = cc in
    let rest : map (place_input no_place) is ≡ map (place_input no_place) js = cc in
    let text : i.name.text ≡ j.name.text = ap (λ z. z.name.text) first in
    let required : is_required i ≡ is_required j = needed i j first in
    ap (λ t. (if not (list_any (bytes_eq t) before) && is_required i then t ∷ [] else []) ++ required_after (before ++ t ∷ []) is) text
    ∙ ap (λ b. (if not (list_any (bytes_eq j.name.text) before) && b then j.name.text ∷ [] else []) ++ required_after (before ++ j.name.text ∷ []) is) required
    ∙ ap (λ z. (if not (list_any (bytes_eq j.name.text) before) && is_required j then j.name.text ∷ [] else []) ++ z) (required_alike is js rest (before ++ j.name.text ∷ []))

-- those of types
each_alike : (ps qs : List (In (InputOf Span))) → map (λ p. place_input no_place p.it) ps ≡ map (λ p. place_input no_place p.it) qs
    → map (place_input no_place) (map (λ p. p.it) ps) ≡ map (place_input no_place) (map (λ p. p.it) qs)
each_alike [] [] e = refl
each_alike [] (q ∷ qs) e = absurd (cc)
each_alike (p ∷ ps) [] e = absurd (cc)
each_alike (p ∷ ps) (q ∷ qs) e =
    let first : place_input no_place p.it ≡ place_input no_place q.it = cc in
    let rest : map (λ p. place_input no_place p.it) ps ≡ map (λ p. place_input no_place p.it) qs = cc in
    ap (λ z. z ∷ map (place_input no_place) (map (λ p. p.it) ps)) first ∙ ap (λ z. place_input no_place q.it ∷ z) (each_alike ps qs rest)

inputs_stay : (es us : List EntryOf) → map outline es ≡ map outline us → (number : ℕ) → map (λ p. place_input no_place p.it) (inputs_of es number) ≡ map (λ p. place_input no_place p.it) (inputs_of us number)
inputs_stay es us same number = gathered outline_numbered (λ (p : In (InputOf Span)). place_input no_place p.it) (λ n. parts_in inputs_in_body n.entry)
    (λ n m e. put_alike (place_input no_place) n.entry.file m.entry.file (inputs_in_body (body_in n.entry.definition)) (inputs_in_body (body_in m.entry.definition))
    (inputs_alike (body_in n.entry.definition) (body_in m.entry.definition) (body_alike n.entry.definition m.entry.definition (ap (λ z. z.1) e))))
    (joined es number) (joined us number) (joined_alike es us same number)

pub required_stays : (es us : List EntryOf) → map outline es ≡ map outline us → (lists : List (List Text)) → AreRequired es lists → AreRequired us lists
required_stays es us same lists are = record {
  count = are.count ∙ lengths outline es us same;
  each = λ i names at. are.each i names at
      ∙ required_alike (map (λ p. p.it) (inputs_of es i)) (map (λ p. p.it) (inputs_of us i)) (each_alike (inputs_of es i) (inputs_of us i) (inputs_stay es us same i)) [];
}
