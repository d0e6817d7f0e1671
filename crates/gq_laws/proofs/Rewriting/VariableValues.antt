-- The values of variables do not depend on the places in their definitions.
use Rattle.std.proofs.Common.{◌≡◌, Bool, List, [], ◌∷◌, Option, Some, None, map, refl, ap, ◌∙◌}
use Rattle.std.specs.Prelude.{if◌then◌else◌}
use Rattle.std.specs.Option.{option_map, option_map_or}
use Rattle.gq_text.specs.declared.place.Span.{Span}
use Rattle.gq_tree.specs.Forest.{none, row}
use Rattle.gq_tree.specs.Plain.{TypeOf, Val, VariableOf, no_place, place_value, place_variable}
use Rattle.gq_types.specs.Entries.{EntryOf}
use Rattle.gq_meaning.specs.Values.{Text, Value, Values}
use Rattle.gq_meaning.specs.Directives.{entry_of}
use Rattle.gq_coerce.specs.Coerced.{Coerced, absent, fault, given, Part, entries_of}
use Rattle.gq_coerce.specs.Literals.{Setting, setting, or_default, default_within, literal_value, input_count}
use Rattle.gq_coerce.specs.Variables.{input_value, given_value, variable_part, coerced_variables}
use Rattle.gq_laws.proofs.Renaming.PlacesUnseen.{SameType, same_type, same_null, literal_same, input_same}

abbrev Bare : Type 0
Bare = Unit {0}

module _ (es : List EntryOf) where
  default_same : {t u : TypeOf Span} → SameType t u → (d e : Option (Val Span)) → option_map (place_value no_place) d ≡ option_map (place_value no_place) e → (c : Coerced) → or_default (setting es none) t d c ≡ or_default (setting es none) u e c
  default_same same d e places (given v) = refl
  default_same same d e places fault = refl
  default_same same None None places absent = ap (λ (b : Bool). if b then fault else absent) (same_null same)
  default_same same None (Some e) places absent = absurd (let f : ◌≡◌ {A = Option (Val Bare)} None (Some (place_value no_place e)) = places in cc)
  default_same same (Some d) None places absent = absurd (let f : ◌≡◌ {A = Option (Val Bare)} (Some (place_value no_place d)) None = places in cc)
  default_same {t} {u} same (Some d) (Some e) places absent =
      let s : Setting = record { entries = es; variables = none; default = default_within (input_count es) es } in
      let f : ◌≡◌ {A = Val Bare} (place_value no_place d) (place_value no_place e) = cc in
      literal_same s same (place_value no_place d) ∙ ap (literal_value s u) f

  given_same : (raw : Values) (v w : VariableOf Span) → ◌≡◌ {A = VariableOf Bare} (place_variable no_place w) (place_variable no_place v) → given_value (setting es none) w raw ≡ given_value (setting es none) v raw
  given_same raw v w e =
      let s : Setting = setting es none in
      let types : SameType w.type_ref v.type_ref = same_type w.type_ref v.type_ref (ap (λ (x : VariableOf Bare). x.type_ref) e) in
      let name : w.name.text ≡ v.name.text = ap (λ (x : VariableOf Bare). x.name.text) e in
      let is : option_map_or (input_value s w.type_ref) (entry_of w.name.text raw) absent ≡ option_map_or (input_value s v.type_ref) (entry_of v.name.text raw) absent =
      ap (λ (t : Text). option_map_or (input_value s w.type_ref) (entry_of t raw) absent) name
      ∙ ap (λ (f : Value → Coerced). option_map_or f (entry_of v.name.text raw) absent) (λ i x. input_same s types x i) in
      ap (or_default s w.type_ref w.default) is ∙ default_same types w.default v.default (ap (λ (x : VariableOf Bare). x.default) e) (option_map_or (input_value s v.type_ref) (entry_of v.name.text raw) absent)

  part_same : (raw : Values) (v w : VariableOf Span) → ◌≡◌ {A = VariableOf Bare} (place_variable no_place w) (place_variable no_place v) → variable_part (setting es none) raw w ≡ variable_part (setting es none) raw v
  part_same raw v w e =
      ap (λ (t : Text). let p : Part = record { key = Some t; is = given_value (setting es none) w raw } in p) (ap (λ (x : VariableOf Bare). x.name.text) e)
      ∙ ap (λ (c : Coerced). let p : Part = record { key = Some v.name.text; is = c } in p) (given_same raw v w e)

  parts_same : (raw : Values) (vs ws : List (VariableOf Span)) → map (place_variable no_place) ws ≡ map (place_variable no_place) vs → map (variable_part (setting es none) raw) ws ≡ map (variable_part (setting es none) raw) vs
  parts_same raw [] [] e = refl
  parts_same raw [] (w ∷ ws) e = absurd (cc)
  parts_same raw (v ∷ vs) [] e = absurd (cc)
  parts_same raw (v ∷ vs) (w ∷ ws) e =
      let own : ◌≡◌ {A = VariableOf Bare} (place_variable no_place w) (place_variable no_place v) = cc in
      let rest : map (place_variable no_place) ws ≡ map (place_variable no_place) vs = cc in
      ap (λ (p : Part). p ∷ map (variable_part (setting es none) raw) ws) (part_same raw v w own) ∙ ap (λ (ps : List Part). variable_part (setting es none) raw v ∷ ps) (parts_same raw vs ws rest)

  pub values_same : (raw : Values) (vs ws : List (VariableOf Span)) → map (place_variable no_place) ws ≡ map (place_variable no_place) vs → coerced_variables es ws raw ≡ coerced_variables es vs raw
  values_same raw vs ws e = ap (λ (ps : List Part). option_map row (entries_of ps)) (parts_same raw vs ws e)
