-- The values of variables are the same after their names were changed, wherever they stand.
use Rattle.std.proofs.Common.{◌≡◌, Bool, true, false, cond, List, [], ◌∷◌, Option, Some, None, map, refl, sym, ap, subst, ◌∙◌}
use Rattle.std.specs.Prelude.{if◌then◌else◌}
use Rattle.std.specs.Option.{option_map, option_map_or, option_or}
use Rattle.std.specs.Str.{bytes_eq}
use Rattle.std.specs.Cmp.Lexicographic.{bytes_decides}
use Rattle.std.proofs.lemmas.Bool.{false_from_ne_true}
use Rattle.gq_text.specs.declared.place.Span.{Span}
use Rattle.gq_tree.specs.Forest.{none, row}
use Rattle.gq_tree.specs.Plain.{TypeOf, Val, VariableOf, no_place, place_value, place_variable}
use Rattle.gq_types.specs.Entries.{EntryOf}
use Rattle.gq_types.proofs.Gathered.{first, later}
use Rattle.gq_renamed.specs.Renamings.{Renaming, renamed_text}
use Rattle.gq_renamed.specs.Renamed.{rename_definition}
use Rattle.gq_meaning.specs.Values.{Text, Value, Values}
use Rattle.gq_meaning.specs.Directives.{entry_of}
use Rattle.gq_coerce.specs.Coerced.{Coerced, absent, fault, given, unnamed, Part, put_entry, entry_with, entries_of}
use Rattle.gq_coerce.specs.Literals.{Setting, setting, or_default, default_within, literal_value, input_count}
use Rattle.gq_coerce.specs.Variables.{input_value, given_value, variable_part}
use Rattle.gq_laws.specs.Renaming.GivenValues.{value_under}
use Rattle.gq_laws.specs.Renaming.Helping.Alike.{IsFresh, AreFresh, ValuesAlike, FoundAlike, RenamesOne, VariablesAlike}
use Rattle.gq_laws.proofs.Renaming.Ascending.{Ascending, put_ascends, put_own, put_other}
use Rattle.gq_laws.proofs.Renaming.PlacesUnseen.{SameType, same_type, same_null, literal_same, input_same}

-- two fresh names are not made one
module _ (r : Renaming) (new : Text) (one : RenamesOne r) where
  by_cases : (u v : Text) → IsFresh r new u → IsFresh r new v → (a b : Bool) → r.variables u ≡ a → r.variables v ≡ b → cond a new u ≡ cond b new v → u ≡ v
  by_cases u v f g true true p q e = one u v p q
  by_cases u v f g true false p q e = absurd (g u p q (sym e))
  by_cases u v f g false true p q e = absurd (f v q p e)
  by_cases u v f g false false p q e = e

  pub kept_apart : (u v : Text) → IsFresh r new u → IsFresh r new v → renamed_text r.variables new u ≡ renamed_text r.variables new v → u ≡ v
  kept_apart u v f g e = by_cases u v f g (r.variables u) (r.variables v) refl refl e

  -- ---- entries

  pub data PartsAlike : List Part → List Part → Type 0 where
    no_parts : PartsAlike [] []
    one_part : {n : Text} {is : Coerced} {ps qs : List Part} → IsFresh r new n → PartsAlike ps qs → PartsAlike (record { key = Some n; is = is } ∷ ps) (record { key = Some (renamed_text r.variables new n); is = is } ∷ qs)

  -- in the order of their names, with the same values
  pub record BothAlike (es fs : List Value) : Type 0 where
    pub ascends : Ascending es
    pub ascends_too : Ascending fs
    pub alike : ValuesAlike r new (row es) (row fs)

  abbrev EntriesAlike : Option (List Value) → Option (List Value) → Type 0
  EntriesAlike None None = Unit {0}
  EntriesAlike None (Some fs) = ⊥
  EntriesAlike (Some es) None = ⊥
  EntriesAlike (Some es) (Some fs) = BothAlike es fs

  one_more : (n : Text) (v : Value) (es fs : List Value) → IsFresh r new n → BothAlike es fs → BothAlike (put_entry n v es) (put_entry (renamed_text r.variables new n) v fs)
  one_more n v es fs fresh h = record {
    ascends = put_ascends n v es h.ascends;
    ascends_too = put_ascends (renamed_text r.variables new n) v fs h.ascends_too;
    alike = λ u free. by u free (bytes_eq u n) refl;
  }
    where
      m : Text
      m = renamed_text r.variables new n

      by : (u : Text) → IsFresh r new u → (b : Bool) → bytes_eq u n ≡ b → value_under (renamed_text r.variables new u) (row (put_entry (renamed_text r.variables new n) v fs)) ≡ value_under u (row (put_entry n v es))
      by u free true e =
          let same : u ≡ n = (bytes_decides u n).0 e in
          let own : value_under (renamed_text r.variables new n) (row (put_entry (renamed_text r.variables new n) v fs)) ≡ value_under n (row (put_entry n v es)) =
          put_own (renamed_text r.variables new n) v fs h.ascends_too ∙ ap (λ (o : Option Value). option_or o (Some (unnamed v))) (h.alike n fresh) ∙ sym (put_own n v es h.ascends) in
          subst (λ (t : Text). value_under (renamed_text r.variables new t) (row (put_entry (renamed_text r.variables new n) v fs)) ≡ value_under t (row (put_entry n v es))) (sym same) own
      by u free false e =
          let apart : bytes_eq (renamed_text r.variables new u) (renamed_text r.variables new n) ≡ false =
          false_from_ne_true (bytes_eq (renamed_text r.variables new u) (renamed_text r.variables new n)) (λ (t : bytes_eq (renamed_text r.variables new u) (renamed_text r.variables new n) ≡ true).
          let same : u ≡ n = kept_apart u n free fresh ((bytes_decides (renamed_text r.variables new u) (renamed_text r.variables new n)).0 t) in
          let f : true ≡ false = sym ((bytes_decides u n).1 same) ∙ e in absurd (cc)) in
          put_other (renamed_text r.variables new u) (renamed_text r.variables new n) v fs apart ∙ h.alike u free ∙ sym (put_other u n v es e)

  step : (n : Text) (is : Coerced) (o p : Option (List Value)) → IsFresh r new n → EntriesAlike o p → EntriesAlike (entry_with (Some n) is o) (entry_with (Some (renamed_text r.variables new n)) is p)
  step n is None None fresh h = tt
  step n is None (Some fs) fresh h = absurd h
  step n is (Some es) None fresh h = absurd h
  step n absent (Some es) (Some fs) fresh h = h
  step n fault (Some es) (Some fs) fresh h = tt
  step n (given v) (Some es) (Some fs) fresh h = one_more n v es fs fresh h

  pub entries_alike : {ps qs : List Part} → PartsAlike ps qs → EntriesAlike (entries_of ps) (entries_of qs)
  entries_alike no_parts = record { ascends = tt; ascends_too = tt; alike = λ u free. refl }
  entries_alike (one_part {n = n} {is = is} {ps = ps} {qs = qs} fresh rest) = step n is (entries_of ps) (entries_of qs) fresh (entries_alike rest)

  pub found_alike : (o p : Option (List Value)) → EntriesAlike o p → FoundAlike r new (option_map row o) (option_map row p)
  found_alike None None h = tt
  found_alike None (Some fs) h = absurd h
  found_alike (Some es) None h = absurd h
  found_alike (Some es) (Some fs) h = h.alike

-- ---- what is given

seen : (s : Setting) (t : TypeOf Span) (o : Option Value) → option_map_or (input_value s t) o absent ≡ option_map_or (input_value s t) (option_map unnamed o) absent
seen s t None = refl
seen s t (Some v) = refl

abbrev Bare : Type 0
Bare = Unit {0}

default_same : (es : List EntryOf) {t u : TypeOf Span} → SameType t u → (d e : Option (Val Span)) → option_map (place_value no_place) d ≡ option_map (place_value no_place) e → (c : Coerced) → or_default (setting es none) t d c ≡ or_default (setting es none) u e c
default_same es same d e places (given v) = refl
default_same es same d e places fault = refl
default_same es same None None places absent = ap (λ (b : Bool). if b then fault else absent) (same_null same)
default_same es same None (Some e) places absent = absurd (let f : ◌≡◌ {A = Option (Val Bare)} None (Some (place_value no_place e)) = places in cc)
default_same es same (Some d) None places absent = absurd (let f : ◌≡◌ {A = Option (Val Bare)} (Some (place_value no_place d)) None = places in cc)
default_same es {t} {u} same (Some d) (Some e) places absent =
    let s : Setting = record { entries = es; variables = none; default = default_within (input_count es) es } in
    let f : ◌≡◌ {A = Val Bare} (place_value no_place d) (place_value no_place e) = cc in
    literal_same s same (place_value no_place d) ∙ ap (literal_value s u) f

module _ (r : Renaming) (new : Text) (one : RenamesOne r) (raw raw_after : Values) (alike : ValuesAlike r new raw raw_after) (es : List EntryOf) where
  given_same : (v w : VariableOf Span) → ◌≡◌ {A = VariableOf Bare} (place_variable no_place w) (rename_definition r new (place_variable no_place v)) → IsFresh r new v.name.text → given_value (setting es none) w raw_after ≡ given_value (setting es none) v raw
  given_same v w e fresh =
      let s : Setting = setting es none in
      let types : SameType w.type_ref v.type_ref = same_type w.type_ref v.type_ref (ap (λ (x : VariableOf Bare). x.type_ref) e) in
      let name : w.name.text ≡ renamed_text r.variables new v.name.text = ap (λ (x : VariableOf Bare). x.name.text) e in
      let found : option_map unnamed (entry_of w.name.text raw_after) ≡ option_map unnamed (entry_of v.name.text raw) = ap (λ (t : Text). value_under t raw_after) name ∙ alike v.name.text fresh in
      let is : option_map_or (input_value s w.type_ref) (entry_of w.name.text raw_after) absent ≡ option_map_or (input_value s v.type_ref) (entry_of v.name.text raw) absent =
      seen s w.type_ref (entry_of w.name.text raw_after)
      ∙ ap (λ (o : Option Value). option_map_or (input_value s w.type_ref) o absent) found
      ∙ ap (λ (f : Value → Coerced). option_map_or f (option_map unnamed (entry_of v.name.text raw)) absent) (λ i x. input_same s types x i)
      ∙ sym (seen s v.type_ref (entry_of v.name.text raw)) in
      ap (or_default s w.type_ref w.default) is ∙ default_same es types w.default v.default (ap (λ (x : VariableOf Bare). x.default) e) (option_map_or (input_value s v.type_ref) (entry_of v.name.text raw) absent)

  part_same : (v w : VariableOf Span) → ◌≡◌ {A = VariableOf Bare} (place_variable no_place w) (rename_definition r new (place_variable no_place v)) → IsFresh r new v.name.text →
      variable_part (setting es none) raw_after w ≡ record { key = Some (renamed_text r.variables new v.name.text); is = given_value (setting es none) v raw }
  part_same v w e fresh =
      ap (λ (t : Text). let p : Part = record { key = Some t; is = given_value (setting es none) w raw_after } in p) (ap (λ (x : VariableOf Bare). x.name.text) e)
      ∙ ap (λ (c : Coerced). let p : Part = record { key = Some (renamed_text r.variables new v.name.text); is = c } in p) (given_same v w e fresh)

  parts_alike : (vs ws : List (VariableOf Span)) → map (place_variable no_place) ws ≡ map (rename_definition r new) (map (place_variable no_place) vs) → AreFresh r new (map (λ v. v.name) vs) →
      PartsAlike r new one (map (variable_part (setting es none) raw) vs) (map (variable_part (setting es none) raw_after) ws)
  parts_alike [] [] e fresh = no_parts
  parts_alike [] (w ∷ ws) e fresh = absurd (cc)
  parts_alike (v ∷ vs) [] e fresh = absurd (cc)
  parts_alike (v ∷ vs) (w ∷ ws) e fresh =
      let own : ◌≡◌ {A = VariableOf Bare} (place_variable no_place w) (rename_definition r new (place_variable no_place v)) = cc in
      let rest : map (place_variable no_place) ws ≡ map (rename_definition r new) (map (place_variable no_place) vs) = cc in
      let free : IsFresh r new v.name.text = fresh v.name (first v.name v.name (map (λ x. x.name) vs) refl) in
      subst (λ (p : Part). PartsAlike r new one (variable_part (setting es none) raw v ∷ map (variable_part (setting es none) raw) vs) (p ∷ map (variable_part (setting es none) raw_after) ws)) (sym (part_same v w own free))
      (one_part free (parts_alike vs ws rest (λ n c. fresh n (later v.name n (map (λ x. x.name) vs) c))))

pub variables_alike : VariablesAlike
variables_alike r new raw raw_after one alike es vs vs_after e fresh =
    let parts = parts_alike r new one raw raw_after alike es vs vs_after e fresh in
    found_alike r new one (entries_of (map (variable_part (setting es none) raw) vs)) (entries_of (map (variable_part (setting es none) raw_after) vs_after)) (entries_alike r new one parts)
