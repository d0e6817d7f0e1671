-- Literals in a row, each read as said, as the code goes over them.
use Rattle.std.proofs.Common.{◌≡◌, ℕ, Bool, true, false, cond, List, [], ◌∷◌, map, Option, Some, None, refl, ap, sym, ◌∙◌}
use Rattle.std.specs.Option.{option_map, option_map_or}
use Rattle.std.specs.List.{find}
use Rattle.std.specs.Str.{bytes_eq}
use Rattle.gq_text.specs.declared.place.Span.{Span}
use Rattle.gq_tree.specs.Forest.{row}
use Rattle.gq_tree.specs.Plain.{Val, NameOf, TypeOf, erase_values, no_place, place_value, place_name}
use Rattle.std.specs.Borrow.{Bor}
use Rattle.gq_tree.specs.declared.type_system.InputValueDefinition.{InputValueDefinition}
use Rattle.gq_tree.specs.Views.{value_view, type_view, input_view, entry_view}
use Rattle.gq_tree.specs.declared.value.Value.{Value}
use Rattle.gq_tree.specs.declared.value.ObjectField.{ObjectField}
use Rattle.gq_tree.proofs.ValueLemmas.{value_key}
use Rattle.gq_meaning.specs.Values.{Text}
use Rattle.gq_coerce.specs.Coerced.{Coerced, Part, part_named}
use Rattle.gq_coerce.specs.Literals.{Setting, ReadAt, at_type, read_all, literal_value, input_part, inputs_from, or_default}
use Rattle.gq_coerce.specs.declared.parts.Part.{Part as Named}
use Rattle.gq_coerce.specs.Helping.Views.{bare, part_view, inputs_view}
use Rattle.gq_coerce.specs.Helping.Readings.{read_value, given_literal}

abbrev key_text : Option (NameOf (Unit {0})) → Option Text
key_text o = option_map (λ n. n.text) o

-- the part that a literal in a row is, and a literal under a name
abbrev pub item_part : Setting → ReadAt → Value → Part
item_part s r v = record { key = None; is = read_value s r (bare v) }

abbrev pub field_part : Setting → ReadAt → ObjectField → Part
field_part s r f = record { key = Some f.name.text; is = read_value s r (bare f.value) }

module _ (s : Setting) (r : ReadAt) where
  bare_key : (v : Value) → key_text (bare v).label.key ≡ None
  bare_key v = ap (λ o. key_text (option_map (place_name no_place) o)) (value_key v)

  pub items_read : (vs : List Value) → read_all s (row (map bare vs)) r ≡ map (item_part s r) vs
  items_read [] = refl
  items_read (v ∷ vs) =
      ap (λ (k : Option Text). let p : Part = record { key = k; is = read_value s r (bare v) } in p ∷ read_all s (row (map bare vs)) r) (bare_key v)
      ∙ ap (λ ps. item_part s r v ∷ ps) (items_read vs)

  pub fields_read : (fs : List ObjectField) → read_all s (row (erase_values (map entry_view fs))) r ≡ map (field_part s r) fs
  fields_read [] = refl
  fields_read (f ∷ fs) = ap (λ ps. field_part s r f ∷ ps) (fields_read fs)

-- what is read of the part of a name
module _ (s : Setting) (t : TypeOf Span) (name : Text) where
  named_by : (p : Named) (ps : List Named) (b : Bool) →
      part_named name (read_all s (row (map part_view ps)) (at_type t)) ≡ given_literal s t (option_map (λ p. value_view p.value.now) (find (λ p. bytes_eq name p.name.now) ps)) →
      cond b (literal_value s t (bare p.value.now)) (part_named name (read_all s (row (map part_view ps)) (at_type t)))
      ≡ given_literal s t (option_map (λ p. value_view p.value.now) (cond b (Some p) (find (λ p. bytes_eq name p.name.now) ps)))
  named_by p ps true rest = refl
  named_by p ps false rest = rest

  pub named_read : (ps : List Named) → part_named name (read_all s (row (map part_view ps)) (at_type t)) ≡ given_literal s t (option_map (λ p. value_view p.value.now) (find (λ p. bytes_eq name p.name.now) ps))
  named_read [] = refl
  named_read (p ∷ ps) = named_by p ps (bytes_eq name p.name.now) (named_read ps)

-- the part that an input is, by its definition
abbrev pub input_of : Setting → List Named → Bor InputValueDefinition → Part
input_of s ps d = input_part s (λ t. read_all s (row (map part_view ps)) (at_type t)) (input_view d.now)

pub inputs_read : (s : Setting) (ps : List Named) (ds : List (Bor InputValueDefinition)) → map (input_of s ps) ds ≡ inputs_from s (inputs_view ds) (λ t. read_all s (row (map part_view ps)) (at_type t))
inputs_read s ps [] = refl
inputs_read s ps (d ∷ ds) = ap (λ rest. input_of s ps d ∷ rest) (inputs_read s ps ds)

-- what is read of it
pub input_reads : (s : Setting) (ps : List Named) (d : Bor InputValueDefinition) (o : Option (Val Span)) (c : Coerced) →
    o ≡ option_map (λ p. value_view p.value.now) (find (λ p. bytes_eq d.now.name.text p.name.now) ps) →
    c ≡ or_default s (type_view d.now.type_ref) (option_map value_view d.now.default) (given_literal s (type_view d.now.type_ref) o) → c ≡ (input_of s ps d).is
input_reads s ps d o c found reads =
    let t = type_view d.now.type_ref in
    reads ∙ ap (λ x. or_default s t (option_map value_view d.now.default) x) (ap (given_literal s t) found ∙ sym (named_read s t d.now.name.text ps))
