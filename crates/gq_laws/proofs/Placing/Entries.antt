-- Look-ups in type systems that are equal but for their places.
use Rattle.std.proofs.Common.{◌≡◌, List, map, ap}
use Rattle.std.specs.Str.{bytes_eq}
use Rattle.gq_tree.specs.Plain.{place_name, place_input, place_field, place_enum_value, no_place}
use Rattle.gq_types.specs.Entries.{EntryOf}
use Rattle.gq_types.specs.ErasedEntries.{erase_entry}
use Rattle.gq_types.specs.Joined.{fields_in_body, values_in_body, inputs_in_body, members_in_body, interfaces_in_body}
use Rattle.gq_types.proofs.Placing.Entries.{fields_alike, interfaces_alike, members_alike, values_alike, inputs_alike, definition_kinds, directives_named, found_parts, any_parts, roots}
use Rattle.gq_laws.specs.Placing.Types.{LooksAlike, TypesLookAlike}

module _ (es us : List EntryOf) (same : map erase_entry es ≡ map erase_entry us) where
  pub looks_alike : LooksAlike es us
  looks_alike = record {
    kind = definition_kinds es us same;
    field = λ type_name text. found_parts es us same (place_field no_place) fields_in_body fields_alike (λ d. bytes_eq text d.name.text) (λ a b e. ap (λ z. bytes_eq text z.name.text) e) type_name;
    input = λ type_name text. found_parts es us same (place_input no_place) inputs_in_body inputs_alike (λ d. bytes_eq text d.name.text) (λ a b e. ap (λ z. bytes_eq text z.name.text) e) type_name;
    value = λ type_name text. any_parts es us same (place_enum_value no_place) values_in_body values_alike (λ d. bytes_eq text d.name.text) (λ a b e. ap (λ z. bytes_eq text z.name.text) e) type_name;
    member = λ type_name text. any_parts es us same (place_name no_place) members_in_body members_alike (λ d. bytes_eq text d.text) (λ a b e. ap (λ z. bytes_eq text z.text) e) type_name;
    declared = λ type_name text. any_parts es us same (place_name no_place) interfaces_in_body interfaces_alike (λ d. bytes_eq text d.text) (λ a b e. ap (λ z. bytes_eq text z.text) e) type_name;
    directive = directives_named es us same;
    root = roots es us same;
  }

pub types_look_alike : TypesLookAlike
types_look_alike es us same = looks_alike es us same
