-- The input fields of a type with its extensions, gathered from the entries that belong to it.
use Rattle.std.proofs.Common.{◌≡◌, ℕ, List, [], ◌∷◌, ◌++◌, map, flat_map, Option, Some, None, refl, ap, sym, ◌∙◌}
use Rattle.std.specs.Option.{option_map_or}
use Rattle.std.proofs.lemmas.List.{map-append}
use Rattle.gq_text.specs.declared.place.Span.{Span}
use Rattle.gq_tree.specs.Plain.{InputOf}
use Rattle.gq_types.specs.Entries.{Text, EntryOf, Numbered}
use Rattle.gq_types.specs.Joined.{In, put_in, parts_in, inputs_in_body, body_in, joined, inputs_of, type_number}
use Rattle.gq_types.specs.Look.{joined_numbers}
use Rattle.gq_types.proofs.PartLookups.{Stand, joined_stand}
use Rattle.gq_coerce.specs.Literals.{input_fields}
use Rattle.gq_coerce.specs.Helping.Inputs.{inputs_at}

-- what is put in a document is still there
its : {A : Type 0} (file : ℕ) (xs : List A) → map (λ x. x.it) (put_in file xs) ≡ xs
its file [] = refl
its file (x ∷ xs) = ap (λ ys. x ∷ ys) (its file xs)

pub gathered : (es : List EntryOf) (ns : List Numbered) → Stand es ns → flat_map (inputs_at es) (map (λ n. n.number) ns) ≡ map (λ i. i.it) (flat_map (λ n. parts_in inputs_in_body n.entry) ns)
gathered es [] stand = refl
gathered es (n ∷ ns) stand =
    let own = inputs_in_body (body_in n.entry.definition) in
    let here : inputs_at es n.number ≡ own = ap (λ o. option_map_or (λ e. inputs_in_body (body_in e.definition)) o []) stand.0 in
    ap (λ (is : List (InputOf Span)). is ++ flat_map (inputs_at es) (map (λ n. n.number) ns)) (here ∙ sym (its n.entry.file own))
    ∙ ap (λ (is : List (InputOf Span)). map (λ i. i.it) (parts_in inputs_in_body n.entry) ++ is) (gathered es ns stand.1)
    ∙ sym (map-append (λ i. i.it) (parts_in inputs_in_body n.entry) (flat_map (λ n. parts_in inputs_in_body n.entry) ns))

pub fields_are : (es : List EntryOf) (name : Text) (number : ℕ) → type_number es name ≡ Some number → flat_map (inputs_at es) (joined_numbers es number) ≡ input_fields es name
fields_are es name number is = gathered es (joined es number) (joined_stand es number) ∙ sym (ap (λ o. option_map_or (λ number. map (λ i. i.it) (inputs_of es number)) o []) is)

pub no_fields : (es : List EntryOf) (name : Text) → type_number es name ≡ None → [] ≡ input_fields es name
no_fields es name is = sym (ap (λ o. option_map_or (λ number. map (λ i. i.it) (inputs_of es number)) o []) is)
