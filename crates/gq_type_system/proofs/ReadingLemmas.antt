-- What literals are read at, as types.
use Rattle.std.proofs.Common.{◌≡◌, ℕ, List, [], ◌++◌, refl, ap, sym, subst, Contains, ⊎_elim, Option, Some, None}
use Rattle.std.specs.Option.{option_map, option_map_or}
use Rattle.gq_text.specs.declared.place.Span.{Span}
use Rattle.gq_tree.specs.Forest.{none, more}
use Rattle.gq_tree.specs.Plain.{NameOf, Says, Part, Val, Vals, TypeOf, InputOf}
use Rattle.gq_types.specs.Entries.{Text, EntryOf}
use Rattle.gq_types.specs.Names.{input_named}
use Rattle.gq_values.specs.Literals.{Expected, at_type, at_any, at_input, at_field, part_at, StandsIn, here, within, after}
use Rattle.gq_type_system.specs.Helping.DefaultValuesPlaces.{type_in, field_type, below_of, gathered}
use Rattle.std.proofs.lemmas.List.Elements.{Contains-append_left, Contains-append_right, Contains-append_cases}
use Rattle.gq_types.proofs.Gathered.{nothing_in as in_none}

input_type : (o : Option (InputOf Span)) → type_in (at_input o) ≡ option_map (λ i. i.type_ref) o
input_type (Some i) = refl
input_type None = refl

-- the type of a field in an object literal, by the input object that the literal is of
pub field_type_is : (es : List EntryOf) (type_name : Option Text) (text : Text) → type_in (at_field es type_name text) ≡ field_type es type_name text
field_type_is es (Some type_name) text = input_type (input_named es type_name text)
field_type_is es None text = refl

typed : (r : Expected) (t : TypeOf Span) → type_in r ≡ Some t → r ≡ at_type t
typed (at_type s) t is = let same : s ≡ t = cc in ap at_type same
typed at_any t is = absurd (cc)

-- inside what is read at no type nothing is
no_type_inside : (es : List EntryOf) (r : Expected) (key : Option (NameOf Span)) → type_in r ≡ None → type_in (part_at es r key) ≡ None
no_type_inside es (at_type t) key is = absurd (cc)
no_type_inside es at_any None is = refl
no_type_inside es at_any (Some key) is = refl

nothing_typed : (es : List EntryOf) {read : Option (NameOf Span) → Expected} {vs : Vals Span} {reading : Expected} {value : Val Span} → ((key : Option (NameOf Span)) → type_in (read key) ≡ None)
    → StandsIn es read vs reading value → type_in reading ≡ None
nothing_typed es untyped (here {part = part}) = untyped part.key
nothing_typed es {read} untyped (within {part = part} w) = nothing_typed es (λ key. no_type_inside es (read part.key) key (untyped part.key)) w
nothing_typed es untyped (after w) = nothing_typed es untyped w

module _ (es : List EntryOf) (at : TypeOf Span → Says Span → Vals Span → List ℕ) where
  -- what is read at a type stands there, and has the number
  pub record Found (read : Option (NameOf Span) → Expected) (vs : Vals Span) (i : ℕ) : Type 0 where
    pub type_ref : TypeOf Span
    pub value : Val Span
    pub stands : StandsIn es read vs (at_type type_ref) value
    pub found : Contains (at type_ref value.label.says value.below) i

  -- the readings in a literal that is read at a type
  same_readings : (t : TypeOf Span) (r : Expected) → type_in r ≡ Some t → below_of es t ≡ part_at es r
  same_readings t r is = ap (part_at es) (sym (typed r t is))

  from_part : (read : Option (NameOf Span) → Expected) (part : Part Span) (below rest : Vals Span) (i : ℕ)
      → ((inner : Option (NameOf Span) → Expected) → Contains (gathered es at inner below) i → Found inner below i)
      → (o : Option (TypeOf Span)) → type_in (read part.key) ≡ o → Contains (option_map_or (λ t. at t part.says below ++ gathered es at (below_of es t) below) o []) i
      → Found read (more part below rest) i
  from_part read part below rest i deeper None is found = absurd (in_none i found)
  from_part read part below rest i deeper (Some t) is found = ⊎_elim
      (λ first. record {
        type_ref = t;
        value = record { label = part; below = below };
        stands = subst (λ r. StandsIn es read (more part below rest) r (record { label = part; below = below })) (typed (read part.key) t is) here;
        found = first;
      })
      (λ deep. let inner = deeper (below_of es t) deep in record {
        type_ref = inner.type_ref;
        value = inner.value;
        stands = within (subst (λ f. StandsIn es f below (at_type inner.type_ref) inner.value) (same_readings t (read part.key) is) inner.stands);
        found = inner.found;
      })
      (Contains-append_cases (at t part.says below) (gathered es at (below_of es t) below) i found)

  pub from_gathered : (vs : Vals Span) (read : Option (NameOf Span) → Expected) (i : ℕ) → Contains (gathered es at read vs) i → Found read vs i
  from_gathered none read i found = absurd (in_none i found)
  from_gathered (more part below rest) read i found = ⊎_elim
      (λ first. from_part read part below rest i (λ inner. from_gathered below inner i) (type_in (read part.key)) refl first)
      (λ later. let there = from_gathered rest read i later in record { type_ref = there.type_ref; value = there.value; stands = after there.stands; found = there.found })
      (Contains-append_cases (option_map_or (λ t. at t part.says below ++ gathered es at (below_of es t) below) (type_in (read part.key)) []) (gathered es at read rest) i found)

  to_part : (part : Part Span) (below : Vals Span) (t : TypeOf Span) (i : ℕ) (o : Option (TypeOf Span)) → o ≡ Some t → Contains (at t part.says below ++ gathered es at (below_of es t) below) i
      → Contains (option_map_or (λ t. at t part.says below ++ gathered es at (below_of es t) below) o []) i
  to_part part below t i o is found = subst (λ o. Contains (option_map_or (λ t. at t part.says below ++ gathered es at (below_of es t) below) o []) i) (sym is) found

  pub to_gathered : {read : Option (NameOf Span) → Expected} {vs : Vals Span} {reading : Expected} {value : Val Span} (t : TypeOf Span) (i : ℕ) → StandsIn es read vs reading value → reading ≡ at_type t
      → Contains (at t value.label.says value.below) i → Contains (gathered es at read vs) i
  to_gathered {read} t i (here {part = part} {below = below} {rest = rest}) is found =
      Contains-append_left (option_map_or (λ t. at t part.says below ++ gathered es at (below_of es t) below) (type_in (read part.key)) []) (gathered es at read rest) i
      (to_part part below t i (type_in (read part.key)) (ap type_in is) (Contains-append_left (at t part.says below) (gathered es at (below_of es t) below) i found))
  to_gathered {read} {reading = reading} t i (within {part = part} {below = below} {rest = rest} w) is found =
      Contains-append_left (option_map_or (λ t. at t part.says below ++ gathered es at (below_of es t) below) (type_in (read part.key)) []) (gathered es at read rest) i
      (by_type (type_in (read part.key)) refl (to_gathered t i w is found))
    where
      by_type : (o : Option (TypeOf Span)) → type_in (read part.key) ≡ o → Contains (gathered es at (part_at es (read part.key)) below) i
          → Contains (option_map_or (λ t. at t part.says below ++ gathered es at (below_of es t) below) (type_in (read part.key)) []) i
      by_type None is_none deep =
          let none_read = nothing_typed es (λ key. no_type_inside es (read part.key) key is_none) w in
          let some_read = ap type_in is in
          absurd (cc)
      by_type (Some s) is_some deep = to_part part below s i (type_in (read part.key)) is_some
          (Contains-append_right (at s part.says below) (gathered es at (below_of es s) below) i
          (subst (λ f. Contains (gathered es at f below) i) (sym (same_readings s (read part.key) is_some)) deep))
  to_gathered {read} t i (after {part = part} {below = below} {rest = rest} w) is found =
      Contains-append_right (option_map_or (λ t. at t part.says below ++ gathered es at (below_of es t) below) (type_in (read part.key)) []) (gathered es at read rest) i (to_gathered t i w is found)
