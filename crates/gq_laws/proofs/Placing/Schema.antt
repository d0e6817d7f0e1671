-- The field faults over type systems in which each look-up finds the same, but for its places.
use Rattle.std.proofs.Common.{◌≡◌, List, Option, Some, None, map, refl, ap, ◌∙◌}
use Rattle.std.specs.Prelude.{◌&&◌, is_none}
use Rattle.std.specs.Str.{bytes_eq}
use Rattle.std.specs.Option.{option_map}
use Rattle.gq_text.specs.declared.place.Span.{Span}
use Rattle.gq_tree.specs.Plain.{TypeOf, named, list_of, non_null, InputOf, TypeSystemOf, schema, type_definition, directive_definition, Val, place_type, place_input, place_type_system, place_value, no_place}
use Rattle.gq_tree.specs.NamedTypes.{base_name}
use Rattle.gq_tree.specs.Wrapping.{is_non_null}
use Rattle.gq_types.specs.Entries.{Text}
use Rattle.gq_types.specs.Arguments.{arguments_in}
use Rattle.gq_types.specs.Directives.{locations_in}
use Rattle.gq_types.specs.Names.{argument_named}
use Rattle.gq_types.specs.Required.{is_required}
use Rattle.gq_values.specs.Literals.{at_input}
use Rattle.gq_values.specs.DirectiveFaults.{is_repeatable}
use Rattle.gq_types.proofs.Placing.Alike.{back, seen}
use Rattle.gq_types.proofs.Placing.Lists.{found}
use Rattle.gq_laws.proofs.Placing.Literals.{erase_expected}

-- what is asked of what is found
pub none_too : {A B : Type 0} (h : A → B) (a c : Option A) → option_map h a ≡ option_map h c → a ≡ None → c ≡ None
none_too h (Some x) c e n = absurd (cc)
none_too h None None e n = refl
none_too h None (Some y) e n = absurd (cc)

base_erased : (t : TypeOf Span) → base_name t ≡ base_name (place_type back (place_type no_place t))
base_erased (named name) = refl
base_erased (list_of item) = base_erased item
base_erased (non_null inner) = base_erased inner

pub base_alike : (t u : TypeOf Span) → place_type no_place t ≡ place_type no_place u → base_name t ≡ base_name u
base_alike t u e = seen (place_type no_place) (place_type back) (λ z. base_name z) base_erased t u e

pub non_null_erased : (t : TypeOf Span) → is_non_null t ≡ is_non_null (place_type back (place_type no_place t))
non_null_erased (named name) = refl
non_null_erased (list_of item) = refl
non_null_erased (non_null inner) = refl

default_erased : (o : Option (Val Span)) → is_none o ≡ is_none (option_map (place_value back) (option_map (place_value no_place) o))
default_erased None = refl
default_erased (Some v) = refl

required_erased : (i : InputOf Span) → is_required i ≡ is_required (place_input back (place_input no_place i))
required_erased i = ap (λ b. b && is_none i.default) (non_null_erased i.type_ref) ∙ ap (λ b. is_non_null (place_type back (place_type no_place i.type_ref)) && b) (default_erased i.default)

pub required_alike : (i j : InputOf Span) → place_input no_place i ≡ place_input no_place j → is_required i ≡ is_required j
required_alike i j e = seen (place_input no_place) (place_input back) (λ z. is_required z) required_erased i j e

pub at_input_alike : (a c : Option (InputOf Span)) → option_map (place_input no_place) a ≡ option_map (place_input no_place) c → erase_expected (at_input a) ≡ erase_expected (at_input c)
at_input_alike None None e = refl
at_input_alike None (Some j) e = absurd (cc)
at_input_alike (Some i) None e = absurd (cc)
at_input_alike (Some i) (Some j) e =
    let inputs : place_input no_place i ≡ place_input no_place j = cc in
    ap (λ z. Some z.type_ref) inputs

-- definitions of arguments
pub argument_named_alike : (text : Text) (vs bs : List (InputOf Span)) → map (place_input no_place) vs ≡ map (place_input no_place) bs →
    option_map (place_input no_place) (argument_named vs text) ≡ option_map (place_input no_place) (argument_named bs text)
argument_named_alike text vs bs e = found (place_input no_place) (λ i. bytes_eq text i.name.text) (λ i. bytes_eq text i.name.text) (λ i j h. ap (λ z. bytes_eq text z.name.text) h) vs bs e

-- definitions of directives
pub directive_alike : (d u : TypeSystemOf Span) → place_type_system no_place d ≡ place_type_system no_place u →
    (is_repeatable d ≡ is_repeatable u) × (locations_in d ≡ locations_in u) × (map (place_input no_place) (arguments_in d) ≡ map (place_input no_place) (arguments_in u))
directive_alike (schema a b c d e) (schema a2 b2 c2 d2 e2) h = (refl, refl, refl)
directive_alike (type_definition a b c d e g) (type_definition a2 b2 c2 d2 e2 g2) h = (refl, refl, refl)
directive_alike (directive_definition a b c d e g) (directive_definition a2 b2 c2 d2 e2 g2) h = (cc, cc, cc)
directive_alike _ _ h = absurd (cc)
