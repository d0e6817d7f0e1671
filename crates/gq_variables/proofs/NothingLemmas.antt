-- Where no variable stands, nothing is used.
use Rattle.std.proofs.Common.{◌≡◌, ◌+◌, ◌<◌, ℕ, Bool, true, false, List, [], ◌++◌, Option, length, get_or, drop, refl, ap, sym, ◌∙◌, map}
use Rattle.std.specs.Prelude.{◌||◌}
use Rattle.gq_text.specs.declared.place.Span.{Span}
use Rattle.gq_tree.specs.Forest.{none, more}
use Rattle.gq_tree.specs.Plain.{NameOf, Says, Val, Vals, variable, int, float, string, boolean, null, enum, list, object}
use Rattle.gq_tree.specs.Views.{value_view, argument_view}
use Rattle.gq_tree.specs.declared.value.Argument.{Argument}
use Rattle.gq_types.specs.Entries.{EntryOf}
use Rattle.gq_values.proofs.Steps.{turn_seen}
use Rattle.gq_variables.specs.Uses.{PlaceOf, UseOf, part_place, argument_place}
use Rattle.gq_variables.specs.Helping.UsesPlaces.{own_uses, uses_among, value_uses, uses_of_argument, argument_uses}
use Rattle.gq_variables.specs.Helping.UsesNothing.{is_variable, any_variable, has_variable, ArgumentsUseNothing}

neither : (a b : Bool) → (a || b) ≡ false → (a ≡ false) × (b ≡ false)
neither true b h = absurd (cc)
neither false b h = (refl, h)

both_nothing : (a b : List UseOf) → a ≡ [] → b ≡ [] → a ++ b ≡ []
both_nothing a b first second = ap (λ (x : List UseOf). x ++ b) first ∙ second

module _ (es : List EntryOf) (file : ℕ) where
  -- a literal uses nothing where no variable stands in it
  own_nothing : (place : PlaceOf) (says : Says Span) → is_variable says ≡ false → own_uses file place says ≡ []
  own_nothing place (variable name span) h = absurd (cc)
  own_nothing place (int text span) h = refl
  own_nothing place (float text span) h = refl
  own_nothing place (string text span) h = refl
  own_nothing place (boolean value span) h = refl
  own_nothing place (null span) h = refl
  own_nothing place (enum name) h = refl
  own_nothing place (list span) h = refl
  own_nothing place (object span) h = refl

  nothing_among : (at : Option (NameOf Span) → PlaceOf) (vals : Vals Span) → any_variable vals ≡ false → uses_among es file at vals ≡ []
  nothing_among at none h = refl
  nothing_among at (more part below rest) h =
      let parts = neither (is_variable part.says || any_variable below) (any_variable rest) h in
      let both = neither (is_variable part.says) (any_variable below) parts.0 in
      let inner = part_place es (at part.key) in
      both_nothing (own_uses file (at part.key) part.says ++ uses_among es file inner below) (uses_among es file at rest)
      (both_nothing (own_uses file (at part.key) part.says) (uses_among es file inner below) (own_nothing (at part.key) part.says both.0) (nothing_among inner below both.1))
      (nothing_among at rest parts.1)

  nothing_in_value : (place : PlaceOf) (value : Val Span) → has_variable value ≡ false → value_uses es file place value ≡ []
  nothing_in_value place value h =
      let both = neither (is_variable value.label.says) (any_variable value.below) h in
      both_nothing (own_uses file place value.label.says) (uses_among es file (part_place es place) value.below) (own_nothing place value.label.says both.0) (nothing_among (part_place es place) value.below both.1)

-- arguments use nothing where the one at a place has no variable, and those behind it use nothing
pub arguments_from : (arguments : List Argument) (i : ℕ) (argument : Argument) → i < length arguments → argument ≡ get_or arguments i argument → has_variable (value_view argument.value) ≡ false →
    ArgumentsUseNothing (map argument_view (drop (i + 1) arguments)) → ArgumentsUseNothing (map argument_view (drop i arguments))
arguments_from arguments i argument inside is has rest es file known =
    let uses = uses_of_argument es file known in
    let here : List UseOf = uses (argument_view argument) in
    sym (turn_seen uses argument_view arguments i argument [] here (argument_uses es file known (map argument_view (drop i arguments))) inside is refl refl)
    ∙ both_nothing here (argument_uses es file known (map argument_view (drop (i + 1) arguments)))
    (nothing_in_value es file (argument_place known argument.name.text) (value_view argument.value) has) (rest es file known)
