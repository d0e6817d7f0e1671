-- What directives leave out is the same after variables and the names of their values were changed alike.
use Rattle.std.proofs.Common.{◌≡◌, Bool, true, false, cond, List, [], ◌∷◌, Option, Some, None, map, refl, ap, sym, ◌∙◌}
use Rattle.std.specs.Prelude.{not, codes, if◌then◌else◌, ◌||◌}
use Rattle.std.specs.Option.{option_map, option_map_or}
use Rattle.std.specs.List.{list_any, flat_map}
use Rattle.std.specs.Str.{bytes_eq}
use Rattle.gq_tree.specs.Plain as tree
use Rattle.gq_tree.specs.Plain.{NameOf, Says, Val, DirectiveOf}
use Rattle.gq_index.specs.VariableNames.{says_variable, value_variables, argument_variables, directive_variables, part_variable}
use Rattle.gq_tree.specs.Forest.{labels}
use Rattle.gq_renamed.specs.Renamings.{Renaming, renamed_text}
use Rattle.gq_renamed.specs.Renamed.{rename_says, rename_value, rename_directive}
use Rattle.gq_meaning.specs.Values.{Text, Value, Values}
use Rattle.gq_meaning.specs.Directives.{is_under, entry_of, is_true, is_variable_true, holds_true, argument_of, if_is_true, leaves_out}
use Rattle.gq_coerce.specs.Coerced.{unnamed}
use Rattle.gq_laws.specs.Renaming.Helping.Alike.{IsFresh, AreFresh, ValuesAlike, TakesAlike}
use Rattle.gq_laws.proofs.Renaming.Fresh.{fresh_front, fresh_back, first_fresh}

abbrev Bare : Type 0
Bare = Unit {0}

seen_true : (o : Option Value) → option_map_or (λ v. is_true v.label.says) o false ≡ option_map_or (λ v. is_true v.label.says) (option_map unnamed o) false
seen_true None = refl
seen_true (Some v) = refl

module _ (r : Renaming) (new : Text) (before after : Values) (alike : ValuesAlike r new before after) where
  variable_true : (v : Text) → IsFresh r new v → is_variable_true after (renamed_text r.variables new v) ≡ is_variable_true before v
  variable_true v fresh =
      seen_true (entry_of (renamed_text r.variables new v) after) ∙ ap (λ (o : Option Value). option_map_or (λ v. is_true v.label.says) o false) (alike v fresh) ∙ sym (seen_true (entry_of v before))

  holds_same : (s : Says Bare) → AreFresh r new (says_variable s) → holds_true after (rename_says r new s) ≡ holds_true before s
  holds_same (tree.variable name place) fresh = variable_true name.text (first_fresh r new name fresh)
  holds_same (tree.int text place) fresh = refl
  holds_same (tree.float text place) fresh = refl
  holds_same (tree.string text place) fresh = refl
  holds_same (tree.boolean value place) fresh = refl
  holds_same (tree.null place) fresh = refl
  holds_same (tree.enum name) fresh = refl
  holds_same (tree.list place) fresh = refl
  holds_same (tree.object place) fresh = refl

  found_same : (t : Text) (vs : List (Val Bare)) → AreFresh r new (argument_variables vs) →
      option_map_or (λ a. holds_true after a.label.says) (argument_of t (map (rename_value r new) vs)) false ≡ option_map_or (λ a. holds_true before a.label.says) (argument_of t vs) false
  found_same t [] fresh = refl
  found_same t (v ∷ vs) fresh = by (is_under t v.label.key) (found_same t vs (fresh_back r new (value_variables v) (argument_variables vs) fresh))
    where
      own : holds_true after (rename_says r new v.label.says) ≡ holds_true before v.label.says
      own = holds_same v.label.says (fresh_front r new (part_variable v.label) (flat_map part_variable (labels v.below)) (fresh_front r new (value_variables v) (argument_variables vs) fresh))

      by : (b : Bool) → option_map_or (λ a. holds_true after a.label.says) (argument_of t (map (rename_value r new) vs)) false ≡ option_map_or (λ a. holds_true before a.label.says) (argument_of t vs) false →
          option_map_or (λ a. holds_true after a.label.says) (cond b (Some (rename_value r new v)) (argument_of t (map (rename_value r new) vs))) false
          ≡ option_map_or (λ a. holds_true before a.label.says) (cond b (Some v) (argument_of t vs)) false
      by true rest = own
      by false rest = rest

  leaves_same : (d : DirectiveOf Bare) → AreFresh r new (argument_variables d.arguments) → leaves_out after (rename_directive r new d) ≡ leaves_out before d
  leaves_same d fresh =
      let same : if_is_true after (rename_directive r new d) ≡ if_is_true before d = found_same (codes "if") d.arguments fresh in
      ap (λ (b : Bool). if bytes_eq d.name.text (codes "skip") then b else if bytes_eq d.name.text (codes "include") then not b else false) same

  any_same : (ds : List (DirectiveOf Bare)) → AreFresh r new (directive_variables ds) → list_any (leaves_out after) (map (rename_directive r new) ds) ≡ list_any (leaves_out before) ds
  any_same [] fresh = refl
  any_same (d ∷ ds) fresh =
      ap (λ (b : Bool). b || list_any (leaves_out after) (map (rename_directive r new) ds)) (leaves_same d (fresh_front r new (argument_variables d.arguments) (directive_variables ds) fresh))
      ∙ ap (λ (b : Bool). leaves_out before d || b) (any_same ds (fresh_back r new (argument_variables d.arguments) (directive_variables ds) fresh))

pub takes_alike : TakesAlike
takes_alike r new before after alike w fresh = ap not (any_same r new before after alike w fresh)
