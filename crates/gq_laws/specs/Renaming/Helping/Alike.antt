-- What a change of names leaves alike, for one operation.
use Rattle.std.specs.Prelude.{◌≡◌, true, false, List, Contains, Option, Some, None, map}
use Rattle.gq_text.specs.declared.place.Span.{Span}
use Rattle.gq_tree.specs.Plain.{NameOf, InputOf, VariableOf, no_place, place_variable}
use Rattle.gq_types.specs.Entries.{EntryOf}
use Rattle.gq_index.specs.VariableNames.{argument_variables, directive_variables}
use Rattle.gq_renamed.specs.Renamings.{Renaming, renamed_text}
use Rattle.gq_renamed.specs.Renamed.{rename_value, rename_directive, rename_definition}
use Rattle.gq_meaning.specs.Values.{Text, Values}
use Rattle.gq_meaning.specs.Selected.{Directives, Arguments}
use Rattle.gq_meaning.specs.Directives.{takes_with}
use Rattle.gq_coerce.specs.Literals.{coerced_arguments}
use Rattle.gq_coerce.specs.Variables.{coerced_variables}
use Rattle.gq_laws.specs.Renaming.GivenValues.{value_under}

-- The variable is not called as the new one is, unless it is renamed itself or nothing is. So no two such variables
-- have one name afterwards.
abbrev pub IsFresh : Renaming → Text → Text → Type 0
IsFresh r new v = (text : Text) → r.variables text ≡ true → r.variables v ≡ false → v ≡ new → ⊥

abbrev pub AreFresh : {P : Type 0} → Renaming → Text → List (NameOf P) → Type 0
AreFresh {P} r new names = (n : NameOf P) → Contains names n → IsFresh r new n.text

-- under the new names the same values stand
abbrev pub ValuesAlike : Renaming → Text → Values → Values → Type 0
ValuesAlike r new before after = (v : Text) → IsFresh r new v → value_under (renamed_text r.variables new v) after ≡ value_under v before

abbrev pub FoundAlike : Renaming → Text → Option Values → Option Values → Type 0
FoundAlike r new None None = Unit {0}
FoundAlike r new None (Some after) = ⊥
FoundAlike r new (Some before) None = ⊥
FoundAlike r new (Some before) (Some after) = ValuesAlike r new before after

-- directives leave out the same
abbrev pub TakesAlike : Type 0
TakesAlike = (r : Renaming) (new : Text) (before after : Values) → ValuesAlike r new before after →
    (w : Directives) → AreFresh r new (directive_variables w) → takes_with after (map (rename_directive r new) w) ≡ takes_with before w

-- arguments have the same values
abbrev pub ArgumentsAlike : Type 0
ArgumentsAlike = (r : Renaming) (new : Text) (before after : Values) → ValuesAlike r new before after →
    (es : List EntryOf) (definitions : List (InputOf Span)) (a : Arguments) → AreFresh r new (argument_variables a) → coerced_arguments es after definitions (map (rename_value r new) a) ≡ coerced_arguments es before definitions a

-- at most one name is changed
abbrev pub RenamesOne : Renaming → Type 0
RenamesOne r = (u v : Text) → r.variables u ≡ true → r.variables v ≡ true → u ≡ v

-- variables have the same values, wherever they stand
abbrev pub VariablesAlike : Type 0
VariablesAlike = (r : Renaming) (new : Text) (raw raw_after : Values) → RenamesOne r → ValuesAlike r new raw raw_after →
    (es : List EntryOf) (vs vs_after : List (VariableOf Span)) → map (place_variable no_place) vs_after ≡ map (rename_definition r new) (map (place_variable no_place) vs) →
    AreFresh r new (map (λ v. v.name) vs) → FoundAlike r new (coerced_variables es vs raw) (coerced_variables es vs_after raw_after)
