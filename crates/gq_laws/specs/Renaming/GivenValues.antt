-- Values that are given for variables before and after one of these has another name.
use Rattle.std.specs.Prelude.{◌≡◌, Option}
use Rattle.std.specs.Option.{option_map}
use Rattle.gq_meaning.specs.Values.{Text, Value, Values}
use Rattle.gq_meaning.specs.Directives.{entry_of}
use Rattle.gq_coerce.specs.Coerced.{unnamed}

-- what is given under a name
abbrev pub value_under : Text → Values → Option Value
value_under name values = option_map unnamed (entry_of name values)

-- what is given under the old name is given under the new one, and the same under all others
pub record AreRenamedValues (old new : Text) (before after : Values) : Type 0 where
  pub renamed : value_under new after ≡ value_under old before
  pub others : (name : Text) → (name ≡ old → ⊥) → (name ≡ new → ⊥) → value_under name after ≡ value_under name before
