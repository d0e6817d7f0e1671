-- Arguments and variables, as the code answers them.
use Rattle.std.proofs.Common.{◌≡◌, ℕ, suc, List, map, Option, Some, None, Vec, Global, ap, sym, ◌∙◌}
use Rattle.std.specs.Option.{option_map}
use Rattle.gq_text.specs.declared.place.Span.{Span}
use Rattle.gq_tree.specs.Forest.{none, row}
use Rattle.gq_tree.specs.Plain.{Val, InputOf, VariableOf}
use Rattle.gq_meaning.specs.Values.{Values}
use Rattle.gq_types.specs.Entries.{EntryOf}
use Rattle.gq_table.specs.declared.values.Entry.{Entry}
use Rattle.gq_table.specs.Views.{entry_view, entries_view}
use Rattle.gq_coerce.specs.Coerced.{entries_of}
use Rattle.gq_coerce.specs.Literals.{Setting, at_type, read_all, inputs_from, default_within, input_count, coerced_arguments}
use Rattle.gq_coerce.specs.Variables.{variable_part, coerced_variables}
use Rattle.gq_coerce.proofs.RawReadings.{in_row}

abbrev setting_at : List EntryOf → Values → ℕ → Setting
setting_at es vs n = record { entries = es; variables = vs; default = default_within n es }

abbrev arguments_at : List EntryOf → Values → ℕ → List (InputOf Span) → List (Val (Unit {0})) → Option Values
arguments_at es vs n ds args = option_map row (entries_of (inputs_from (setting_at es vs n) ds (λ t. read_all (setting_at es vs n) (row args) (at_type t))))

pub arguments_done : (es : List EntryOf) (vs : Values) (n : ℕ) (ds defined : List (InputOf Span)) (args given : List (Val (Unit {0}))) (o : Option (Vec Entry Global)) →
    n ≡ suc (input_count es) → defined ≡ ds → given ≡ args →
    option_map (λ es. map entry_view es.items) o ≡ entries_of (inputs_from (record { entries = es; variables = vs; default = default_within n es }) defined (λ t. read_all (record { entries = es; variables = vs; default = default_within n es }) (row given) (at_type t))) →
    option_map (λ es. entries_view es.items) o ≡ coerced_arguments es vs ds args
arguments_done es vs n ds defined args given o limit are is answered =
    in_row o ∙ ap (option_map row) answered ∙ ap (λ m. arguments_at es vs m defined given) limit ∙ ap (λ xs. arguments_at es vs (suc (input_count es)) xs given) are ∙ ap (λ xs. arguments_at es vs (suc (input_count es)) ds xs) is

pub variables_done : (es : List EntryOf) (n : ℕ) (vs : List (VariableOf Span)) (raw : Values) (o : Option (Vec Entry Global)) → n ≡ suc (input_count es) →
    option_map (λ es. map entry_view es.items) o ≡ entries_of (map (variable_part (record { entries = es; variables = none; default = default_within n es }) raw) vs) →
    option_map (λ es. entries_view es.items) o ≡ coerced_variables es vs raw
variables_done es n vs raw o limit answered =
    in_row o ∙ ap (option_map row) answered ∙ ap (λ m. option_map row (entries_of (map (variable_part (setting_at es none m) raw) vs))) limit
