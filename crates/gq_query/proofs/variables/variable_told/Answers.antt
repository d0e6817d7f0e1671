use Rattle.std.proofs.Common.{◌≡◌, ◌↔◌, ℕ, ◌<◌, List, Contains, length, subst}
use Rattle.std.specs.Option.{option_map}
use Rattle.gq_types.specs.Entries.{Text}
use Rattle.gq_index.specs.VariableGroups.{VariableGroup}
use Rattle.gq_query.specs.Helping.Gathered.{first_of}
use Rattle.gq_query.specs.Groups.{variable_at}
use Rattle.gq_query.specs.Helping.Own.{all_definitions}
use Rattle.gq_query.specs.Words.{variable_words}
use Rattle.gq_query.proofs.Exact.{variable_is_told}
use Rattle.gq_query.proofs.variables.variable_told.Goals as goal

pub returns : goal.returns
returns c = λ is.
    let ds = all_definitions c.args.readings.now in
    let n = c.args.mention.now.definition in
    let group = c.in_ok-group in
    let numbers = group.group.items in
    let told = c.in_ok-told.told in
    let words =
    subst (λ (l : List ℕ). told ≡ option_map (λ v. variable_words c.as_str-name.result.now v.type_ref) (first_of (variable_at ds c.as_str-name.result.now) l))
    c.deref.ensures.value (c.in_ok-told.ensures is) in
    variable_is_told ds c.args.mention.now.name.now.text n numbers told group.ensures.ascending
    (subst (λ (t : Text). n < length ds → (k : ℕ) → Contains numbers k ↔ VariableGroup ds t n k) c.as_str-name.ensures (group.ensures.group ds is))
    (group.ensures.past ds is)
    (subst (λ (t : Text). told ≡ option_map (λ v. variable_words t v.type_ref) (first_of (variable_at ds t) numbers)) c.as_str-name.ensures words)
