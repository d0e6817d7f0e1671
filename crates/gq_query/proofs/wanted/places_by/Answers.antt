use Rattle.std.proofs.Common.{◌≡◌, ◌↔◌, ℕ, ◌<◌, List, ◌++◌, length, Contains, subst}
use Rattle.std.proofs.lemmas.Result.{IfOk-weaker}
use Rattle.gq_types.specs.Entries.{Text}
use Rattle.gq_index.specs.Occurrences.{fragment_definitions, fragment_spreads}
use Rattle.gq_index.specs.VariableGroups.{VariableGroup}
use Rattle.gq_mentions.specs.Views.{mention_view}
use Rattle.gq_query.specs.Helping.Gathered.{if_wanted, wanted_among}
use Rattle.gq_query.proofs.Exact.{fragment_wanted, variable_wanted}
use Rattle.gq_query.proofs.wanted.places_by.Goals as goal

pub returns-in-Fragment : goal.returns-in-Fragment
returns-in-Fragment c =
    let uses = c.args.wanted.uses in
    let declarations = c.args.wanted.declarations in
    IfOk-weaker c.fragment_places.result _ _
    (λ all e ds is.
    fragment_wanted ds uses declarations (mention_view c.args.mention.now) all.items c.in-Fragment.is
    (subst (λ (t : Text). all.items ≡ if_wanted uses (fragment_spreads ds t) ++ if_wanted declarations (fragment_definitions ds t)) c.as_str-name.ensures (e ds is)))
    c.fragment_places.ensures

pub returns-in_ok-group-in-Variable : goal.returns-in_ok-group-in-Variable
returns-in_ok-group-in-Variable c =
    let group = c.in_ok-group-in-Variable in
    let numbers = group.group.items in
    let uses = c.args.wanted.uses in
    let declarations = c.args.wanted.declarations in
    let n = c.args.mention.now.definition in
    IfOk-weaker c.variable_places.result _ _
    (λ all e ds is.
    variable_wanted ds uses declarations (mention_view c.args.mention.now) numbers all.items c.in-Variable.is
    (subst (λ (t : Text). n < length ds → (k : ℕ) → Contains numbers k ↔ VariableGroup ds t n k) c.as_str-name.ensures (group.ensures.group ds is))
    (group.ensures.past ds is)
    (subst (λ (t : Text). all.items ≡ wanted_among ds t uses declarations numbers) c.as_str-name.ensures
    (subst (λ (ns : List ℕ). all.items ≡ wanted_among ds c.as_str-name.result.now uses declarations ns) c.deref.ensures.value (e ds is))))
    c.variable_places.ensures
