-- What is told of all selections is told of those that are no fields.
use Rattle.std.proofs.Common.{◌≡◌, ◌++◌, List, [], append_assoc, ap, ◌∙◌}
use Rattle.std.proofs.lemmas.Result.{on_ok_weaker}
use Rattle.gq_types.specs.Look.{types_view}
use Rattle.gq_document.specs.Definitions.{fragments_view}
use Rattle.gq_document.specs.Executable.{executable_view}
use Rattle.gq_document.specs.Views.{selections_view}
use Rattle.gq_fault.specs.declared.fault.Fault.{Fault}
use Rattle.gq_fragments.specs.Helping.FragmentPlaces.{repeated_names, conditions_of_fragments, selections, of_fragments, faults_of_selections}
use Rattle.gq_fragments.proofs.FragmentLemmas.{told_of_fragments}
use Rattle.gq_fragments.proofs.fragment_faults.add_each_rule.Goals as goal

-- three lists behind one
pub behind : {A : Type 0} (old first second third : List A) → ((old ++ first) ++ second) ++ third ≡ old ++ (first ++ (second ++ third))
behind old first second third = append_assoc (old ++ first) second third ∙ append_assoc old first (second ++ third)

pub returns : goal.returns
returns c =
    let x = executable_view c.args.executable.now in
    let all = ap selections_view c.deref.ensures.value ∙ c.in_ok-all.ensures in
    let told : faults_of_selections x (selections_view c.deref.result.now) ≡ faults_of_selections x (selections x) = ap (faults_of_selections x) all ∙ told_of_fragments x (selections x) in
    let before = c.in_ok-add_conditions_of_fragments.ensures ∙ ap (λ (l : List Fault). l ++ conditions_of_fragments x.entries x.fragments) c.in_ok-add_repeated_names.ensures in
    on_ok_weaker c.add_of_selections.result
    (λ is.
    is
    ∙ ap (λ (l : List Fault). c.add_conditions_of_fragments.new.faults.items ++ l) told
    ∙ ap (λ (l : List Fault). l ++ faults_of_selections x (selections x)) before
    ∙ behind c.args.faults.now.items (repeated_names [] x.fragments) (conditions_of_fragments x.entries x.fragments) (faults_of_selections x (selections x)))
    c.add_of_selections.ensures
