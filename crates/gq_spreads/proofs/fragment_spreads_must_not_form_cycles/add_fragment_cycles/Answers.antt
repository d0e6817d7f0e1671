use Rattle.std.proofs.Common.{◌∙◌, List, ℕ, Vec, Global, ap, length, sym, subst}
use Rattle.std.proofs.lemmas.List.{length-map}
use Rattle.std.proofs.lemmas.Result.{on_ok_weaker}
use Rattle.gq_graph.specs.Reach.{InRange}
use Rattle.gq_document.specs.Definitions.{FragmentOf}
use Rattle.gq_document.specs.Executable.{executable_view}
use Rattle.gq_spreads.specs.Helping.FragmentSpreadsMustNotFormCyclesPlaces.{AreComponents}
use Rattle.gq_spreads.proofs.NameRowLemmas.{names_in_range}
use Rattle.gq_spreads.proofs.CycleLemmas.{puts_cycles}
use Rattle.gq_spreads.proofs.fragment_spreads_must_not_form_cycles.add_fragment_cycles.Goals as goal

pub components-requires : goal.components-requires
components-requires c = record {
  rows = subst (λ (rows : List (Vec ℕ Global)). InRange rows) (sym c.deref.ensures.value) (names_in_range (executable_view c.args.executable.now).fragments c.in_ok-rows.rows.items c.in_ok-rows.ensures);
}

pub add_cycles-requires : goal.add_cycles-requires
add_cycles-requires c =
    ap length c.deref-2.ensures.value ∙ c.in_ok-components.ensures.count ∙ ap length c.deref.ensures.value ∙ c.in_ok-rows.ensures.count
    ∙ sym (ap length c.requires.names ∙ length-map (executable_view c.args.executable.now).fragments (λ (f : FragmentOf). f.name.text))

pub returns : goal.returns
returns c =
    let exact : AreComponents c.in_ok-rows.rows.items c.deref-2.result.now =
    subst (λ (rows : List (Vec ℕ Global)). AreComponents rows c.deref-2.result.now) c.deref.ensures.value
    (subst (λ (components : List ℕ). AreComponents c.deref.result.now components) (sym c.deref-2.ensures.value) c.in_ok-components.ensures.exact) in
    on_ok_weaker c.add_cycles.result
    (λ is. puts_cycles (executable_view c.args.executable.now) c.in_ok-rows.rows.items c.in_ok-rows.ensures c.deref-2.result.now exact c.args.names.now.names.items c.args.faults.now.items c.add_cycles.new.faults.items c.requires.names is)
    c.add_cycles.ensures
