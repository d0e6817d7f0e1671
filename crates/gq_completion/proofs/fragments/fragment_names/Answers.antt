use Rattle.std.proofs.Common.{◌++◌, List, sym, ap, ◌∙◌, flat_map}
use Rattle.std.proofs.lemmas.List.{append-nil, drop_all}
use Rattle.gq_tree.specs.Readings.{SharedParsed, readings_view}
use Rattle.gq_completion.specs.Helping.Fragments.{fragments_in}
use Rattle.gq_completion.proofs.FragmentLemmas.{names_are}
use Rattle.gq_completion.proofs.fragments.fragment_names.Goals as goal

pub returns : goal.returns
returns c =
    let names = c.loop-reading.names.items in
    let readings = c.args.readings.now in
    let all = ap (λ (rs : List SharedParsed). names ++ flat_map fragments_in (readings_view rs)) (drop_all c.loop-reading.reading-index readings c.loop-reading-test.false) in
    names_are c.one_tree.ensures (readings_view readings) names (sym (append-nil names) ∙ sym all ∙ c.loop-reading.invariant)
