-- What stands under the name is more, and what stands under others is the same.
use Rattle.std.proofs.Common.{◌∙◌, ap}
use Rattle.std.specs.Str.{bytes_eq}
use Rattle.std.proofs.lemmas.Result.{on_ok_weaker}
use Rattle.gq_index.specs.Helping.StandingParts.{both, if_so, defined_at}
use Rattle.gq_index.proofs.StandLemmas.{grown_under}
use Rattle.gq_index.proofs.fragments.Fragments.define.Goals as goal

pub returns-clause-stand : goal.returns-clause-stand
returns-clause-stand c =
    let there = c.place_of.new.self in
    let name = c.args.name.now in
    let one = (defined_at c.args.place c.args.number) in
    on_ok_weaker c.define.result
    (λ grown text. grown_under there.names there.named.items name c.in_ok-at.at one c.index_mut.result.now c.define.new.self there.same_count c.in_ok-at.ensures.at c.index_mut.ensures.value grown text
    ∙ ap (λ s. both s (if_so (bytes_eq text name) one)) (c.in_ok-at.ensures.same text))
    c.define.ensures
