-- What stands before a place, and what stands behind it.
use Rattle.std.proofs.Common.{◌≡◌, ◌+◌, List, ◌++◌, ap, drop, take, ◌∙◌}
use Rattle.gq_tree.specs.Readings.{ParsedOf, SharedParsed, readings_view}
use Rattle.gq_kept.proofs.TypesLemmas.{read_before, read_behind, removed_between}
use Rattle.gq_kept.proofs.typed.readings_without.Goals as goal

pub returns : goal.returns
returns c =
    let readings = c.args.readings.now in
    let rs = readings_view readings in
    let before : readings_view c.add_shared.new.all.items ≡ take c.args.at rs =
    c.in_ok-add_shared.ensures ∙ ap (λ (all : List SharedParsed). readings_view all ++ readings_view (take c.args.at readings)) c.in_ok-all.ensures.items ∙ read_before readings c.args.at in
    c.in_ok-add_shared-2.ensures
    ∙ ap (λ (others : List ParsedOf). readings_view c.add_shared.new.all.items ++ others) (read_behind readings (c.args.at + 1))
    ∙ ap (λ (others : List ParsedOf). others ++ drop (c.args.at + 1) rs) before
    ∙ removed_between rs c.args.at
