-- The marks are made from the names of before.
use Rattle.std.proofs.Common.{◌≡◌, List, ap, map, ◌∙◌}
use Rattle.std.specs.List.{insert}
use Rattle.gq_types.specs.Entries.{Text}
use Rattle.gq_by_file.specs.declared.names.FileNames.{FileNames}
use Rattle.gq_by_file.specs.Helping.Covers.{has_one_of}
use Rattle.gq_by_file.proofs.across.Across.put_names.Goals as goal

pub returns-then-is_empty : goal.returns-then-is_empty
returns-then-is_empty c es rs r named are = c.forget.ensures es (insert rs c.args.at r)

pub returns-in-Ok : goal.returns-in-Ok
returns-in-Ok c es rs r named are =
    let names : List FileNames = c.args.self.now.names.items in
    let new : FileNames = c.args.names in
    let marked : c.deref-in-Ok.result.now ≡ map (λ (one : FileNames). has_one_of new.fragments.items one.spreads.items) names =
    c.deref-in-Ok.ensures.value ∙ c.in-Ok.ensures
    ∙ ap (λ (ns : List FileNames). map (λ (one : FileNames). has_one_of c.deref-2.result.now one.spreads.items) ns) c.deref.ensures.value
    ∙ ap (λ (ts : List Text). map (λ (one : FileNames). has_one_of ts one.spreads.items) names) c.deref-2.ensures.value in
    c.put_marked.ensures marked es rs r named are

pub returns-in-Err : goal.returns-in-Err
returns-in-Err c es rs r named are = c.forget-in-Err.ensures es (insert rs c.args.at r)
