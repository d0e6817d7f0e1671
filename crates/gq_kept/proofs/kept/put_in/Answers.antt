-- What was put in is taken out again.
use Rattle.std.proofs.Common.{◌≡◌, true, List, ap, ◌∙◌, is_ok, rules}
use Rattle.std.specs.List.{remove}
use Rattle.gq_tree.specs.Readings.{SharedParsed}
use Rattle.gq_index.proofs.Parallel.{remove_insert}
use Rattle.gq_kept.proofs.kept.put_in.Goals as goal

pub returns-then-is_err-2-clause-same_readings : goal.returns-then-is_err-2-clause-same_readings
returns-then-is_err-2-clause-same_readings c =
    let ok : is_ok c.insert.result ≡ true = search rules in
    c.take_out.ensures ∙ ap (λ (xs : List SharedParsed). remove xs c.args.at) (rw ok at c.insert.ensures.items) ∙ remove_insert c.args.readings.now.items c.args.at c.args.reading c.requires
