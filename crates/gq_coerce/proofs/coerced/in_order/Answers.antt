use Rattle.std.proofs.Common.{rules}
use Rattle.std.proofs.lemmas.Fn.{always_returns_same}
use Rattle.gq_coerce.proofs.Entries.{comes_before, is_order, sorted_entries}
use Rattle.gq_coerce.proofs.coerced.in_order.Goals as goal

pub returns : goal.returns
returns c =
    let answers = always_returns_same _ _ _ (λ a r f k. search rules) in
    sorted_entries c.args.gathered.items c.sort_by.new.self.items (c.in_ok-sort_by.ensures.sorted comes_before is_order answers) (c.sort_by.ensures.stable comes_before is_order answers)
