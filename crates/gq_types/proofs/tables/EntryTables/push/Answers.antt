use Rattle.std.proofs.Common.{◌∙◌}
use Rattle.gq_types.proofs.EntryTablesLemmas.{one_kept}
use Rattle.gq_types.proofs.tables.EntryTables.push.Goals as goal

pub returns : goal.returns
returns c =
    let entry = c.index-entries-number in
    one_kept c.args.entries.now c.args.number entry.result c.requires.number entry.is c.numbers_at-numbers.result.now (c.numbers_at-numbers.ensures ∙ c.requires.joined c.args.number)
    c.args.self.now (record { fields = c.push.new.self; parts = c.push-2.new.self; required = c.push-3.new.self; arguments = c.push-4.new.self; locations = c.push-5.new.self })
    c.in_ok-table.table c.in_ok-parts.parts c.in_ok-required.required c.in_ok-names.names c.in_ok-kept.kept
    c.in_ok-push.ensures.items c.in_ok-push-2.ensures.items c.in_ok-push-3.ensures.items c.in_ok-push-4.ensures.items c.in_ok-push-5.ensures.items
    c.in_ok-table.ensures c.in_ok-parts.ensures c.in_ok-required.ensures (rw c.deref.ensures at c.in_ok-names.ensures)
    (rw c.deref-2.ensures at (rw c.locations_in.ensures at c.in_ok-kept.ensures)) c.requires.below
