use Rattle.std.proofs.Common.{rules, ◌≡◌, length}
use Rattle.gq_merging.proofs.KeptLemmas.{table_put}
use Rattle.gq_merging.proofs.kept.put_table.Goals as goal

pub returns : goal.returns
returns c =
    let last : c.len-place.result ≡ length c.make_room.new.kept.tables.items = search rules in
    table_put c.args.kept.now.tables.items c.make_room.new.kept.tables.items c.push.new.self.items c.len-place.result c.args.table c.make_room.ensures c.in_ok-push.ensures.items last
