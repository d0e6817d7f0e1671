use Rattle.std.proofs.Common.{length, sym, ◌∙◌, arith}
use Rattle.std.specs.List.{list_any}
use Rattle.std.specs.BTreeMap.{get_by_text}
use Rattle.std.specs.Str.{bytes_eq}
use Rattle.gq_names.specs.Helping.Places.{in_bucket}
use Rattle.gq_names.proofs.FirstLemmas.{finds_again, stands_if}
use Rattle.gq_names.proofs.places.FirstPlaces.put_behind.Goals.{else-names-ge-FEW-via-then-names-ge-FEW+else-is_first, else-names-ge-FEW-via-else-names-ge-FEW}
use Rattle.gq_names.proofs.places.FirstPlaces.put_behind.Goals as goal

pub returns-else-names-ge-FEW-clause-ok : goal.returns-else-names-ge-FEW-clause-ok
returns-else-names-ge-FEW-clause-ok c many = elim c.else-names-ge-FEW.branch [
  | else-names-ge-FEW-via-then-names-ge-FEW+else-is_first w ↦
      finds_again (length c.make.new.self.of_buckets.items) (in_bucket c.make.new.self.of_buckets.items) (get_by_text c.make.new.self.of_others) c.args.names.now (c.in_ok-make.ensures.ok many)
      c.args.name.now (stands_if (list_any (bytes_eq c.args.name.now) c.args.names.now) (sym (c.requires.first many) ∙ w.if-is_first.false))
  | else-names-ge-FEW-via-else-names-ge-FEW w ↦ absurd (omega (arith, many, w.if-names-ge-FEW.false))
]
