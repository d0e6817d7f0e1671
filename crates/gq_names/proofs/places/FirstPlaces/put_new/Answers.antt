use Rattle.std.proofs.Common.{is_some, length, sym, ◌∙◌, ap}
use Rattle.std.specs.BTreeMap.{get_by_text}
use Rattle.std.specs.Str.{bytes_eq}
use Rattle.gq_names.specs.Helping.Places.{in_bucket}
use Rattle.gq_names.proofs.PlaceLemmas.{is_some_position}
use Rattle.gq_names.proofs.FirstLemmas.{finds_again}
use Rattle.gq_names.proofs.places.FirstPlaces.put_new.Goals as goal

pub put-requires-clause-new : goal.put-requires-clause-new
put-requires-clause-new c =
    sym (is_some_position (bytes_eq c.args.name.now) c.args.names.now) ∙ ap is_some (sym c.get.ensures) ∙ c.if-is_none.ensures

pub returns-else-is_none : goal.returns-else-is_none
returns-else-is_none c =
    finds_again (length c.args.self.now.of_buckets.items) (in_bucket c.args.self.now.of_buckets.items) (get_by_text c.args.self.now.of_others) c.args.names.now c.requires
    c.args.name.now (sym (is_some_position (bytes_eq c.args.name.now) c.args.names.now) ∙ ap is_some (sym c.get.ensures) ∙ c.if-is_none.ensures)
