use Rattle.std.proofs.Common.{◌≡◌, false, is_some, length, refl, set, sym, ◌∙◌, ap}
use Rattle.std.specs.BTreeMap.{get_by_text}
use Rattle.gq_names.specs.Helping.Places.{in_bucket}
use Rattle.gq_names.proofs.FirstLemmas.{as_many, fills, finds_filled, is_free}
use Rattle.gq_names.proofs.places.FirstPlaces.fill.Goals as goal

pub returns-then-is_none-clause-places : goal.returns-then-is_none-clause-places
returns-then-is_none-clause-places c =
    let buckets = c.args.self.now.of_buckets.items in
    let under = get_by_text c.args.self.now.of_others in
    let names = c.args.names.now in
    let bucket = c.args.bucket in
    let none : is_some c.place_in.result ≡ false = c.if-is_none.ensures in
    let free = is_free (in_bucket buckets bucket) (ap is_some (sym c.place_in.ensures) ∙ none) in
    as_many buckets bucket 1 (in_bucket (set buckets bucket 1)) under names
    (finds_filled (length buckets) (in_bucket buckets) under names c.requires.places bucket (in_bucket (set buckets bucket 1)) free (fills buckets bucket 0 1 refl c.requires.within) c.requires.some)
