use Rattle.std.proofs.Common.{◌≡◌, [], ◌∷◌, ◌++◌, false, true, is_some, length, sym, ◌∙◌, ap, set}
use Rattle.std.specs.BTreeMap.{get_by_text}
use Rattle.gq_names.specs.Helping.Places.{first_of, in_bucket, second_of}
use Rattle.gq_names.proofs.FirstLemmas.{as_many, fills, in_first, in_second, is_free, is_taken}
use Rattle.gq_names.proofs.places.FirstPlaces.put.Goals as goal

pub returns-then-is_none-clause-ok : goal.returns-then-is_none-clause-ok
returns-then-is_none-clause-ok c =
    let buckets = c.args.self.now.of_buckets.items in
    let under = get_by_text c.args.self.now.of_others in
    let names = c.args.names.now in
    let name = c.args.name.now in
    let bucket = c.first_bucket-first.result in
    let is = c.first_bucket-first.ensures.is ∙ ap (first_of (length buckets)) c.digest-number.ensures in
    let none : is_some c.place_in.result ≡ false = c.if-is_none.ensures in
    let free = is_free (in_bucket buckets bucket) (ap is_some (sym c.place_in.ensures) ∙ none) in
    let filled = in_bucket (set buckets bucket c.in-Ok.kept) in
    let fills_it = fills buckets bucket (length names) c.in-Ok.kept c.in-Ok.ensures.1 c.first_bucket-first.ensures.within in
    as_many buckets bucket c.in-Ok.kept filled under (names ++ name ∷ [])
    (in_first (length buckets) (in_bucket buckets) under names c.requires.places name c.requires.new bucket filled free fills_it is)

pub returns-then-is_none-2-clause-ok : goal.returns-then-is_none-2-clause-ok
returns-then-is_none-2-clause-ok c =
    let buckets = c.args.self.now.of_buckets.items in
    let under = get_by_text c.args.self.now.of_others in
    let names = c.args.names.now in
    let name = c.args.name.now in
    let bucket = c.second_bucket-second.result in
    let is = c.second_bucket-second.ensures.is ∙ ap (second_of (length buckets)) c.digest-number.ensures in
    let first = ap (in_bucket buckets) (ap (first_of (length buckets)) (sym c.digest-number.ensures) ∙ sym c.first_bucket-first.ensures.is) ∙ sym c.place_in.ensures in
    let some : is_some c.place_in.result ≡ true = c.if-is_none.ensures in
    let taken = is_taken c.place_in.result some in
    let none : is_some c.place_in-else-is_none.result ≡ false = c.if-is_none-2.ensures in
    let free = is_free (in_bucket buckets bucket) (ap is_some (sym c.place_in-else-is_none.ensures) ∙ none) in
    let filled = in_bucket (set buckets bucket c.in-Ok.kept) in
    let fills_it = fills buckets bucket (length names) c.in-Ok.kept c.in-Ok.ensures.1 c.second_bucket-second.ensures.within in
    as_many buckets bucket c.in-Ok.kept filled under (names ++ name ∷ [])
    (in_second (length buckets) (in_bucket buckets) under names c.requires.places name c.requires.new bucket filled free fills_it taken.0 (first ∙ taken.1) is)
