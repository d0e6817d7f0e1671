use Rattle.std.proofs.Common.{rules, ◌≡◌, sym, ◌∙◌, ap, length, []}
use Rattle.std.specs.BTreeMap.{get_by_text}
use Rattle.std.specs.Str.{bytes_eq}
use Rattle.std.proofs.lemmas.List.{get_or_default}
use Rattle.gq_names.specs.Helping.Places.{first_of, in_bucket, second_of}
use Rattle.gq_names.proofs.FirstLemmas.{at_first, at_second, behind_second, none_first, none_second}
use Rattle.gq_names.proofs.places.FirstPlaces.get.Goals as goal

pub returns-in_err-first : goal.returns-in_err-first
returns-in_err-first c =
    let buckets = c.args.self.now.of_buckets.items in
    let first = ap (in_bucket buckets) (ap (first_of (length buckets)) (sym c.digest-number.ensures) ∙ sym c.first_bucket.ensures.is) ∙ sym c.place_in.ensures in
    c.from_residual.ensures ∙ sym (none_first (length buckets) (in_bucket buckets) (get_by_text c.args.self.now.of_others) c.args.names.now c.requires c.args.name.now (first ∙ c.in_err-first.was))

pub returns-then-eq : goal.returns-then-eq
returns-then-eq c =
    let buckets = c.args.self.now.of_buckets.items in
    let names = c.args.names.now in
    let name = c.args.name.now in
    let first = ap (in_bucket buckets) (ap (first_of (length buckets)) (sym c.digest-number.ensures) ∙ sym c.first_bucket.ensures.is) ∙ sym c.place_in.ensures ∙ c.in_ok-first.was in
    let same = ap (bytes_eq name) (get_or_default names c.in_ok-first.first [] _ (c.requires.inside _ c.in_ok-first.first first) ∙ sym (c.as_str.ensures ∙ c.index-names-first.is)) ∙ sym c.if-eq.ensures in
    sym (at_first (length buckets) (in_bucket buckets) (get_by_text c.args.self.now.of_others) names c.requires name c.in_ok-first.first first same)

pub returns-in_err-second : goal.returns-in_err-second
returns-in_err-second c =
    let buckets = c.args.self.now.of_buckets.items in
    let names = c.args.names.now in
    let name = c.args.name.now in
    let first = ap (in_bucket buckets) (ap (first_of (length buckets)) (sym c.digest-number.ensures) ∙ sym c.first_bucket.ensures.is) ∙ sym c.place_in.ensures ∙ c.in_ok-first.was in
    let other = ap (bytes_eq name) (get_or_default names c.in_ok-first.first [] _ (c.requires.inside _ c.in_ok-first.first first) ∙ sym (c.as_str.ensures ∙ c.index-names-first.is)) ∙ sym c.if-eq.ensures in
    let second = ap (in_bucket buckets) (ap (second_of (length buckets)) (sym c.digest-number.ensures) ∙ sym c.second_bucket.ensures.is) ∙ sym c.place_in-2.ensures in
    c.from_residual-in_err-second.ensures ∙ sym (none_second (length buckets) (in_bucket buckets) (get_by_text c.args.self.now.of_others) names c.requires name c.in_ok-first.first first other (second ∙ c.in_err-second.was))

pub returns-then-eq-2 : goal.returns-then-eq-2
returns-then-eq-2 c =
    let buckets = c.args.self.now.of_buckets.items in
    let names = c.args.names.now in
    let name = c.args.name.now in
    let first = ap (in_bucket buckets) (ap (first_of (length buckets)) (sym c.digest-number.ensures) ∙ sym c.first_bucket.ensures.is) ∙ sym c.place_in.ensures ∙ c.in_ok-first.was in
    let other = ap (bytes_eq name) (get_or_default names c.in_ok-first.first [] _ (c.requires.inside _ c.in_ok-first.first first) ∙ sym (c.as_str.ensures ∙ c.index-names-first.is)) ∙ sym c.if-eq.ensures in
    let second = ap (in_bucket buckets) (ap (second_of (length buckets)) (sym c.digest-number.ensures) ∙ sym c.second_bucket.ensures.is) ∙ sym c.place_in-2.ensures ∙ c.in_ok-second.was in
    let same = ap (bytes_eq name) (get_or_default names c.in_ok-second.second [] _ (c.requires.inside _ c.in_ok-second.second second) ∙ sym (c.as_str-2.ensures ∙ c.index-names-second.is)) ∙ sym c.if-eq-2.ensures in
    sym (at_second (length buckets) (in_bucket buckets) (get_by_text c.args.self.now.of_others) names c.requires name c.in_ok-first.first c.in_ok-second.second first other second same)

pub returns : goal.returns
returns c =
    let buckets = c.args.self.now.of_buckets.items in
    let names = c.args.names.now in
    let name = c.args.name.now in
    let first = ap (in_bucket buckets) (ap (first_of (length buckets)) (sym c.digest-number.ensures) ∙ sym c.first_bucket.ensures.is) ∙ sym c.place_in.ensures ∙ c.in_ok-first.was in
    let other = ap (bytes_eq name) (get_or_default names c.in_ok-first.first [] _ (c.requires.inside _ c.in_ok-first.first first) ∙ sym (c.as_str.ensures ∙ c.index-names-first.is)) ∙ sym c.if-eq.ensures in
    let second = ap (in_bucket buckets) (ap (second_of (length buckets)) (sym c.digest-number.ensures) ∙ sym c.second_bucket.ensures.is) ∙ sym c.place_in-2.ensures ∙ c.in_ok-second.was in
    let another = ap (bytes_eq name) (get_or_default names c.in_ok-second.second [] _ (c.requires.inside _ c.in_ok-second.second second) ∙ sym (c.as_str-2.ensures ∙ c.index-names-second.is)) ∙ sym c.if-eq-2.ensures in
    let under : c.copied.result ≡ get_by_text c.args.self.now.of_others name = search rules in
    under ∙ sym (behind_second (length buckets) (in_bucket buckets) (get_by_text c.args.self.now.of_others) names c.requires name c.in_ok-first.first c.in_ok-second.second first other second another)
