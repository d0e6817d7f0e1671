use Rattle.std.proofs.Common.{◌≡◌, List, ℕ, Some, length, refl, ◌∙◌, ap}
use Rattle.std.specs.BTreeMap.{get_by_text}
use Rattle.std.specs.Map.{update}
use Rattle.std.specs.Str.{bytes_eq}
use Rattle.std.specs.String.{string_bytes}
use Rattle.std.proofs.lemmas.Map.Text.{btree_map_updates_text}
use Rattle.gq_names.specs.Helping.Places.{digest, first_of, in_bucket, second_of}
use Rattle.gq_names.proofs.FirstLemmas.{by_text, finds_same, is_taken, on_err}
use Rattle.gq_names.proofs.places.FirstPlaces.put_under.Goals as goal

pub returns-in_err-insert-clause-err : goal.returns-in_err-insert-clause-err
returns-in_err-insert-clause-err c =
    let buckets = c.args.self.now.of_buckets.items in
    on_err c.from_residual-in_err-insert.result
    (finds_same (length buckets) (in_bucket buckets) (get_by_text c.args.self.now.of_others) (get_by_text c.insert.new.self) c.args.names.now c.requires.places
    (λ text. rw c.in_err-insert.ensures.err refl))

pub returns-clause-ok : goal.returns-clause-ok
returns-clause-ok c =
    let buckets = c.args.self.now.of_buckets.items in
    let under = get_by_text c.args.self.now.of_others in
    let names = c.args.names.now in
    let name = c.args.name.now in
    let first = is_taken (in_bucket buckets (first_of (length buckets) (digest name))) c.requires.first in
    let second = is_taken (in_bucket buckets (second_of (length buckets) (digest name))) c.requires.second in
    let sets : (text : List ℕ) → get_by_text c.insert.new.self text ≡ update bytes_eq under name (Some (length names)) text = λ text.
    btree_map_updates_text (string_bytes c.in_ok-key.key) c.args.self.now.of_others c.insert.new.self (Some (length names)) c.in_ok-insert.ensures.updates text
    ∙ ap (λ n. update bytes_eq under n (Some (length names)) text) c.in_ok-key.ensures.ok in
    by_text (length buckets) (in_bucket buckets) under names c.requires.places name c.requires.new (get_by_text c.insert.new.self) first.0 second.0 first.1 second.1 sets
