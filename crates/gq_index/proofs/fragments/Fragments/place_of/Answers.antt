-- A name that is new has the last place.
use Rattle.std.proofs.Common.{◌≡◌, None, sym, ◌∙◌}
use Rattle.std.specs.List.{position}
use Rattle.std.specs.Str.{bytes_eq}
use Rattle.gq_index.proofs.SpreadPlaceLemmas.{keep_new}
use Rattle.gq_index.proofs.StandLemmas.{new_place}
use Rattle.gq_index.proofs.fragments.Fragments.place_of.Goals as goal

pub returns-clause-at : goal.returns-clause-at
returns-clause-at c =
    let absent : position (bytes_eq c.args.name.now) c.args.self.now.names ≡ None = sym c.place.ensures ∙ c.in_default.is in
    rw (c.in_ok-add.ensures.ok, c.len-at.ensures) (new_place c.args.self.now.names c.args.name.now absent)

pub returns-clause-kept : goal.returns-clause-kept
returns-clause-kept c = rw c.in_ok-add.ensures.ok (keep_new c.args.self.now.names c.args.name.now)
