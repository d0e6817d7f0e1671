use Rattle.std.proofs.Common.{arith}
use Rattle.std.proofs.lemmas.Grind.{common_steps}
use Rattle.gq_types.specs.Entries.{entries_view}
use Rattle.gq_types.specs.Joined.{is_schema}
use Rattle.gq_types.proofs.Searches.{place_or_length}
use Rattle.gq_types.proofs.definitions.schema_place.Goals as goal

pub returns-then-is_schema : goal.returns-then-is_schema
returns-then-is_schema c =
    let place = place_or_length (λ e. is_schema e.definition) (entries_view c.args.entries.now) in
    grind (arith, common_steps, place)

pub returns : goal.returns
returns c =
    let place = place_or_length (λ e. is_schema e.definition) (entries_view c.args.entries.now) in
    grind (arith, common_steps, place)
