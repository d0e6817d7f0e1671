-- What is said of the reading at that place is said of what the readings are there.
use Rattle.std.proofs.Common.{◌≡◌, false, rules, subst, sym}
use Rattle.gq_tree.specs.declared.parsed.Parsed.{Parsed}
use Rattle.gq_tree.specs.Readings.{definitions_read, parsed_view}
use Rattle.gq_kept.specs.Helping.Unindexed.{AddNothing}
use Rattle.gq_kept.proofs.IndexLemmas.{read_there}
use Rattle.gq_kept.proofs.indexed.stays_indexed.Goals as goal

pub returns-then-not-has_executables : goal.returns-then-not-has_executables
returns-then-not-has_executables c e =
    let old : c.has_executables.result ≡ false = search rules in
    let new : c.has_executables-then-not-has_executables.result ≡ false = search rules in
    let before = subst (λ (r : Parsed). AddNothing (definitions_read (parsed_view r))) c.deref.ensures (c.has_executables.ensures old) in
    let after = subst (λ (r : Parsed). AddNothing (definitions_read (parsed_view r))) c.deref-then-not-has_executables.ensures (c.has_executables-then-not-has_executables.ensures new) in
    (subst AddNothing (sym (read_there c.args.readings.now c.args.at c.index-readings-at.result c.requires c.index-readings-at.is)) before, after)
