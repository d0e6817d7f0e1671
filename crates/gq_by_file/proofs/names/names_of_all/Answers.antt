-- The names in one document more are there.
use Rattle.std.proofs.Common.{subst}
use Rattle.gq_tree.specs.declared.parsed.Parsed.{Parsed}
use Rattle.gq_tree.specs.Readings.{parsed_view}
use Rattle.gq_by_file.specs.Names.{AreNamesIn, none}
use Rattle.gq_by_file.proofs.NameLemmas.{names_next}
use Rattle.gq_by_file.proofs.names.names_of_all.Goals as goal

pub loop-reading-init : goal.loop-reading-init
loop-reading-init g c = rw c.in_ok-all.ensures.items none

pub loop-reading-preserved : goal.loop-reading-preserved
loop-reading-preserved g c =
    names_next (λ reading. parsed_view (g.R.AsParsed.as_parsed reading)) c.args.readings.now c.loop-reading.reading-index c.reading-item.result
    c.loop-reading.all.items c.push.new.self.items c.in_ok-of.field-0 c.loop-reading-test.true c.reading-item.is
    (subst (λ (r : Parsed). AreNamesIn (parsed_view r) c.in_ok-of.field-0) c.as_parsed.ensures c.in_ok-of.ensures) c.loop-reading.invariant c.in_ok-push.ensures.items
