-- One document more is read.
use Rattle.std.proofs.Common.{List, [], subst, sym}
use Rattle.gq_tree.specs.Readings.{SharedParsed, readings_view}
use Rattle.gq_parse.specs.Parsed.{AreParsed, none}
use Rattle.gq_kept.proofs.RemadeLemmas.{one_more_read, all_read}
use Rattle.gq_kept.proofs.kept.Kept.readings_of.Goals as goal

pub loop-doc-init : goal.loop-doc-init
loop-doc-init c = subst (λ (rs : List SharedParsed). ∥ AreParsed [] (readings_view rs) ∥₁) (sym c.in_ok-readings.ensures.items) ∣ none ∣₁

pub loop-doc-preserved : goal.loop-doc-preserved
loop-doc-preserved c =
    one_more_read c.args.documents.now c.loop-doc.doc-index c.doc-item.result c.loop-doc.readings.items c.push.new.self.items c.in_ok-reading_of.field-0 c.loop-doc-test.true c.doc-item.is
    c.loop-doc.invariant c.in_ok-reading_of.ensures c.in_ok-push.ensures.items

pub returns : goal.returns
returns c = all_read c.args.documents.now c.loop-doc.doc-index c.loop-doc.readings.items c.loop-doc-test.false c.loop-doc.invariant
