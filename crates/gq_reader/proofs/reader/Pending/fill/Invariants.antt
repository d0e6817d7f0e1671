use Rattle.gq_reader.specs.Reader.{seen, Ready, Fills}
use Rattle.gq_reader.proofs.Bounds.{to_read}
use Rattle.gq_reader.proofs.reader.Pending.fill.Given as goal

abbrev pub invariant-reads : goal.invariant-reads
invariant-reads g l = record {
  ready : Ready (seen g.S.Source.left g.S.Source.ended g.S.Source.failed l.input l.self);
  fills : Fills (seen g.S.Source.left g.S.Source.ended g.S.Source.failed l.initial.input l.initial.self) (seen g.S.Source.left g.S.Source.ended g.S.Source.failed l.input l.self);
}

abbrev pub decreases-reads : goal.decreases-reads
decreases-reads g l = to_read (seen g.S.Source.left g.S.Source.ended g.S.Source.failed l.input l.self)
