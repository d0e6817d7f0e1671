use Rattle.std.proofs.Common.{rules, ap, ◌≡◌, None, length}
use Rattle.std.proofs.lemmas.List.{nil_from_length}
use Rattle.gq_rpc.specs.Frames.{contents}
use Rattle.gq_reader.specs.Reader.{seen}
use Rattle.gq_reader.proofs.Reading.{Fills-once, Ready-once, read_smaller}
use Rattle.gq_reader.proofs.reader.Pending.fill.Goals as goal

pub reads-preserved : goal.reads-preserved
reads-preserved g c =
    let a = seen g.S.Source.left g.S.Source.ended g.S.Source.failed c.args.input.now c.args.self.now in
    let v = seen g.S.Source.left g.S.Source.ended g.S.Source.failed c.reads.input c.reads.self in
    let w = seen g.S.Source.left g.S.Source.ended g.S.Source.failed c.read_once.new.input c.read_once.new.self in
    let none : length c.reads.self.bodies.items ≡ 0 = (search rules) in
    let empty = nil_from_length c.reads.self.bodies.items none in
    let goes : c.reads.self.no_more ≡ None = (search rules) in
    record {
      ready = Ready-once v w c.read_once.ensures;
      fills = Fills-once a v w c.reads.invariant.ready c.reads.invariant.fills (ap contents empty) goes c.read_once.ensures;
    }

pub reads-smaller : goal.reads-smaller
reads-smaller g c =
    let v = seen g.S.Source.left g.S.Source.ended g.S.Source.failed c.reads.input c.reads.self in
    let w = seen g.S.Source.left g.S.Source.ended g.S.Source.failed c.read_once.new.input c.read_once.new.self in
    let none : length c.reads.self.bodies.items ≡ 0 = (search rules) in
    let empty = nil_from_length c.reads.self.bodies.items none in
    let goes : c.reads.self.no_more ≡ None = (search rules) in
    read_smaller v w c.reads.invariant.ready (ap contents empty) goes c.read_once.ensures
